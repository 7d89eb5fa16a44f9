-- A payload is a frame of at most one list, or has one first fault.
use Rattle.std.proofs.Common.{◌≡◌, ℕ, suc, ◌+◌, ◌/◌, ◌%◌, ◌<◌, ◌≤◌, Bool, true, false, cond, eqb, List, [], ◌∷◌, ◌++◌, length, take, drop, Result, Ok, Err, refl, sym, ap, ◌∙◌, arith, inl, inr}
use Rattle.std.specs.List.{AllByRecursion}
use Rattle.std.proofs.lemmas.List.{length-append, take_at, drop_at, length-drop, length-take-le, take-append-drop}
use Rattle.std.proofs.lemmas.Bool.Decides.{nat_tests}
use Rattle.byteorder.specs.Endian.{little_bytes, little_number}
use Rattle.ec_frame.specs.declared.error.FrameError.{FrameError}
use Rattle.ec_frame.specs.declared.error.FrameError.TheVariants.{Short, BadType, TooLong, BadLength, BadCommand, BadMore}
use Rattle.ec_frame.specs.Datagram.{Datagram, spelling, IsDatagram, joined, opened}
use Rattle.ec_frame.specs.Frame.{Payload, IsFrame, length_field, area}
use Rattle.ec_frame.specs.Refusals.{FirstFault, HasArea, IsRefused}
use Rattle.ec_frame.specs.Reading.{GivesCount, GivesVerdict}
use Rattle.ec_frame.proofs.Numbers.{IsBytes, all_bytes, word_back, word_again}
use Rattle.ec_frame.proofs.Readings.{Reads, one_reading, Ended, ended}

area_length : (payload : List ℕ) → HasArea payload → length (area payload) ≡ length_field payload
area_length payload h = let whole = h.whole in length-take-le (length_field payload) (drop 2 payload) (omega (arith, length-drop 2 payload))

some_datagram : (ds : List Datagram) (xs : List ℕ) → xs ≡ joined ds → 0 < length xs → 0 < length ds
some_datagram [] xs e h = absurd (omega (arith, ap length e))
some_datagram (d ∷ ds) xs e h = omega arith

number_is : (w : ℕ) → w / 4096 ≡ 1 → w ≡ w % 2048 + cond (eqb (w / 2048 % 2) 1) 2048 0 + 4096
number_is w e = grind (arith, nat_tests)

-- what the payload says
abbrev said : List ℕ → List Datagram → Payload
said payload ds = record { reserved = eqb (little_number 2 payload / 2048 % 2) 1; datagrams = ds; rest = drop (length_field payload) (drop 2 payload) }

found : (payload : List ℕ) → IsBytes payload → HasArea payload → 0 < length_field payload → (ds : List Datagram) → AllByRecursion IsDatagram ds → area payload ≡ joined ds → IsFrame payload (said payload ds)
found payload fits h some ds each e =
    let w : ℕ = little_number 2 payload in
    let bit : ℕ = cond (eqb (w / 2048 % 2) 1) 2048 0 in
    let size = area_length payload h in
    let two = h.header.whole in
    let most = h.header.most in
    let tail : List ℕ = drop (length_field payload) (drop 2 payload) in
    let long : length (joined ds) ≡ length_field payload = ap length (sym e) ∙ size in
    let number : w ≡ length (joined ds) + bit + 4096 = number_is w h.header.type ∙ ap (λ (n : ℕ). n + bit + 4096) (sym long) in
    let rest : drop 2 payload ≡ joined ds ++ tail = sym (take-append-drop (length_field payload) (drop 2 payload)) ∙ ap (λ (xs : List ℕ). xs ++ tail) e in
    record {
      bytes = all_bytes payload fits;
      some = some_datagram ds (area payload) e (omega arith);
      each = each;
      most = omega arith;
      parts = sym (word_back payload fits two) ∙ ap (λ (n : ℕ). little_bytes 2 n ++ drop 2 payload) number ∙ ap (λ (xs : List ℕ). little_bytes 2 (length (joined ds) + bit + 4096) ++ xs) rest;
    }

pub verdict_of : (payload : List ℕ) (r : Result ℕ FrameError) → IsBytes payload → HasArea payload → 0 < length_field payload → GivesCount (area payload) r → GivesVerdict payload r
verdict_of payload (Ok count) fits h some g = (said payload g.0, found payload fits h some g.0 g.1 g.2, g.3)
verdict_of payload (Err Short) fits h some g = absurd g.fault
verdict_of payload (Err BadType) fits h some g = absurd g.fault
verdict_of payload (Err TooLong) fits h some g = absurd g.fault
verdict_of payload (Err BadLength) fits h some g = (h, inr g)
verdict_of payload (Err BadCommand) fits h some g = (h, g)
verdict_of payload (Err BadMore) fits h some g = (h, g)

-- ---- what a frame's header says

header_number : (n bit : ℕ) → n ≤ 1470 → bit ≤ 2048 → (bit % 2048 ≡ 0) → ((n + bit + 4096) % 2048 ≡ n) × ((n + bit + 4096) / 4096 ≡ 1)
header_number n bit p q r = (omega arith, omega arith)

abbrev pub reserved_bit : Bool → ℕ
reserved_bit b = cond b 2048 0

reserved_fits : (b : Bool) → (reserved_bit b ≤ 2048) × (reserved_bit b % 2048 ≡ 0)
reserved_fits true = (omega arith, omega arith)
reserved_fits false = (omega arith, omega arith)

pub record AreaIs (payload : List ℕ) (p : Payload) : Type 0 where
  pub has : HasArea payload
  pub said : length_field payload ≡ length (joined p.datagrams)
  pub area : area payload ≡ joined p.datagrams
  pub number : little_number 2 payload ≡ length (joined p.datagrams) + reserved_bit p.reserved + 4096
  pub rest : drop 2 payload ≡ joined p.datagrams ++ p.rest

pub area_is : (payload : List ℕ) (p : Payload) → IsFrame payload p → AreaIs payload p
area_is payload p s =
    let n : ℕ = length (joined p.datagrams) in
    let bit : ℕ = reserved_bit p.reserved in
    let most = s.most in
    let bit_fits = reserved_fits p.reserved in
    let w : little_number 2 payload ≡ n + bit + 4096 = ap (λ (xs : List ℕ). little_number 2 xs) s.parts ∙ word_again (n + bit + 4096) (joined p.datagrams ++ p.rest) (omega arith) in
    let hn = header_number n bit most bit_fits.0 bit_fits.1 in
    let st : length_field payload ≡ n = ap (λ (x : ℕ). x % 2048) w ∙ hn.0 in
    let long : length payload ≡ 2 + (n + length p.rest) = ap length s.parts ∙ ap (λ (x : ℕ). suc (suc x)) (length-append (joined p.datagrams) p.rest) ∙ omega arith in
    let behind : drop 2 payload ≡ joined p.datagrams ++ p.rest = ap (λ (xs : List ℕ). drop 2 xs) s.parts in
    record {
      has = record { header = record { whole = omega arith; type = ap (λ (x : ℕ). x / 4096) w ∙ hn.1; most = omega arith }; whole = omega arith };
      said = st;
      area = rw st (ap (λ (xs : List ℕ). take n xs) behind ∙ take_at (joined p.datagrams) p.rest n refl);
      number = w;
      rest = behind;
    }

reads_of : (xs : List ℕ) (ds : List Datagram) (t : Ended ds) → xs ≡ joined ds → Reads xs t.before (spelling false t.last) (Ok t.last)
reads_of xs ds t e = record { each = t.each; some = omega arith; parts = e ∙ t.spelled; ends = (t.good, refl) }

abbrev EndOf : Type 0
EndOf = Result Datagram FrameError

ok_is : (d e : Datagram) → ◌≡◌ {A = Result Datagram FrameError} (Ok d) (Ok e) → d ≡ e
ok_is d e p = cc

err_is : (e f : FrameError) → ◌≡◌ {A = Result Datagram FrameError} (Err e) (Err f) → e ≡ f
err_is e f p = cc

ok_no_err : (d : Datagram) (e : FrameError) → ◌≡◌ {A = Result Datagram FrameError} (Ok d) (Err e) → ⊥
ok_no_err d e p = cc

-- a payload is a frame of one list
pub one_list : (payload : List ℕ) (p q : Payload) → IsFrame payload p → IsFrame payload q → p.datagrams ≡ q.datagrams
one_list payload p q f g =
    let s = ended p.datagrams f.some f.each in
    let t = ended q.datagrams g.some g.each in
    let one = one_reading s.before t.before (area payload) _ _ (Ok s.last) (Ok t.last) (reads_of (area payload) p.datagrams s (area_is payload p f).area) (reads_of (area payload) q.datagrams t (area_is payload q g).area) in
    let last : s.last ≡ t.last = ok_is s.last t.last one.1 in
    s.is ∙ ap (λ (b : List Datagram). b ++ s.last ∷ []) one.0 ∙ ap (λ (d : Datagram). t.before ++ d ∷ []) last ∙ sym t.is

one_bit : (n : ℕ) (a b : Bool) → n + reserved_bit a + 4096 ≡ n + reserved_bit b + 4096 → a ≡ b
one_bit n true true e = refl
one_bit n false false e = refl
one_bit n true false e = absurd (omega arith)
one_bit n false true e = absurd (omega arith)

same_payload : (a b : Bool) (ds es : List Datagram) (x y : List ℕ) → a ≡ b → ds ≡ es → x ≡ y
    → ◌≡◌ {A = Payload} (record { reserved = a; datagrams = ds; rest = x }) (record { reserved = b; datagrams = es; rest = y })
same_payload a b ds es x y p q r = rw (p, q, r) refl

-- and of one payload
pub one_payload : (payload : List ℕ) (p q : Payload) → IsFrame payload p → IsFrame payload q → p ≡ q
one_payload payload p q f g =
    let ds = one_list payload p q f g in
    let a = area_is payload p f in
    let b = area_is payload q g in
    let n : ℕ = length (joined p.datagrams) in
    let same : n + reserved_bit p.reserved + 4096 ≡ n + reserved_bit q.reserved + 4096 = sym a.number ∙ b.number ∙ ap (λ (es : List Datagram). length (joined es) + reserved_bit q.reserved + 4096) (sym ds) in
    let ends : joined p.datagrams ++ p.rest ≡ joined p.datagrams ++ q.rest = sym a.rest ∙ b.rest ∙ ap (λ (es : List Datagram). joined es ++ q.rest) (sym ds) in
    let rest : p.rest ≡ q.rest = sym (drop_at (joined p.datagrams) p.rest n refl) ∙ ap (λ (xs : List ℕ). drop n xs) ends ∙ drop_at (joined p.datagrams) q.rest n refl in
    same_payload p.reserved q.reserved p.datagrams q.datagrams p.rest q.rest (one_bit n p.reserved q.reserved same) ds rest

reads_fault : (xs : List ℕ) (e : FrameError) (f : FirstFault xs e) → Reads xs f.before f.rest (Err e)
reads_fault xs e f = record { each = f.each; some = f.some; parts = f.parts; ends = f.fault }

not_empty : (xs : List ℕ) (e : FrameError) → FirstFault xs e → length xs ≡ 0 → ⊥
not_empty xs e f h = let some = f.some in omega (arith, ap length f.parts, length-append (opened f.before) f.rest)

no_first_fault : (payload : List ℕ) (p : Payload) (e : FrameError) → IsFrame payload p → FirstFault (area payload) e → ⊥
no_first_fault payload p e f g =
    let s = ended p.datagrams f.some f.each in
    let one = one_reading s.before g.before (area payload) _ _ (Ok s.last) (Err e) (reads_of (area payload) p.datagrams s (area_is payload p f).area) (reads_fault (area payload) e g) in
    ok_no_err s.last e one.1

frame_some : (payload : List ℕ) (p : Payload) → IsFrame payload p → length_field payload ≡ 0 → ⊥
frame_some payload p f z =
    let s = ended p.datagrams f.some f.each in
    let a = (area_is payload p f).said in
    omega (arith, ap length s.spelled, length-append (opened s.before) (spelling false s.last))

pub no_refusal : (payload : List ℕ) (p : Payload) (e : FrameError) → IsFrame payload p → IsRefused payload e → ⊥
no_refusal payload p Short f (inl few) = let a = (area_is payload p f).has in omega arith
no_refusal payload p Short f (inr (h, few)) = let a = (area_is payload p f).has in omega arith
no_refusal payload p BadType f (two, other) = other (area_is payload p f).has.header.type
no_refusal payload p TooLong f (two, k, big) = let a = (area_is payload p f).has.header in omega arith
no_refusal payload p BadLength f (h, inl z) = frame_some payload p f z
no_refusal payload p BadLength f (h, inr g) = no_first_fault payload p BadLength f g
no_refusal payload p BadCommand f (h, g) = no_first_fault payload p BadCommand f g
no_refusal payload p BadMore f (h, g) = no_first_fault payload p BadMore f g

two_faults : (payload : List ℕ) (e f : FrameError) → FirstFault (area payload) e → FirstFault (area payload) f → e ≡ f
two_faults payload e f g h = err_is e f (one_reading g.before h.before (area payload) _ _ (Err e) (Err f) (reads_fault (area payload) e g) (reads_fault (area payload) f h)).1

empty_no_fault : (payload : List ℕ) (e : FrameError) → HasArea payload → length_field payload ≡ 0 → FirstFault (area payload) e → ⊥
empty_no_fault payload e h z f = not_empty (area payload) e f (area_length payload h ∙ z)

short_area : (payload : List ℕ) → IsRefused payload Short → HasArea payload → ⊥
short_area payload (inl few) a = omega arith
short_area payload (inr (h, few)) a = omega arith

short_type : (payload : List ℕ) → IsRefused payload Short → IsRefused payload BadType → ⊥
short_type payload (inl few) (two, other) = omega arith
short_type payload (inr (h, few)) (two, other) = other h.type

short_long : (payload : List ℕ) → IsRefused payload Short → IsRefused payload TooLong → ⊥
short_long payload (inl few) (two, k, big) = omega arith
short_long payload (inr (h, few)) (two, k, big) = omega arith

long_area : (payload : List ℕ) → IsRefused payload TooLong → HasArea payload → ⊥
long_area payload (two, k, big) a = omega arith

length_fault : (payload : List ℕ) (e : FrameError) → IsRefused payload BadLength → FirstFault (area payload) e → BadLength ≡ e
length_fault payload e (h, inl z) g = absurd (empty_no_fault payload e h z g)
length_fault payload e (h, inr f) g = two_faults payload BadLength e f g

pub one_refusal : (payload : List ℕ) (e f : FrameError) → IsRefused payload e → IsRefused payload f → e ≡ f
one_refusal payload Short Short g h = refl
one_refusal payload Short BadType g h = absurd (short_type payload g h)
one_refusal payload Short TooLong g h = absurd (short_long payload g h)
one_refusal payload Short BadLength g h = absurd (short_area payload g h.0)
one_refusal payload Short BadCommand g h = absurd (short_area payload g h.0)
one_refusal payload Short BadMore g h = absurd (short_area payload g h.0)
one_refusal payload BadType Short g h = absurd (short_type payload h g)
one_refusal payload BadType BadType g h = refl
one_refusal payload BadType TooLong g h = absurd (g.1 h.1)
one_refusal payload BadType BadLength g h = absurd (g.1 h.0.header.type)
one_refusal payload BadType BadCommand g h = absurd (g.1 h.0.header.type)
one_refusal payload BadType BadMore g h = absurd (g.1 h.0.header.type)
one_refusal payload TooLong Short g h = absurd (short_long payload h g)
one_refusal payload TooLong BadType g h = absurd (h.1 g.1)
one_refusal payload TooLong TooLong g h = refl
one_refusal payload TooLong BadLength g h = absurd (long_area payload g h.0)
one_refusal payload TooLong BadCommand g h = absurd (long_area payload g h.0)
one_refusal payload TooLong BadMore g h = absurd (long_area payload g h.0)
one_refusal payload BadLength Short g h = absurd (short_area payload h g.0)
one_refusal payload BadLength BadType g h = absurd (h.1 g.0.header.type)
one_refusal payload BadLength TooLong g h = absurd (long_area payload h g.0)
one_refusal payload BadLength BadLength g h = refl
one_refusal payload BadLength BadCommand g h = length_fault payload BadCommand g h.1
one_refusal payload BadLength BadMore g h = length_fault payload BadMore g h.1
one_refusal payload BadCommand Short g h = absurd (short_area payload h g.0)
one_refusal payload BadCommand BadType g h = absurd (h.1 g.0.header.type)
one_refusal payload BadCommand TooLong g h = absurd (long_area payload h g.0)
one_refusal payload BadCommand BadLength g h = sym (length_fault payload BadCommand h g.1)
one_refusal payload BadCommand BadCommand g h = refl
one_refusal payload BadCommand BadMore g h = two_faults payload BadCommand BadMore g.1 h.1
one_refusal payload BadMore Short g h = absurd (short_area payload h g.0)
one_refusal payload BadMore BadType g h = absurd (h.1 g.0.header.type)
one_refusal payload BadMore TooLong g h = absurd (long_area payload h g.0)
one_refusal payload BadMore BadLength g h = sym (length_fault payload BadMore h g.1)
one_refusal payload BadMore BadCommand g h = sym (two_faults payload BadCommand BadMore h.1 g.1)
one_refusal payload BadMore BadMore g h = refl

pub verdict_accepts : (payload : List ℕ) (r : Result ℕ FrameError) → GivesVerdict payload r → (p : Payload) → IsFrame payload p → r ≡ Ok (length p.datagrams)
verdict_accepts payload (Ok count) v p f = ap Ok (v.2 ∙ ap length (one_list payload v.0 p v.1 f))
verdict_accepts payload (Err e) v p f = absurd (no_refusal payload p e f v)

pub verdict_refuses : (payload : List ℕ) (r : Result ℕ FrameError) → GivesVerdict payload r → (e : FrameError) → IsRefused payload e → r ≡ Err e
verdict_refuses payload (Ok count) v e f = absurd (no_refusal payload v.0 e v.1 f)
verdict_refuses payload (Err d) v e f = ap Err (one_refusal payload d e v f)
