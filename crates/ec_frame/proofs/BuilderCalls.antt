-- What a builder's calls leave.
use Rattle.std.proofs.Common.{◌≡◌, ℕ, zero, suc, ◌+◌, ◌-◌, ◌*◌, ◌/◌, ◌%◌, ◌^◌, ◌<◌, ◌≤◌, Bool, true, false, cond, List, [], ◌∷◌, ◌++◌, length, set, get_or, take, drop, slice_index, refl, sym, ap, subst, ◌∙◌, append_assoc, arith}
use Rattle.std.specs.List.{AllByRecursion}
use Rattle.std.proofs.lemmas.List.{length-append, append-nil, set_at, get_or_at, length-set, length-drop, take_at}
use Rattle.byteorder.specs.Endian.{little_bytes}
use Rattle.ec_frame.specs.declared.command.Command.{Command}
use Rattle.ec_frame.specs.Built.{IsBuilt, ten_bytes}
use Rattle.ec_frame.specs.Building.{bare_payload, new_datagram}
use Rattle.ec_frame.specs.Commands.{number_of}
use Rattle.ec_frame.specs.Datagram.{Datagram, flags, spelling, IsDatagram, joined, opened}
use Rattle.ec_frame.specs.Decoded.{after_data, decoded, datagrams_in}
use Rattle.ec_frame.specs.Frame.{IsByte, IsFrame}
use Rattle.ec_frame.proofs.Numbers.{all_bytes, all_append, all_drop, all_set, bytes_of_all, number_most, word_bytes}
use Rattle.ec_frame.proofs.Decoding.{after_again, decoded_again}
use Rattle.ec_frame.proofs.Readings.{ended}
use Rattle.ec_frame.proofs.WalkSteps.{All-push, opened_push}
use Rattle.ec_frame.proofs.Writes.{bare_length}
use Rattle.ec_frame.proofs.Steps.{joined_length}

-- ---- the datagrams that bytes spell

opened_many : (ds : List Datagram) → length ds ≤ length (opened ds)
opened_many [] = omega arith
opened_many (d ∷ ds) = omega (arith, opened_many ds, length-append (spelling true d) (opened ds))

pub read_again : (n : ℕ) (ds : List Datagram) → AllByRecursion IsDatagram ds → length ds ≤ n → datagrams_in n (opened ds) ≡ ds
read_again zero [] each le = refl
read_again (suc n) [] each le = refl
read_again zero (d ∷ ds) each le = absurd (omega arith)
read_again (suc n) (d ∷ ds) each le =
    let first : decoded (spelling true d ++ opened ds) ≡ d = decoded_again true d (opened ds) each.0 in
    let behind : drop 2 (after_data (spelling true d ++ opened ds)) ≡ opened ds = ap (λ (xs : List ℕ). drop 2 xs) (after_again true d (opened ds) each.0) in
    ap (λ (x : Datagram). x ∷ datagrams_in n (drop 2 (after_data (spelling true d ++ opened ds)))) first
    ∙ ap (λ (xs : List ℕ). d ∷ datagrams_in n xs) behind
    ∙ ap (λ (xs : List Datagram). d ∷ xs) (read_again n ds each.1 (omega arith))

pub view_is : (bytes : List ℕ) (ds : List Datagram) → AllByRecursion IsDatagram ds → bytes ≡ 0 ∷ 0 ∷ opened ds → datagrams_in (length bytes) (drop 2 bytes) ≡ ds
view_is bytes ds each e =
    let many = opened_many ds in
    let long : length bytes ≡ 2 + length (opened ds) = ap length e ∙ omega arith in
    ap (λ (xs : List ℕ). datagrams_in (length bytes) (drop 2 xs)) e ∙ read_again (length bytes) ds each (omega arith)

-- ---- one more

pub built_length : (bytes : List ℕ) (last : ℕ) (ds : List Datagram) → IsBuilt bytes last ds → length bytes ≡ 2 + length (joined ds)
built_length bytes last ds h = ap length h.spelled ∙ omega (arith, joined_length ds)

new_good : (command : Command) (index address : ℕ) (content : List ℕ) → index < 256 → address < 2 ^ 32 → length content < 2048 → IsDatagram (new_datagram command index address content)
new_good command index address content i a s = record { index = i; address = a; reserved = omega arith; irq = omega arith; data_bytes = s; counter = omega arith }

last_of : (xs ys : List Datagram) (x y : Datagram) → xs ++ x ∷ [] ≡ ys ++ y ∷ [] → xs ≡ ys
last_of [] [] x y e = refl
last_of [] (b ∷ []) x y e = absurd cc
last_of [] (b ∷ c ∷ ys) x y e = absurd cc
last_of (a ∷ []) [] x y e = absurd cc
last_of (a ∷ c ∷ xs) [] x y e = absurd cc
last_of (a ∷ xs) (b ∷ ys) x y e =
    let heads : a ≡ b = cc in
    let tails : xs ++ x ∷ [] ≡ ys ++ y ∷ [] = cc in
    ap (λ (z : Datagram). z ∷ xs) heads ∙ ap (λ (zs : List Datagram). b ∷ zs) (last_of xs ys x y tails)

ten_are_bytes : (command : Command) (index address word : ℕ) → index < 256 → AllByRecursion IsByte (ten_bytes command index address word)
ten_are_bytes command index address word i =
    let n = number_most command in (omega arith, (i, (omega arith, (omega arith, (omega arith, (omega arith, (omega arith, (omega arith, (omega arith, (omega arith, tt))))))))))

pub joined_push : (ds : List Datagram) (d : Datagram) → length (joined (ds ++ d ∷ [])) ≡ length (joined ds) + (12 + length d.data_bytes)
joined_push ds d =
    joined_length (ds ++ d ∷ []) ∙ ap length (opened_push ds d) ∙ length-append (opened ds) (spelling true d) ∙ omega (arith, joined_length ds, bare_length true d)

pub added : (old new : List ℕ) (last at : ℕ) (ds : List Datagram) (command : Command) (index address : ℕ) (content : List ℕ) → IsBuilt old last ds
    → index < 256 → address < 2 ^ 32 → AllByRecursion IsByte content → length old + (12 + length content) ≤ 1472
    → at ≡ length old
    → new ≡ ((old ++ ten_bytes command index address (length content + 32768)) ++ content) ++ (0 ∷ 0 ∷ [])
    → IsBuilt new at (ds ++ new_datagram command index address content ∷ [])
added old new last at ds command index address content h i a filled fits is bytes =
    let d : Datagram = new_datagram command index address content in
    let size = built_length old last ds h in
    let flag : flags true d ≡ length content + 32768 = omega arith in
    let head : List ℕ = ten_bytes command index address (length content + 32768) in
    let spelled : head ++ (content ++ (0 ∷ 0 ∷ [])) ≡ spelling true d = ap (λ (n : ℕ). ten_bytes command index address n ++ (content ++ (0 ∷ 0 ∷ []))) (sym flag) in
    let all : new ≡ 0 ∷ 0 ∷ (opened ds ++ spelling true d) =
    bytes ∙ append_assoc (old ++ head) content (0 ∷ 0 ∷ []) ∙ append_assoc old head (content ++ (0 ∷ 0 ∷ [])) ∙ ap (λ (xs : List ℕ). old ++ xs) spelled ∙ ap (λ (xs : List ℕ). xs ++ spelling true d) h.spelled in
    let long = joined_push ds d in
    let inside : AllByRecursion IsByte (((old ++ head) ++ content) ++ (0 ∷ 0 ∷ [])) =
    all_append ((old ++ head) ++ content) (0 ∷ 0 ∷ []) (all_append (old ++ head) content (all_append old head h.fits (ten_are_bytes command index address (length content + 32768) i)) filled) (word_bytes 0) in
    record {
      fits = subst (λ (xs : List ℕ). AllByRecursion IsByte xs) (sym bytes) inside;
      each = All-push ds d h.each (new_good command index address content i a (omega arith));
      most = omega arith;
      spelled = all ∙ ap (λ (xs : List ℕ). 0 ∷ 0 ∷ xs) (sym (opened_push ds d));
      place = λ before x e. is ∙ size ∙ ap (λ (n : ℕ). 2 + n) (joined_length ds) ∙ ap (λ (xs : List Datagram). 2 + length (opened xs)) (last_of ds before d x e);
    }

-- what the bytes then spell, and that they are built so
pub added_view : (bytes : List ℕ) (at : ℕ) (ds : List Datagram) → IsBuilt bytes at ds → datagrams_in (length bytes) (drop 2 bytes) ≡ ds
added_view bytes at ds h = view_is bytes ds h.each h.spelled

pub added_built : (bytes : List ℕ) (at : ℕ) (ds : List Datagram) → IsBuilt bytes at ds → IsBuilt bytes at (datagrams_in (length bytes) (drop 2 bytes))
added_built bytes at ds h = subst (λ (es : List Datagram). IsBuilt bytes at es) (sym (added_view bytes at ds h)) h

pub none_built : (bytes : List ℕ) (at : ℕ) → bytes ≡ 0 ∷ 0 ∷ [] → IsBuilt bytes at []
none_built bytes at e = record { fits = subst (λ (xs : List ℕ). AllByRecursion IsByte xs) (sym e) (word_bytes 0); each = tt; most = omega arith; spelled = e; place = λ before d is. absurd (none_push before d is) }
  where
    none_push : (before : List Datagram) (d : Datagram) → [] ≡ before ++ d ∷ [] → ⊥
    none_push [] d is = cc
    none_push (b ∷ before) d is = cc

-- ---- the end

-- the bytes up to the one that has the more bit, it, and those after it
abbrev pub seven : Datagram → List ℕ
seven d = number_of d.command ∷ d.index ∷ little_bytes 4 d.address ++ flags true d % 256 ∷ []

abbrev pub after_flags : Datagram → List ℕ
after_flags d = little_bytes 2 d.irq ++ (d.data_bytes ++ little_bytes 2 d.counter)

high_byte : (n r : ℕ) (k : Bool) → n < 2048 → r < 8 → let w = n + 2048 * r + cond k 16384 0 in ((w + 32768) / 256 % 256 ≡ (w + 0) / 256 % 256 + 128) × ((w + 32768) % 256 ≡ (w + 0) % 256)
high_byte n r true p q = (omega arith, omega arith)
high_byte n r false p q = (omega arith, omega arith)

pub record LastByte (bytes : List ℕ) (at : ℕ) (ds : List Datagram) : Type 0 where
  pub front : List ℕ
  pub high : ℕ
  pub back : List ℕ
  pub parts : bytes ≡ 0 ∷ 0 ∷ (front ++ high ∷ back)
  pub place : at + 7 ≡ 2 + length front
  pub big : 128 ≤ high
  pub cleared : front ++ (high - 128) ∷ back ≡ joined ds

pub last_byte : (bytes : List ℕ) (at : ℕ) (ds : List Datagram) → IsBuilt bytes at ds → 0 < length ds → LastByte bytes at ds
last_byte bytes at ds h some =
    let t = ended ds some h.each in
    let d : Datagram = t.last in
    let hb = high_byte (length d.data_bytes) d.reserved d.circulating t.good.data_bytes t.good.reserved in
    let all : opened ds ≡ opened t.before ++ spelling true d = ap opened t.is ∙ opened_push t.before d in
    let less : flags true d / 256 % 256 - 128 ≡ flags false d / 256 % 256 = let e = hb.0 in omega arith in
    let place = h.place t.before d t.is in
    record {
      front = opened t.before ++ seven d;
      high = flags true d / 256 % 256;
      back = after_flags d;
      parts = h.spelled ∙ ap (λ (xs : List ℕ). 0 ∷ 0 ∷ xs) (all ∙ sym (append_assoc (opened t.before) (seven d) (flags true d / 256 % 256 ∷ after_flags d)));
      place = omega (arith, length-append (opened t.before) (seven d));
      big = let e = hb.0 in omega arith;
      cleared = append_assoc (opened t.before) (seven d) ((flags true d / 256 % 256 - 128) ∷ after_flags d)
          ∙ ap (λ (n : ℕ). opened t.before ++ (seven d ++ (n ∷ after_flags d))) less
          ∙ ap (λ (n : ℕ). opened t.before ++ (number_of d.command ∷ d.index ∷ little_bytes 4 d.address ++ n ∷ flags false d / 256 % 256 ∷ after_flags d)) hb.1
          ∙ sym t.spelled;
    }

module _ (bytes : List ℕ) (at : ℕ) (ds : List Datagram) (l : LastByte bytes at ds) where
  pub in_bounds : at + 7 < length bytes
  in_bounds = let place = l.place in omega (arith, ap length l.parts, length-append l.front (l.high ∷ l.back))

  pub high_read : get_or bytes (at + 7) 0 ≡ l.high
  high_read = ap (λ (xs : List ℕ). get_or xs (at + 7) 0) l.parts ∙ get_or_at (0 ∷ 0 ∷ l.front) l.high l.back 0 (at + 7) (let place = l.place in omega arith)

  pub finished : (x : ℕ) (new : List ℕ) → IsBuilt bytes at ds → 0 < length ds → x ≡ l.high - 128
      → new ≡ little_bytes 2 (length bytes - 2 + 4096) ++ drop 2 (set bytes (at + 7) x) → AllByRecursion IsByte new → IsFrame new (bare_payload ds)
  finished x new h some is e all =
      let done : set bytes (at + 7) x ≡ 0 ∷ 0 ∷ (l.front ++ x ∷ l.back) = ap (λ (xs : List ℕ). set xs (at + 7) x) l.parts ∙ set_at (0 ∷ 0 ∷ l.front) l.high l.back x (at + 7) (let place = l.place in omega arith) in
      let rest : drop 2 (set bytes (at + 7) x) ≡ joined ds ++ [] = ap (λ (xs : List ℕ). drop 2 xs) done ∙ ap (λ (n : ℕ). l.front ++ n ∷ l.back) is ∙ l.cleared ∙ sym (append-nil (joined ds)) in
      let size : length bytes - 2 + 4096 ≡ length (joined ds) + 0 + 4096 = omega (arith, built_length bytes at ds h) in
      record {
        bytes = all;
        some = some;
        each = h.each;
        most = h.most;
        parts = e ∙ ap (λ (n : ℕ). little_bytes 2 n ++ drop 2 (set bytes (at + 7) x)) size ∙ ap (λ (xs : List ℕ). little_bytes 2 (length (joined ds) + 0 + 4096) ++ xs) rest;
      }

  pub closed : (items new : List ℕ) (len : ℕ) → IsBuilt bytes at ds → 0 < length ds → items ≡ bytes → len ≡ length bytes
      → new ≡ little_bytes 2 (len - 2 + 4096) ++ drop 2 (set items (at + 7) (get_or items (at + 7) 0 - 128))
      → IsFrame (take (length bytes) (new ++ drop (length new) bytes)) (bare_payload ds)
  closed items new len h some is size e =
      let x : ℕ = get_or bytes (at + 7) 0 - 128 in
      let on : new ≡ little_bytes 2 (length bytes - 2 + 4096) ++ drop 2 (set bytes (at + 7) x) =
      e ∙ ap (λ (n : ℕ). little_bytes 2 (n - 2 + 4096) ++ drop 2 (set items (at + 7) (get_or items (at + 7) 0 - 128))) size
      ∙ ap (λ (xs : List ℕ). little_bytes 2 (length bytes - 2 + 4096) ++ drop 2 (set xs (at + 7) (get_or xs (at + 7) 0 - 128))) is in
      let high : get_or bytes (at + 7) 0 < 256 = bytes_of_all bytes h.fits (at + 7) in
      let all : AllByRecursion IsByte new = subst (λ (xs : List ℕ). AllByRecursion IsByte xs) (sym on)
      (all_append (little_bytes 2 (length bytes - 2 + 4096)) (drop 2 (set bytes (at + 7) x)) (word_bytes (length bytes - 2 + 4096)) (all_drop 2 (set bytes (at + 7) x) (all_set bytes (at + 7) x h.fits (omega arith)))) in
      let long : length new ≡ length bytes = ap length on ∙ omega (arith, length-drop 2 (set bytes (at + 7) x), length-set bytes (at + 7) x, built_length bytes at ds h) in
      subst (λ (xs : List ℕ). IsFrame xs (bare_payload ds)) (sym (take_at new (drop (length new) bytes) (length bytes) long))
      (finished x new h some (ap (λ (n : ℕ). n - 128) high_read) on all)

-- a builder that is seen as these datagrams is built of them
pub seen_built : (bytes : List ℕ) (at : ℕ) (ds : List Datagram) → IsBuilt bytes at (datagrams_in (length bytes) (drop 2 bytes)) → datagrams_in (length bytes) (drop 2 bytes) ≡ ds → IsBuilt bytes at ds
seen_built bytes at ds h is = subst (λ (es : List Datagram). IsBuilt bytes at es) is h

-- two datagrams behind a header
pub pair_built : (start first second : List ℕ) (two : ℕ) (a b : Command) (i j x y : ℕ) (content more : List ℕ)
    → i < 256 → x < 2 ^ 32 → ((k : ℕ) → slice_index content k < 256) → j < 256 → y < 2 ^ 32 → ((k : ℕ) → slice_index more k < 256) → 24 + length content + length more ≤ 1470
    → start ≡ 0 ∷ 0 ∷ []
    → first ≡ ((start ++ ten_bytes a i x (length content + 32768)) ++ content) ++ (0 ∷ 0 ∷ []) → two ≡ length first
    → second ≡ ((first ++ ten_bytes b j y (length more + 32768)) ++ more) ++ (0 ∷ 0 ∷ [])
    → IsBuilt second two (new_datagram a i x content ∷ new_datagram b j y more ∷ [])
pair_built start first second two a b i j x y content more fi fx fc fj fy fm room none e at f =
    let built : IsBuilt first (length start) (new_datagram a i x content ∷ []) =
    added start first 2 (length start) [] a i x content (none_built start 2 none) fi fx (all_bytes content fc) (omega (arith, ap length none)) refl e in
    let long = built_length first (length start) (new_datagram a i x content ∷ []) built in
    let short = joined_push [] (new_datagram a i x content) in
    added first second (length start) two (new_datagram a i x content ∷ []) b j y more built fj fy (all_bytes more fm) (omega (arith, long, short)) at f
