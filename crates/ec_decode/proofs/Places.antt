-- Where a walk over datagrams stops, and that this is the place of the first fault.
use Rattle.std.proofs.Common.{◌≡◌, ◌⊎◌, inl, inr, ℕ, zero, suc, ◌+◌, ◌-◌, ◌<◌, ◌≤◌, Bool, true, false, leb, List, [], ◌∷◌, ◌++◌, length, slice_index, drop, refl, sym, ap, subst, ◌∙◌, append_assoc, append-nil, arith}
use Rattle.std.specs.List.{AllByRecursion}
use Rattle.std.proofs.lemmas.List.{length-append, length-take, drop_at, length_push}
use Rattle.std.proofs.lemmas.Bool.Decides.{nat_tests}
use Rattle.byteorder.specs.Endian.{little_number}
use Rattle.ec_frame.specs.declared.error.FrameError.{FrameError}
use Rattle.ec_frame.specs.declared.error.FrameError.TheVariants.{Short, BadType, TooLong, BadLength, BadCommand, BadMore}
use Rattle.ec_frame.specs.Commands.{number_of}
use Rattle.ec_frame.specs.Datagram.{Datagram, IsDatagram, data_length, joined, opened, spelling}
use Rattle.ec_frame.specs.Decoded.{after_data, decoded}
use Rattle.ec_frame.specs.Frame.{area, length_field}
use Rattle.ec_frame.specs.Refusals.{FaultAt, FirstFault, IsRefused, SaysMoreWrongly}
use Rattle.ec_frame.proofs.Decoding.{data_length_again, decodes, good_decoded, more_at, one_spelling}
use Rattle.ec_frame.proofs.Numbers.{IsBytes, number_most}
use Rattle.ec_frame.proofs.Readings.{joined_last, same_after, same_more, spelling_length}
use Rattle.ec_frame.proofs.WalkSteps.{All-push, opened_push}
use Rattle.ec_decode.specs.declared.located.Front.{Front}
use Rattle.ec_decode.specs.Faults.{AreWhole, BeginsNone, IsLocated, StandBefore}
use Rattle.ec_decode.specs.Standing.{BeginsLong, BeginsWith, IsNotOpened, IsOpened}
use Rattle.ec_decode.specs.Stopping.{Stops}
use Rattle.ec_decode.proofs.ReaderFields.{opened_long}
use Rattle.ec_decode.proofs.Payloads.{joined_begins, opened_begins}

-- ---- one datagram

true_false : true ≡ false → ⊥
true_false e = cc

none_left : (xs : List ℕ) → length xs ≡ 0 → xs ≡ []
none_left [] e = refl
none_left (x ∷ xs) e = absurd (omega arith)

more_than_none : (n len all : ℕ) → all ≡ len + n → (len ≡ all → ⊥) → 0 < n
more_than_none zero len all is some = absurd (some (omega arith))
more_than_none (suc n) len all is some = omega arith

pub whole_found : (bytes : List ℕ) (len : ℕ) → IsBytes bytes → 12 ≤ length bytes → len ≡ 12 + data_length bytes → len ≤ length bytes → slice_index bytes 0 ≤ 14 → BeginsLong bytes len
whole_found bytes len fits some is within known =
    let back = decodes bytes fits some (omega arith) known in
    let d : Datagram = decoded bytes in
    let after : List ℕ = drop 2 (after_data bytes) in
    let good = good_decoded bytes fits in
    let long : data_length bytes ≡ length d.data_bytes = ap data_length (sym back) ∙ data_length_again (more_at bytes) d after good in
    record { datagram = d; after = after; begins = record { more = more_at bytes; good = good; parts = sym back }; size = omega arith; says = refl }

high_more : (w : ℕ) → 32768 ≤ w → leb 32768 w ≡ true
high_more w high = grind (arith, nat_tests)

low_last : (w : ℕ) → w < 32768 → leb 32768 w ≡ false
low_last w low = grind (arith, nat_tests)

says_more : (bytes : List ℕ) (len w : ℕ) (l : BeginsLong bytes len) → w ≡ little_number 2 (drop 6 bytes) → leb 32768 w ≡ l.begins.more
says_more bytes len w l is = ap (λ (n : ℕ). leb 32768 n) is ∙ l.says

long_length : (bytes : List ℕ) (len : ℕ) (l : BeginsLong bytes len) → length bytes ≡ len + length l.after
long_length bytes len l = let size = l.size in omega (arith, ap length l.begins.parts, spelling_length l.begins.more l.datagram l.after)

pub opened_from : (bytes : List ℕ) (len w : ℕ) → BeginsLong bytes len → w ≡ little_number 2 (drop 6 bytes) → 32768 ≤ w → (len ≡ length bytes → ⊥) → IsOpened bytes len
opened_from bytes len w l is high some =
    let more : l.begins.more ≡ true = sym (says_more bytes len w l is) ∙ high_more w high in
    record {
      datagram = l.datagram;
      after = l.after;
      good = l.begins.good;
      parts = l.begins.parts ∙ ap (λ (m : Bool). spelling m l.datagram ++ l.after) more;
      size = l.size;
      goes_on = more_than_none (length l.after) len (length bytes) (long_length bytes len l) some;
    }

-- the datagram that a walk ends at is the last of the bytes, or says that it is the last
pub not_opened : (bytes : List ℕ) (len w : ℕ) → BeginsLong bytes len → w ≡ little_number 2 (drop 6 bytes) → (len ≡ length bytes) ⊎ (w < 32768) → IsNotOpened bytes
not_opened bytes len w l is (inl all) d after good e =
    let one = one_spelling l.begins.more true l.datagram d l.after after l.begins.good good (sym l.begins.parts ∙ e) in
    sym one.2 ∙ none_left l.after (omega (arith, long_length bytes len l))
not_opened bytes len w l is (inr low) d after good e =
    let one = one_spelling l.begins.more true l.datagram d l.after after l.begins.good good (sym l.begins.parts ∙ e) in
    absurd (true_false (sym (says_more bytes len w l is ∙ one.0) ∙ low_last w low))

pub none_opened : (bytes : List ℕ) → BeginsNone bytes → IsNotOpened bytes
none_opened bytes none d after good e = absurd (none true d after good e)

-- ---- the walk

-- the datagrams passed so far, and what is left
pub record Passed (bytes rest : List ℕ) (count : ℕ) : Type 0 where
  pub before : List Datagram
  pub each : AllByRecursion IsDatagram before
  pub parts : bytes ≡ opened before ++ rest
  pub counted : count ≡ length before
  pub some : 0 < length bytes → 0 < length rest
  pub small : count + length rest ≤ length bytes

pub passed_none : (bytes : List ℕ) → Passed bytes bytes 0
passed_none bytes = record { before = []; each = tt; parts = refl; counted = refl; some = λ some. some; small = omega arith }

pub opened_within : (rest : List ℕ) (len : ℕ) → IsOpened rest len → (12 ≤ len) × (len ≤ length rest)
opened_within rest len o = let e = o.size in (omega arith, omega (arith, ap length o.parts, spelling_length true o.datagram o.after))

pub passed_more : (bytes rest after : List ℕ) (count len : ℕ) → Passed bytes rest count → IsOpened rest len → after ≡ drop len rest → Passed bytes after (count + 1)
passed_more bytes rest after count len w o is =
    let d = o.datagram in
    let long : length (spelling true d) ≡ len = omega (arith, spelling_length true d [], ap length (append-nil (spelling true d)), o.size) in
    let left : after ≡ o.after = is ∙ ap (λ (xs : List ℕ). drop len xs) o.parts ∙ drop_at (spelling true d) o.after len long in
    let within = opened_within rest len o in
    let whole = ap length o.parts ∙ spelling_length true d o.after in
    let size = ap length left in
    let small = w.small in
    record {
      before = w.before ++ d ∷ [];
      each = All-push w.before d w.each o.good;
      parts = w.parts ∙ ap (λ (xs : List ℕ). opened w.before ++ xs) (o.parts ∙ ap (λ (xs : List ℕ). spelling true d ++ xs) (sym left)) ∙ sym (append_assoc (opened w.before) (spelling true d) after) ∙ ap (λ (xs : List ℕ). xs ++ after) (sym (opened_push w.before d));
      counted = ap (λ (n : ℕ). n + 1) w.counted ∙ sym (length_push w.before d);
      some = λ some. let more = o.goes_on in omega arith;
      small = omega arith;
    }

pub passed_all : (bytes rest : List ℕ) (count len : ℕ) → Passed bytes rest count → IsNotOpened rest → len ≡ length bytes - length rest → Stops bytes (record { whole = count; len = len })
passed_all bytes rest count len w none is = record {
  datagrams = w.before;
  rest = rest;
  each = w.each;
  parts = w.parts;
  whole = w.counted;
  len = omega (arith, ap length w.parts, length-append (opened w.before) rest);
  last = none;
  some = w.some;
}

-- ---- what is cut short: the datagrams passed, and the one behind them, if it is whole

pub left_is : (bytes : List ℕ) (f : Front) (s : Stops bytes f) → drop f.len bytes ≡ s.rest
left_is bytes f s = ap (λ (xs : List ℕ). drop f.len xs) s.parts ∙ drop_at (opened s.datagrams) s.rest f.len (sym s.len)

pub front_within : (bytes : List ℕ) (f : Front) → Stops bytes f → (f.len ≤ length bytes) × (f.whole ≤ length bytes)
front_within bytes f s =
    let whole = s.whole in
    let len = s.len in
    let all = ap length s.parts ∙ length-append (opened s.datagrams) s.rest in
    let few = opened_long s.datagrams in
    (omega arith, omega arith)

pub whole_none : (bytes : List ℕ) (f : Front) → Stops bytes f → BeginsNone (drop f.len bytes) → (ds : List Datagram) × AreWhole bytes ds × (f.whole ≡ length ds)
whole_none bytes f s none =
    (s.datagrams, record { rest = s.rest; each = s.each; parts = inr (s.parts, subst BeginsNone (left_is bytes f s) none) }, s.whole)

empty_begins : BeginsNone []
empty_begins more d after good e = omega (arith, ap length e, spelling_length more d after)

whole_last : (bytes rest : List ℕ) (before : List Datagram) (more : Bool) (d : Datagram) (after : List ℕ) → AllByRecursion IsDatagram before → bytes ≡ opened before ++ rest → IsNotOpened rest → IsDatagram d → rest ≡ spelling more d ++ after → AreWhole bytes (before ++ d ∷ [])
whole_last bytes rest before true d after each parts last good is =
    let nil = last d after good is in
    record {
      rest = [];
      each = All-push before d each good;
      parts = inr (
        parts ∙ ap (λ (xs : List ℕ). opened before ++ xs) (is ∙ ap (λ (xs : List ℕ). spelling true d ++ xs) nil) ∙ sym (append_assoc (opened before) (spelling true d) []) ∙ ap (λ (xs : List ℕ). xs ++ []) (sym (opened_push before d)),
        empty_begins,
      );
    }
whole_last bytes rest before false d after each parts last good is = record {
  rest = after;
  each = All-push before d each good;
  parts = inl (
    omega (arith, length_push before d),
    parts ∙ ap (λ (xs : List ℕ). opened before ++ xs) is ∙ sym (append_assoc (opened before) (spelling false d) after) ∙ ap (λ (xs : List ℕ). xs ++ after) (sym (joined_last before d)),
  );
}

pub whole_some : (bytes : List ℕ) (f : Front) (len : ℕ) → Stops bytes f → BeginsLong (drop f.len bytes) len → (ds : List Datagram) × AreWhole bytes ds × (f.whole + 1 ≡ length ds)
whole_some bytes f len s l =
    let d = l.datagram in (
      s.datagrams ++ d ∷ [],
      whole_last bytes s.rest s.datagrams l.begins.more d l.after s.each s.parts s.last l.begins.good (sym (left_is bytes f s) ∙ l.begins.parts),
      ap (λ (n : ℕ). n + 1) s.whole ∙ sym (length_push s.datagrams d),
    )

-- ---- the place of the first fault

first_known : (rest : List ℕ) (d : Datagram) (after : List ℕ) → 14 < slice_index rest 0 → rest ≡ spelling true d ++ after → ⊥
first_known rest d after big e =
    let is : slice_index rest 0 ≡ number_of d.command = ap (λ (xs : List ℕ). slice_index xs 0) e in
    let most = number_most d.command in
    omega arith

more_last : (rest : List ℕ) (d : Datagram) (after : List ℕ) (h : SaysMoreWrongly rest) → ((h.more ≡ true) × (h.after ≡ [])) ⊎ ((h.more ≡ false) × (0 < length h.after)) → IsDatagram d → rest ≡ spelling true d ++ after → after ≡ []
more_last rest d after h (inl (t, nil)) good e = same_after rest true h.more d h.datagram after h.after good h.good e h.parts ∙ nil
more_last rest d after h (inr (t, some)) good e = absurd (true_false (same_more rest true h.more d h.datagram after h.after good h.good e h.parts ∙ t))

-- what a fault begins is no datagram that says rightly that another follows
fault_last : (rest : List ℕ) (e : FrameError) (d : Datagram) (after : List ℕ) → FaultAt rest e → IsDatagram d → rest ≡ spelling true d ++ after → after ≡ []
fault_last rest BadLength d after (inl few) good e = absurd (omega (arith, ap length e, spelling_length true d after))
fault_last rest BadLength d after (inr few) good e = absurd (omega (arith, ap length e, spelling_length true d after, ap data_length e, data_length_again true d after good))
fault_last rest BadCommand d after (room, big) good e = absurd (first_known rest d after big e)
fault_last rest BadMore d after fault good e = more_last rest d after fault fault.wrong good e
fault_last rest Short d after fault good e = absurd fault
fault_last rest BadType d after fault good e = absurd fault
fault_last rest TooLong d after fault good e = absurd fault

not_empty : (xs ys : List ℕ) → xs ++ ys ≡ [] → 0 < length ys → ⊥
not_empty xs ys e some = omega (arith, ap length e, length-append xs ys)

-- two ways in which bytes begin with datagrams that say rightly that another follows
same_front : (ds es : List Datagram) (x y : List ℕ) → AllByRecursion IsDatagram ds → AllByRecursion IsDatagram es → opened ds ++ x ≡ opened es ++ y → 0 < length x → 0 < length y
    → ((d : Datagram) (after : List ℕ) → IsDatagram d → x ≡ spelling true d ++ after → after ≡ []) → ((d : Datagram) (after : List ℕ) → IsDatagram d → y ≡ spelling true d ++ after → after ≡ []) → ds ≡ es
same_front [] [] x y f g same p q last other = refl
same_front [] (e ∷ es) x y f g same p q last other = absurd (not_empty (opened es) y (last e (opened es ++ y) g.0 (same ∙ append_assoc (spelling true e) (opened es) y)) q)
same_front (d ∷ ds) [] x y f g same p q last other = absurd (not_empty (opened ds) x (other d (opened ds ++ x) f.0 (sym same ∙ append_assoc (spelling true d) (opened ds) x)) p)
same_front (d ∷ ds) (e ∷ es) x y f g same p q last other =
    let one = one_spelling true true d e (opened ds ++ x) (opened es ++ y) f.0 g.0 (sym (append_assoc (spelling true d) (opened ds) x) ∙ same ∙ append_assoc (spelling true e) (opened es) y) in
    let more = same_front ds es x y f.1 g.1 one.2 p q last other in
    rw (one.1, more) refl

some_area : (payload : List ℕ) (e : FrameError) → FirstFault (area payload) e → 0 < length (area payload)
some_area payload e f = let some = f.some in omega (arith, ap length f.parts, length-append (opened f.before) f.rest)

pub before_is : (payload : List ℕ) (e : FrameError) (front : Front) → FirstFault (area payload) e → (s : Stops (area payload) front) → StandBefore payload e s.datagrams (2 + front.len)
before_is payload e front f s = record {
  fault = f;
  whole = same_front f.before s.datagrams f.rest s.rest f.each s.each (sym f.parts ∙ s.parts) f.some (s.some (some_area payload e f)) (λ d after good is. fault_last f.rest e d after f.fault good is) (λ d after good is. s.last d after good is);
  place = ap (λ (n : ℕ). 2 + n) s.len;
}

-- the place of each fault that doesn't follow from the header
pub in_area : (payload : List ℕ) (e : FrameError) (front : Front) → IsRefused payload e → (e ≡ Short → ⊥) → (e ≡ BadType → ⊥) → (e ≡ TooLong → ⊥) → 0 < length (area payload) → (s : Stops (area payload) front) → IsLocated payload e s.datagrams (2 + front.len)
in_area payload Short front r n1 n2 n3 some s = absurd (n1 refl)
in_area payload BadType front r n1 n2 n3 some s = absurd (n2 refl)
in_area payload TooLong front r n1 n2 n3 some s = absurd (n3 refl)
in_area payload BadLength front (h, inl z) n1 n2 n3 some s = absurd (omega (arith, length-take (length_field payload) (drop 2 payload)))
in_area payload BadLength front (h, inr f) n1 n2 n3 some s = inr (before_is payload BadLength front f s)
in_area payload BadCommand front (h, f) n1 n2 n3 some s = before_is payload BadCommand front f s
in_area payload BadMore front (h, f) n1 n2 n3 some s = before_is payload BadMore front f s

-- ---- the lines of the datagrams before a fault

begins_by : (bytes : List ℕ) (ds : List Datagram) (rest : List ℕ) → AllByRecursion IsDatagram ds → ((0 < length ds) × (bytes ≡ joined ds ++ rest)) ⊎ ((bytes ≡ opened ds ++ rest) × BeginsNone rest) → BeginsWith bytes ds
begins_by bytes ds rest each (inl h) = rw (h.1) (joined_begins ds rest each)
begins_by bytes ds rest each (inr h) = rw (h.0) (opened_begins ds rest each)

whole_begins : (payload : List ℕ) (ds : List Datagram) → AreWhole (area payload) ds → BeginsWith (area payload) ds
whole_begins payload ds w = begins_by (area payload) ds w.rest w.each w.parts

stand_begins : (payload : List ℕ) (e : FrameError) (ds : List Datagram) (at : ℕ) → StandBefore payload e ds at → BeginsWith (area payload) ds
stand_begins payload e ds at s =
    subst (λ (es : List Datagram). BeginsWith (area payload) es) s.whole (rw (s.fault.parts) (opened_begins s.fault.before s.fault.rest s.fault.each))

none_begins : (bytes : List ℕ) (ds : List Datagram) → ds ≡ [] → BeginsWith bytes ds
none_begins bytes ds none = rw none tt

pub placed_begins : (payload : List ℕ) (e : FrameError) (ds : List Datagram) (at : ℕ) → IsLocated payload e ds at → BeginsWith (area payload) ds
placed_begins payload Short ds at p = whole_begins payload ds p.0
placed_begins payload BadType ds at p = none_begins (area payload) ds p.0
placed_begins payload TooLong ds at p = none_begins (area payload) ds p.0
placed_begins payload BadLength ds at (inl p) = none_begins (area payload) ds p.1.0
placed_begins payload BadLength ds at (inr p) = stand_begins payload BadLength ds at p
placed_begins payload BadCommand ds at p = stand_begins payload BadCommand ds at p
placed_begins payload BadMore ds at p = stand_begins payload BadMore ds at p
