-- A frame's datagrams are read back from its bytes, and its data are bytes; a payload is a frame or is refused.
use Rattle.std.proofs.Common.{◌≡◌, ◌≢◌, ℕ, zero, suc, ◌+◌, ◌<◌, ◌≤◌, Bool, true, false, if◌then◌else◌, eqb, leb, List, [], ◌∷◌, ◌++◌, ◌⊎◌, length, get_or, drop, refl, ap, subst, ◌∙◌, arith, inl, inr, Result, Ok, Err}
use Rattle.std.specs.List.{AllByRecursion}
use Rattle.std.proofs.Math.Bool.{not, beq}
use Rattle.std.proofs.lemmas.Bool.{cases_lt}
use Rattle.std.proofs.lemmas.List.{length-append, length-drop, length-take-le}
use Rattle.byteorder.specs.Endian.{little_bytes, little_number}
use Rattle.ec_frame.specs.declared.checking.Shape.{Shape}
use Rattle.ec_frame.specs.declared.error.FrameError.{FrameError}
use Rattle.ec_frame.specs.declared.error.FrameError.TheVariants.{Short, BadType, TooLong, BadLength, BadCommand, BadMore}
use Rattle.ec_frame.specs.Datagram.{Datagram, IsDatagram, data_length, heading, is_followed, joined, spelling}
use Rattle.ec_frame.specs.Decoded.{after_data, datagrams_in, decoded}
use Rattle.ec_frame.specs.Frame.{IsByte, IsFrame, Payload, area, length_field, type_field}
use Rattle.ec_frame.specs.Laws.{DataAreBytes, FramesAreDecoded, IsFrameOrRefused}
use Rattle.ec_frame.specs.Reading.{GivesCount, GivesVerdict, HasShape}
use Rattle.ec_frame.specs.Refusals.{FaultAt, HasArea, HasHeader, IsRefused}
use Rattle.ec_frame.proofs.Numbers.{IsBytes, IsBytes-drop, IsBytes-take, all_left, all_right, bytes_of_all}
use Rattle.ec_frame.proofs.Decoding.{after_again, decoded_again}
use Rattle.ec_frame.proofs.Shapes.{shape_found, bad_command, bad_more}
use Rattle.ec_frame.proofs.FrameOrFault.{area_is, verdict_of}
use Rattle.ec_frame.proofs.WalkSteps.{Walked, walk_ends, walk_more, shape_len}

-- ---- decoding

joined_many : (ds : List Datagram) → length ds ≤ length (joined ds)
joined_many [] = omega arith
joined_many (d ∷ ds) = omega (arith, joined_many ds, length-append (spelling (is_followed ds) d) (joined ds))

joined_again : (n : ℕ) (ds : List Datagram) → AllByRecursion IsDatagram ds → length ds ≤ n → datagrams_in n (joined ds) ≡ ds
joined_again zero [] each le = refl
joined_again (suc n) [] each le = refl
joined_again zero (d ∷ ds) each le = absurd (omega arith)
joined_again (suc n) (d ∷ ds) each le =
    let m : Bool = is_followed ds in
    let first : decoded (spelling m d ++ joined ds) ≡ d = decoded_again m d (joined ds) each.0 in
    let behind : drop 2 (after_data (spelling m d ++ joined ds)) ≡ joined ds = ap (λ (xs : List ℕ). drop 2 xs) (after_again m d (joined ds) each.0) in
    ap (λ (x : Datagram). x ∷ datagrams_in n (drop 2 (after_data (spelling m d ++ joined ds)))) first
    ∙ ap (λ (xs : List ℕ). d ∷ datagrams_in n xs) behind
    ∙ ap (λ (xs : List Datagram). d ∷ xs) (joined_again n ds each.1 (omega arith))

pub frames_are_decoded : FramesAreDecoded
frames_are_decoded payload p h =
    ap (λ (xs : List ℕ). datagrams_in (length xs) xs) (area_is payload p h).area ∙ joined_again (length (joined p.datagrams)) p.datagrams h.each (joined_many p.datagrams)

-- ---- bytes

joined_bytes : (ds : List Datagram) → AllByRecursion IsByte (joined ds) → AllByRecursion (λ (d : Datagram). AllByRecursion IsByte d.data_bytes) ds
joined_bytes [] h = tt
joined_bytes (d ∷ ds) h =
    let m : Bool = is_followed ds in
    let spelled : AllByRecursion IsByte (spelling m d) = all_left (spelling m d) (joined ds) h in
    let body : AllByRecursion IsByte (d.data_bytes ++ little_bytes 2 d.counter) = all_right (heading m d) (d.data_bytes ++ little_bytes 2 d.counter) spelled in
    (all_left d.data_bytes (little_bytes 2 d.counter) body, joined_bytes ds (all_right (spelling m d) (joined ds) h))

pub data_are_bytes : DataAreBytes
data_are_bytes payload p h =
    let all : AllByRecursion IsByte (little_bytes 2 (length (joined p.datagrams) + (if p.reserved then 2048 else 0) + 4096) ++ (joined p.datagrams ++ p.rest)) = subst (λ (xs : List ℕ). AllByRecursion IsByte xs) h.parts h.bytes in
    let behind = all_right (little_bytes 2 (length (joined p.datagrams) + (if p.reserved then 2048 else 0) + 4096)) (joined p.datagrams ++ p.rest) all in
    (joined_bytes p.datagrams (all_left (joined p.datagrams) p.rest behind), all_right (joined p.datagrams) p.rest behind)

-- ---- a payload is a frame, or is refused

abbrev Found : List ℕ → Type 0
Found rest = ((s : Shape) × HasShape rest s) ⊎ ((e : FrameError) × FaultAt rest e)

found_by : (rest : List ℕ) (b : Bool) → (get_or rest 0 0 ≤ 14) → (more : Bool)
    → not (beq (not more) (eqb (length rest) (12 + data_length rest))) ≡ b
    → more ≡ leb 32768 (little_number 2 (drop 6 rest)) → IsBytes rest → 12 ≤ length rest → 12 + data_length rest ≤ length rest → Found rest
found_by rest false known more test is fits some whole = inl (_, shape_found rest (little_number 2 (drop 6 rest)) (data_length rest) more fits refl refl is some whole known test)
found_by rest true known more test is fits some whole = inr (BadMore, bad_more rest (little_number 2 (drop 6 rest)) (data_length rest) more fits refl refl is some whole known test)

found_whole : (rest : List ℕ) → IsBytes rest → 12 ≤ length rest → 12 + data_length rest ≤ length rest → Found rest
found_whole rest fits some whole =
    elim (cases_lt 14 (get_or rest 0 0)) [
      | inl big ↦ inr (BadCommand, bad_command rest (little_number 2 (drop 6 rest)) (data_length rest) (leb 32768 (little_number 2 (drop 6 rest))) fits refl refl refl some whole big)
      | inr known ↦ found_by rest _ known (leb 32768 (little_number 2 (drop 6 rest))) refl refl fits some whole
    ]

found_at : (rest : List ℕ) → IsBytes rest → Found rest
found_at rest fits =
    elim (cases_lt (length rest) 12) [
      | inl few ↦ inr (BadLength, inl few)
      | inr some ↦ elim (cases_lt (length rest) (12 + data_length rest)) [
        | inl few ↦ inr (BadLength, inr few)
        | inr whole ↦ found_whole rest fits some whole
      ]
    ]

abbrev Counted : List ℕ → Type 0
Counted area = (r : Result ℕ FrameError) × GivesCount area r

-- the walk over an area, for as long as the bytes that are left
module _ (bytes : List ℕ) where
  abbrev GoesOn : List ℕ → Type 0
  GoesOn rest = (left : List ℕ) (count : ℕ) → length left < length rest → 0 < length left → IsBytes left → Walked bytes left count → Counted bytes

  one_on : (rest : List ℕ) (count : ℕ) → IsBytes rest → Walked bytes rest count → GoesOn rest → (s : Shape) → HasShape rest s → (b : Bool) → s.is_last ≡ b → Counted bytes
  one_on rest count fits w go s h true last = (Ok (count + 1), walk_ends bytes rest count s w h last)
  one_on rest count fits w go s h false last =
      let m = walk_more bytes rest (drop s.len rest) count s w h last refl in
      let long = shape_len rest s h in
      go (drop s.len rest) (count + 1) (omega (arith, length-drop s.len rest)) m.0 (IsBytes-drop s.len rest fits) m.1

  counted : (rest : List ℕ) (count : ℕ) → 0 < length rest → IsBytes rest → Walked bytes rest count → GoesOn rest → Found rest → Counted bytes
  counted rest count some fits w go (inl (s, h)) = one_on rest count fits w go s h s.is_last refl
  counted rest count some fits w go (inr (e, f)) = (Err e, record { before = w.before; rest = rest; each = w.each; some = some; parts = w.parts; fault = f })

  walked : (n : ℕ) (rest : List ℕ) (count : ℕ) → length rest ≤ n → 0 < length rest → IsBytes rest → Walked bytes rest count → Counted bytes
  walked zero rest count few some fits w = absurd (omega arith)
  walked (suc n) rest count few some fits w = counted rest count some fits w (λ left k less more inside v. walked n left k (omega arith) more inside v) (found_at rest fits)

abbrev Judged : List ℕ → Type 0
Judged payload = ((p : Payload) × IsFrame payload p) ⊎ ((e : FrameError) × IsRefused payload e)

of_verdict : (payload : List ℕ) (r : Result ℕ FrameError) → GivesVerdict payload r → Judged payload
of_verdict payload (Ok count) v = inl (v.0, v.1)
of_verdict payload (Err e) v = inr (e, v)

of_area : (payload : List ℕ) → IsBytes payload → HasArea payload → 0 < length_field payload → Judged payload
of_area payload fits h some =
    let whole = h.whole in
    let long : length (area payload) ≡ length_field payload = length-take-le (length_field payload) (drop 2 payload) (omega (arith, length-drop 2 payload)) in
    let inside : IsBytes (area payload) = IsBytes-take (length_field payload) (drop 2 payload) (IsBytes-drop 2 payload fits) in
    let c = walked (area payload) (length (area payload)) (area payload) 0 (omega arith) (omega arith) inside (record { before = []; each = tt; parts = refl; counted = refl }) in
    of_verdict payload c.0 (verdict_of payload c.0 fits h some c.1)

of_header : (payload : List ℕ) → IsBytes payload → HasHeader payload → Judged payload
of_header payload fits h =
    elim (cases_lt (length payload) (2 + length_field payload)) [
      | inl few ↦ inr (Short, inr (h, few))
      | inr whole ↦ elim (cases_lt 0 (length_field payload)) [
        | inl some ↦ of_area payload fits (record { header = h; whole = whole }) some
        | inr none ↦ inr (BadLength, (record { header = h; whole = whole }, inl (omega arith)))
      ]
    ]

type_cases : (n : ℕ) → (n ≡ 1) ⊎ (n ≢ 1)
type_cases zero = inr (λ e. absurd cc)
type_cases (suc zero) = inl refl
type_cases (suc (suc n)) = inr (λ e. absurd (omega arith))

pub is_frame_or_refused : IsFrameOrRefused
is_frame_or_refused payload all =
    let fits : IsBytes payload = bytes_of_all payload all in
    elim (cases_lt (length payload) 2) [
      | inl few ↦ inr (Short, inl few)
      | inr two ↦ elim (type_cases (type_field payload)) [
        | inr other ↦ inr (BadType, (two, other))
        | inl one ↦ elim (cases_lt 1470 (length_field payload)) [
          | inl big ↦ inr (TooLong, (two, one, big))
          | inr most ↦ of_header payload fits (record { whole = two; type = one; most = most })
        ]
      ]
    ]
