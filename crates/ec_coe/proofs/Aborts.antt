-- The abort that a slave answers with is the first whose cause holds.
use Rattle.std.proofs.Common.{ℕ, zero, suc, ◌+◌, ◌<◌, ◌≤◌, ◌≡◌, ◌≢◌, ◌==◌, ◌&&◌, ◌||◌, ◌⊎◌, not, Bool, true, false, if◌then◌else◌, nat_le, refl, sym, ◌∙◌, ap, subst, inl, inr, arith, add-one, List, [], ◌∷◌, length, take, set, get_or, slice_get, Option, Some, None, is_some, Result, Ok, Err}
use Rattle.std.specs.List.{list_any}
use Rattle.std.specs.Option.{option_or}
use Rattle.std.proofs.lemmas.Option.{slice_get_within, slice_get_cases, slice_get-get_or}
use Rattle.std.proofs.lemmas.List.Quantifiers.{position-Some}
use Rattle.std.proofs.lemmas.Map.Keys.{any_passes_from_place}
use Rattle.std.proofs.lemmas.Bool.{cases_Bool, cases_lt, cases_order, false≢true, eqb-true, eqb-false, eq-eqb, ne_eqb, leb-true, leb-false, and_parts, and_cases, and_from, and_left, and_right, or_cases, or_left, or_right, or_parts, not-false, not-true, not_from_true}
use Rattle.ec_bits.proofs.AnyLaws.{if_true, if_false}
use Rattle.ec_device.specs.declared.slave_type.Pdo.{Pdo}
use Rattle.ec_device.specs.declared.slave_type.Face.{Face}
use Rattle.ec_device.specs.declared.parameter.Parameter.{Parameter}
use Rattle.ec_device.specs.declared.parameter.ParameterSize.TheVariants.{One as OneByte}
use Rattle.ec_device.specs.Hardware.{is_fixed}
use Rattle.ec_device.specs.Parameters.{is_of, parameter_at}
use Rattle.ec_device.specs.Objects.{pdo_at, bits_assigned}
use Rattle.ec_coe.specs.declared.value.ValueSize.{ValueSize}
use Rattle.ec_coe.specs.declared.value.SdoValue.{SdoValue}
use Rattle.ec_coe.specs.declared.message.SdoCommand.{SdoCommand}
use Rattle.ec_coe.specs.declared.message.SdoCommand.TheVariants.{DownloadRequest, DownloadResponse, UploadRequest, UploadResponse, Abort, Other as OtherCommand}
use Rattle.ec_coe.specs.declared.message.Service.TheVariants.{Request, Response}
use Rattle.ec_coe.specs.declared.message.Message.{Message}
use Rattle.ec_coe.specs.declared.abort_code.AbortCode.{AbortCode}
use Rattle.ec_coe.specs.declared.abort_code.AbortCode.TheVariants.{InvalidCommand, ReadOnly, NoObject, WrongLength, NoSubindex, InvalidValue, WrongState}
use Rattle.ec_coe.specs.Messages.{size_number}
use Rattle.ec_coe.specs.Objects.{Assignment, Dictionary, output_assignment, input_assignment, is_assignment, device_name_object, object_values, own_values, no_values_if, has_parameters, parameter_of}
use Rattle.ec_coe.specs.Transfers.{abort_number, value_or_abort, value_at, kept_value, uploaded, contains, distinct, max_bits, takes_count, takes_value, with_value, is_open, assignment_written, with_outs, with_ins, object_written, written_by, downloaded}
use Rattle.ec_coe.specs.Answers.{Answer, abort_to, has_long_name, upload_reply, download_answer, value_of, invalid_answer, answer_by, answered}
use Rattle.ec_coe.specs.AbortLaw.{pdos_at, assignment_at, Downloads, IsNoParameter, HasTwice, IsBadCount, IsBadIndex, HasInvalidValue, Causes, rank_of, IsFirstAbort, FirstAbort}
use Rattle.ec_coe.proofs.Devices.{upload-unlisted, parameter-shown, parameter-taken}
use Rattle.ec_coe.specs.AbortLaw.IsBadCount.{TooMany, Double, TooLong}

-- ---- in order

abbrev code_at : ℕ → AbortCode
code_at n =
    if n == 0 then InvalidCommand
    else (if n == 1 then NoObject
    else (if n == 2 then NoSubindex
    else (if n == 3 then ReadOnly
    else (if n == 4 then WrongLength
    else (if n == 5 then WrongState
    else InvalidValue)))))

at_own_place : (code : AbortCode) → code_at (rank_of code) ≡ code
at_own_place InvalidCommand = refl
at_own_place NoObject = refl
at_own_place NoSubindex = refl
at_own_place ReadOnly = refl
at_own_place WrongLength = refl
at_own_place WrongState = refl
at_own_place InvalidValue = refl

low_place : (code : AbortCode) → rank_of code < 7
low_place InvalidCommand = omega arith
low_place NoObject = omega arith
low_place NoSubindex = omega arith
low_place ReadOnly = omega arith
low_place WrongLength = omega arith
low_place WrongState = omega arith
low_place InvalidValue = omega arith

-- no cause of the first n holds
record Clean (p : Bool) (d : Dictionary) (m : Message) (n : ℕ) : Type 0 where
  none : (other : AbortCode) → Causes p d m other → rank_of other < n → ⊥

clean_none : (p : Bool) (d : Dictionary) (m : Message) → Clean p d m 0
clean_none p d m = record { none = λ other h lt. omega arith }

clean_more : (p : Bool) (d : Dictionary) (m : Message) (n : ℕ) → Clean p d m n → (Causes p d m (code_at n) → ⊥) → Clean p d m (n + 1)
clean_more p d m n clean off = record {
  none = λ other h lt. elim (cases_lt (rank_of other) n) [
    | inl less ↦ clean.none other h less
    | inr more ↦
        let same : rank_of other ≡ n = omega arith in
        off (subst (Causes p d m) (sym (ap code_at (sym same) ∙ at_own_place other)) h)
  ];
}

-- what comes of a request
data Verdict (p : Bool) (d : Dictionary) (m : Message) : Type 0 where
  Aborts : (code : AbortCode) → IsFirstAbort p d m code → ((counter : ℕ) → answered p d m counter ≡ record { reply = abort_to m counter code; dictionary = d }) → Verdict p d m
  Answers : Clean p d m 7 → ((counter : ℕ) → (answered p d m counter).reply.service ≡ Response) → Verdict p d m

aborts : (p : Bool) (d : Dictionary) (m : Message) (code : AbortCode) → Clean p d m (rank_of code) → Causes p d m code
    → ((counter : ℕ) → answered p d m counter ≡ record { reply = abort_to m counter code; dictionary = d }) → Verdict p d m
aborts p d m code clean holds is = Aborts code (record { holds = holds; first = λ other h lt. clean.none other h lt }) is

abbrev code_of : ℕ → AbortCode
code_of n =
    if n == 0x05040001 then InvalidCommand
    else (if n == 0x06010002 then ReadOnly
    else (if n == 0x06020000 then NoObject
    else (if n == 0x06070010 then WrongLength
    else (if n == 0x06090011 then NoSubindex
    else (if n == 0x06090030 then InvalidValue
    else WrongState)))))

own_number : (code : AbortCode) → code_of (abort_number code) ≡ code
own_number InvalidCommand = refl
own_number ReadOnly = refl
own_number NoObject = refl
own_number WrongLength = refl
own_number NoSubindex = refl
own_number InvalidValue = refl
own_number WrongState = refl

one_first : (p : Bool) (d : Dictionary) (m : Message) (a b : AbortCode) → IsFirstAbort p d m a → IsFirstAbort p d m b → a ≡ b
one_first p d m a b f g = elim (cases_order (rank_of a) (rank_of b)) [
  | inl same ↦ sym (at_own_place a) ∙ ap code_at same ∙ at_own_place b
  | inr apart ↦ elim apart [ inl less ↦ absurd (g.first a f.holds less) | inr more ↦ absurd (f.first b g.holds more) ]
]

law_told : (p : Bool) (d : Dictionary) (m : Message) (counter : ℕ) (code : AbortCode) → Verdict p d m → IsFirstAbort p d m code → answered p d m counter ≡ record { reply = abort_to m counter code; dictionary = d }
law_told p d m counter code (Aborts other first is) f = is counter ∙ ap (λ c. record { reply = abort_to m counter c; dictionary = d }) (one_first p d m other code first f)
law_told p d m counter code (Answers clean is) f = absurd (clean.none code f.holds (low_place code))

law_only : (p : Bool) (d : Dictionary) (m : Message) (counter : ℕ) (code : AbortCode) → Verdict p d m → (answered p d m counter).reply ≡ abort_to m counter code → IsFirstAbort p d m code
law_only p d m counter code (Aborts other first is) h =
    let both : abort_to m counter other ≡ abort_to m counter code = sym (ap (λ (a : Answer). a.reply) (is counter)) ∙ h in
    let numbers : abort_number other ≡ abort_number code = ap (λ (r : Message). r.value) both in
    subst (IsFirstAbort p d m) (sym (own_number other) ∙ ap code_of numbers ∙ own_number code) first
law_only p d m counter code (Answers clean is) h =
    let services : Response ≡ Request = sym (is counter) ∙ ap (λ (r : Message). r.service) h in
    absurd (cc)

law_done : (p : Bool) (d : Dictionary) (m : Message) (counter : ℕ) → Verdict p d m → ((code : AbortCode) → Causes p d m code → ⊥) → (answered p d m counter).reply.service ≡ Response
law_done p d m counter (Aborts code first is) h = absurd (h code first.holds)
law_done p d m counter (Answers clean is) h = is counter

-- ---- the commands

no_request : (p : Bool) (d : Dictionary) (m : Message) (c : SdoCommand) → m.command ≡ c → ((counter : ℕ) → answer_by p d m counter c ≡ invalid_answer d m counter) → ((size : ValueSize) → c ≡ DownloadRequest size → ⊥) → (c ≡ UploadRequest → ⊥) → Verdict p d m
unfolding answered
no_request p d m c is by no_download no_upload =
    aborts p d m InvalidCommand (clean_none p d m) (record { no_download = λ size h. no_download size (sym is ∙ h); no_upload = λ h. no_upload (sym is ∙ h) })
    (λ counter. ap (answer_by p d m counter) is ∙ by counter)

no_download_is : (p : Bool) (d : Dictionary) (m : Message) → m.command ≡ UploadRequest → (size : ValueSize) → Downloads m size → ⊥
no_download_is p d m is size h = let e : UploadRequest ≡ DownloadRequest size = sym is ∙ h in cc

-- an abort is the same, however a value would come; and a value comes in a response
refused_reply : (face : Option Face) (m : Message) (counter : ℕ) (code : AbortCode) → upload_reply face m counter (Err code) ≡ abort_to m counter code
refused_reply face m counter code = elim (cases_Bool ((m.index == device_name_object) && has_long_name face)) [ inl on ↦ rw on refl | inr off ↦ rw off refl ]

responded : (face : Option Face) (m : Message) (counter : ℕ) (v : SdoValue) → (upload_reply face m counter (Ok v)).service ≡ Response
responded face m counter v = elim (cases_Bool ((m.index == device_name_object) && has_long_name face)) [ inl on ↦ rw on refl | inr off ↦ rw off refl ]

aborted_upload : (p : Bool) (d : Dictionary) (m : Message) (code : AbortCode) → m.command ≡ UploadRequest → uploaded d m.index m.subindex ≡ Err code
    → (counter : ℕ) → answered p d m counter ≡ record { reply = abort_to m counter code; dictionary = d }
unfolding answered
aborted_upload p d m code is h counter = ap (answer_by p d m counter) is ∙ ap (λ r. record { reply = upload_reply d.kind.face m counter r; dictionary = d }) h ∙ ap (λ r. record { reply = r; dictionary = d }) (refused_reply d.kind.face m counter code)

answered_upload : (p : Bool) (d : Dictionary) (m : Message) (v : SdoValue) → m.command ≡ UploadRequest → uploaded d m.index m.subindex ≡ Ok v → (counter : ℕ) → (answered p d m counter).reply.service ≡ Response
unfolding answered
answered_upload p d m v is h counter =
    ap (λ (a : Answer). a.reply.service) (ap (answer_by p d m counter) is) ∙ ap (λ r. (upload_reply d.kind.face m counter r).service) h ∙ responded d.kind.face m counter v

aborted_download : (p : Bool) (d : Dictionary) (m : Message) (size : ValueSize) (code : AbortCode) → m.command ≡ DownloadRequest size → downloaded p d m.index m.subindex (value_of size m.value) ≡ Err code
    → (counter : ℕ) → answered p d m counter ≡ record { reply = abort_to m counter code; dictionary = d }
unfolding answered
aborted_download p d m size code is h counter = ap (answer_by p d m counter) is ∙ ap (download_answer d m counter) h

answered_download : (p : Bool) (d : Dictionary) (m : Message) (size : ValueSize) (e : Dictionary) → m.command ≡ DownloadRequest size → downloaded p d m.index m.subindex (value_of size m.value) ≡ Ok e → (counter : ℕ) → (answered p d m counter).reply.service ≡ Response
unfolding answered
answered_download p d m size e is h counter =
    ap (λ (a : Answer). a.reply.service) (ap (answer_by p d m counter) is) ∙ ap (λ r. (download_answer d m counter r).reply.service) h

-- ---- where the value is

-- an object with a parameter is there
no_row : Parameter
no_row = record { index = 0; subindex = 0; size = OneByte; value = 0 }

listed : (qs : List Parameter) (index subindex place : ℕ) → parameter_at qs index subindex ≡ Some place → list_any (λ (q : Parameter). q.index == index) qs ≡ true
listed qs index subindex place e =
    let at = position-Some (is_of index subindex) qs place no_row e in
    let row : Parameter = get_or qs place no_row in
    let parts = and_parts (row.index == index) (row.subindex == subindex) at.1 in
    any_passes_from_place (λ (q : Parameter). q.index == index) qs place row (slice_get-get_or qs place no_row at.0) parts.0

some_or : {X : Type 0} (o : Option X) (x : X) → option_or o (Some x) ≡ None → ⊥
some_or None x e = cc
some_or (Some y) x e = cc

there_with : (d : Dictionary) (index subindex place : ℕ) → parameter_of d.kind index subindex ≡ Some place → own_values d index ≡ None → ⊥
there_with d index subindex place e none = elim (cases_Bool (is_assignment index || is_some d.kind.face)) [
  | inl on ↦ let z : None ≡ Some place = sym (if_true _ _ _ on) ∙ e in cc
  | inr off ↦
      let at : parameter_at d.kind.init index subindex ≡ Some place = sym (if_false _ _ _ off) ∙ e in
      let has : has_parameters d.kind index ≡ true = and_from _ _ (ap not off) (listed d.kind.init index subindex place at) in
      some_or (object_values d index) [] (sym (ap (λ (b : Bool). option_or (object_values d index) (no_values_if b)) has) ∙ none)
]

uploaded_none : (d : Dictionary) (m : Message) → IsNoParameter d m → own_values d m.index ≡ None → uploaded d m.index m.subindex ≡ Err NoObject
uploaded_none d m e h = upload-unlisted d m.index m.subindex e ∙ ap (λ o. value_at o m.subindex) h

uploaded_past : (d : Dictionary) (m : Message) (vs : List SdoValue) → IsNoParameter d m → own_values d m.index ≡ Some vs → slice_get vs m.subindex ≡ None → uploaded d m.index m.subindex ≡ Err NoSubindex
uploaded_past d m vs e h g = upload-unlisted d m.index m.subindex e ∙ (ap (λ o. value_at o m.subindex) h ∙ ap value_or_abort g)

value_there : (d : Dictionary) (m : Message) (vs : List SdoValue) (v : SdoValue) → own_values d m.index ≡ Some vs → slice_get vs m.subindex ≡ Some v → value_at (own_values d m.index) m.subindex ≡ Ok v
value_there d m vs v h g = ap (λ o. value_at o m.subindex) h ∙ ap value_or_abort g

past_end : (vs : List SdoValue) (k : ℕ) → slice_get vs k ≡ None → length vs ≤ k
past_end vs k h = elim ((slice_get_cases vs k).1) [ inl in_it ↦ absurd (let at = in_it.2 in cc) | inr out ↦ out.0 ]

listed_none : (p : Bool) (d : Dictionary) (m : Message) (place : ℕ) → parameter_of d.kind m.index m.subindex ≡ Some place → IsNoParameter d m → ⊥
listed_none p d m place e none = let z : None ≡ Some place = sym none ∙ e in cc

-- a request of a command that the slave has: its parameter, or its object's value, or one of the two aborts
module _ (p : Bool) (d : Dictionary) (m : Message) (abort : (code : AbortCode) → uploaded d m.index m.subindex ≡ Err code → (counter : ℕ) → answered p d m counter ≡ record { reply = abort_to m counter code; dictionary = d })
    (go : (v : SdoValue) → Clean p d m 3 → IsNoParameter d m → value_at (own_values d m.index) m.subindex ≡ Ok v → uploaded d m.index m.subindex ≡ Ok v → Verdict p d m)
    (keep : (place : ℕ) → Clean p d m 3 → parameter_of d.kind m.index m.subindex ≡ Some place → Verdict p d m) where
  at_value : (vs : List SdoValue) → Clean p d m 2 → IsNoParameter d m → own_values d m.index ≡ Some vs → (s : Option SdoValue) → slice_get vs m.subindex ≡ s → Verdict p d m
  at_value vs clean e h None g = aborts p d m NoSubindex clean (record { no_parameter = e; values = vs; object = h; past = past_end vs m.subindex g }) (abort NoSubindex (uploaded_past d m vs e h g))
  at_value vs clean e h (Some v) g =
      go v (clean_more p d m 2 clean (λ c.
      let same : c.values ≡ vs = let o = c.object in cc in
      let lt : m.subindex < length vs = slice_get_within vs m.subindex v g in
      let past : length vs ≤ m.subindex = subst (λ ws. length ws ≤ m.subindex) same c.past in
      omega arith)) e (value_there d m vs v h g) (upload-unlisted d m.index m.subindex e ∙ value_there d m vs v h g)

  at_object : Clean p d m 1 → IsNoParameter d m → (o : Option (List SdoValue)) → own_values d m.index ≡ o → Verdict p d m
  at_object clean e None h = aborts p d m NoObject clean (record { none = h }) (abort NoObject (uploaded_none d m e h))
  at_object clean e (Some vs) h = at_value vs (clean_more p d m 1 clean (λ c. let o = c.none in cc)) e h (slice_get vs m.subindex) refl

  at_parameter : Clean p d m 1 → (o : Option ℕ) → parameter_of d.kind m.index m.subindex ≡ o → Verdict p d m
  at_parameter clean None e = at_object clean e (own_values d m.index) refl
  at_parameter clean (Some place) e =
      keep place (clean_more p d m 2 (clean_more p d m 1 clean (λ c. there_with d m.index m.subindex place e c.none)) (λ c. listed_none p d m place e c.no_parameter)) e

upload_verdict : (p : Bool) (d : Dictionary) (m : Message) → m.command ≡ UploadRequest → Verdict p d m
upload_verdict p d m is =
    let off = no_download_is p d m is in
    let whole : Clean p d m 3 → Clean p d m 7
    = λ clean. clean_more p d m 6 (clean_more p d m 5 (clean_more p d m 4 (clean_more p d m 3 clean (λ c. off c.size c.download)) (λ c. off c.size c.download)) (λ c. off c.size c.download)) (λ c. off c.size c.download) in
    at_parameter p d m (λ code h. aborted_upload p d m code is h) (λ v clean e w u. Answers (whole clean) (answered_upload p d m v is u))
    (λ place clean e. Answers (whole clean) (answered_upload p d m (kept_value d.values place) is (parameter-shown d m.index m.subindex place e)))
    (clean_more p d m 0 (clean_none p d m) (λ c. c.no_upload is)) (parameter_of d.kind m.index m.subindex) refl

-- ---- a value that is taken

record AnyAt {X : Type 0} (f : X → Bool) (xs : List X) : Type 0 where
  place : ℕ
  row : X
  there : slice_get xs place ≡ Some row
  hit : f row ≡ true

any_at : (x : ℕ) (xs : List ℕ) → contains xs x ≡ true → AnyAt (λ y. y == x) xs
any_at x [] h = cc
any_at x (y ∷ xs) h = elim (or_cases (y == x) (contains xs x) h) [
  | inl here ↦ record { place = 0; row = y; there = refl; hit = here }
  | inr later ↦ let r = any_at x xs later in record { place = r.place + 1; row = r.row; there = rw add-one r.there; hit = r.hit }
]

twice_found : (ns : List ℕ) → distinct ns ≡ false → HasTwice ns
twice_found [] h = cc
twice_found (n ∷ ns) h = elim (and_cases (not (contains ns n)) (distinct ns) h) [
  | inl here ↦
      let r = any_at n ns (not-false (contains ns n) here) in
      let same : r.row ≡ n = eqb-true r.row n r.hit in
      record { first = 0; second = r.place + 1; before = omega arith; number = n; there = refl; there_too = rw add-one (r.there ∙ ap Some same) }
  | inr later ↦ let r = twice_found ns later in record { first = r.first + 1; second = r.second + 1; before = omega (arith, r.before); number = r.number; there = rw add-one r.there; there_too = rw add-one r.there_too }
]

twice_from : (ns : List ℕ) (i j x : ℕ) → i < j → slice_get ns i ≡ Some x → slice_get ns j ≡ Some x → distinct ns ≡ false
twice_from [] i j x lt a b = absurd (omega (arith, slice_get_within [] i x a))
twice_from (n ∷ ns) i zero x lt a b = absurd (omega arith)
twice_from (n ∷ ns) zero (suc j) x lt a b =
    let same : x ≡ n = cc in
    and_left (not (contains ns n)) (distinct ns) (not_from_true (contains ns n) (any_passes_from_place (λ y. y == n) ns j x b (eq-eqb x n same)))
twice_from (n ∷ ns) (suc i) (suc j) x lt a b = and_right (not (contains ns n)) (distinct ns) (twice_from ns i j x (omega arith) a b)

bad_count : (ps : List Pdo) (a : Assignment) (n : ℕ) → takes_count ps a n ≡ false → IsBadCount ps a n
bad_count ps a n h = elim (and_cases (nat_le n (length ps)) (distinct (take n a.slots) && nat_le (bits_assigned ps (take n a.slots)) max_bits) h) [
  | inl many ↦ TooMany (leb-false n (length ps) many)
  | inr rest ↦ elim (and_cases (distinct (take n a.slots)) (nat_le (bits_assigned ps (take n a.slots)) max_bits) rest) [
    | inl twice ↦ Double (twice_found (take n a.slots) twice)
    | inr long ↦ TooLong (leb-false (bits_assigned ps (take n a.slots)) max_bits long)
  ]
]

good_count : (ps : List Pdo) (a : Assignment) (n : ℕ) → takes_count ps a n ≡ true → IsBadCount ps a n → ⊥
good_count ps a n h (TooMany many) =
    let parts = and_parts (nat_le n (length ps)) (distinct (take n a.slots) && nat_le (bits_assigned ps (take n a.slots)) max_bits) h in
    omega (arith, leb-true n (length ps) parts.0, many)
good_count ps a n h (Double t) =
    let parts = and_parts (nat_le n (length ps)) (distinct (take n a.slots) && nat_le (bits_assigned ps (take n a.slots)) max_bits) h in
    let inner = and_parts (distinct (take n a.slots)) (nat_le (bits_assigned ps (take n a.slots)) max_bits) parts.1 in
    false≢true (sym (twice_from (take n a.slots) t.first t.second t.number t.before t.there t.there_too) ∙ inner.0)
good_count ps a n h (TooLong long) =
    let parts = and_parts (nat_le n (length ps)) (distinct (take n a.slots) && nat_le (bits_assigned ps (take n a.slots)) max_bits) h in
    let inner = and_parts (distinct (take n a.slots)) (nat_le (bits_assigned ps (take n a.slots)) max_bits) parts.1 in
    omega (arith, leb-true (bits_assigned ps (take n a.slots)) max_bits inner.1, long)

none_behind : (x : Pdo) (ps : List Pdo) (index : ℕ) → x.index ≢ index → ((k : ℕ) (q : Pdo) → slice_get ps k ≡ Some q → q.index ≢ index) → (k : ℕ) (q : Pdo) → slice_get (x ∷ ps) k ≡ Some q → q.index ≢ index
none_behind x ps index ne w zero q at = let same : x ≡ q = cc in subst (λ (y : Pdo). y.index ≢ index) same ne
none_behind x ps index ne w (suc k) q at = w k q at

none_at : (ps : List Pdo) (index : ℕ) → is_some (pdo_at ps index) ≡ false → (k : ℕ) (q : Pdo) → slice_get ps k ≡ Some q → q.index ≢ index
none_at [] index h k q at = absurd (omega (arith, slice_get_within [] k q at))
none_at (x ∷ ps) index h k q at = elim (cases_Bool (x.index == index)) [
  | inl on ↦ absurd (let f = rw on at h in cc)
  | inr off ↦ let f = rw off at h in none_behind x ps index (eqb-false x.index index off) (none_at ps index f) k q at
]

some_at : (ps : List Pdo) (index : ℕ) → is_some (pdo_at ps index) ≡ true → IsBadIndex ps index → ⊥
some_at [] index h w = cc
some_at (x ∷ ps) index h w = elim (cases_Bool (x.index == index)) [
  | inl on ↦ w.none 0 x refl (eqb-true x.index index on)
  | inr off ↦ let f = rw off at h in some_at ps index f (record { none = λ k q at. w.none (k + 1) q (rw add-one at) })
]

-- ---- downloads

-- what an assignment object answers
module _ (p : Bool) (d : Dictionary) (index subindex number : ℕ) where
  abbrev by_direction : Result Dictionary AbortCode
  by_direction =
      if index == output_assignment then with_outs d (assignment_written p d.kind.outputs d.outs subindex number) else with_ins d (assignment_written p d.kind.inputs d.ins subindex number)

  abbrev written : Result Assignment AbortCode
  written = assignment_written p (pdos_at d index) (assignment_at d index) subindex number

  refused_by : (code : AbortCode) → written ≡ Err code → by_direction ≡ Err code
  refused_by code h = elim (cases_Bool (index == output_assignment)) [
    | inl on ↦ let f = rw on at h in rw on (ap (with_outs d) f)
    | inr off ↦ let f = rw off at h in rw off (ap (with_ins d) f)
  ]

  record IsDone : Type 0 where
    after : Dictionary
    is : by_direction ≡ Ok after

  done_by : (a : Assignment) → written ≡ Ok a → IsDone
  done_by a h = elim (cases_Bool (index == output_assignment)) [
    | inl on ↦ let f = rw on at h in record { after = record d { outs = a }; is = rw on (ap (with_outs d) f) }
    | inr off ↦ let f = rw off at h in record { after = record d { ins = a }; is = rw off (ap (with_ins d) f) }
  ]

closed_written : (p : Bool) (ps : List Pdo) (a : Assignment) (subindex number : ℕ) → is_open p a subindex ≡ false → assignment_written p ps a subindex number ≡ Err WrongState
unfolding assignment_written
closed_written p ps a subindex number h = rw h refl

invalid_written : (p : Bool) (ps : List Pdo) (a : Assignment) (subindex number : ℕ) → is_open p a subindex ≡ true → takes_value ps a subindex number ≡ false → assignment_written p ps a subindex number ≡ Err InvalidValue
unfolding assignment_written
invalid_written p ps a subindex number h g = rw (h, g) refl

taken_written : (p : Bool) (ps : List Pdo) (a : Assignment) (subindex number : ℕ) → is_open p a subindex ≡ true → takes_value ps a subindex number ≡ true → assignment_written p ps a subindex number ≡ Ok (with_value a subindex number)
unfolding assignment_written
taken_written p ps a subindex number h g = rw (h, g) refl

closed_is : (p : Bool) (a : Assignment) (subindex : ℕ) → is_open p a subindex ≡ false → (p ≡ false) ⊎ ((0 < subindex) × (0 < a.count))
closed_is p a subindex h = elim (and_cases p ((subindex == 0) || (a.count == 0)) h) [
  | inl off ↦ inl off
  | inr slot ↦
      let parts = or_parts (subindex == 0) (a.count == 0) slot in
      let s : subindex ≡ 0 → ⊥ = eqb-false subindex 0 parts.0 in
      let c : a.count ≡ 0 → ⊥ = eqb-false a.count 0 parts.1 in
      inr (omega arith, omega arith)
]

open_is : (p : Bool) (a : Assignment) (subindex : ℕ) → is_open p a subindex ≡ true → ((p ≡ false) ⊎ ((0 < subindex) × (0 < a.count))) → ⊥
open_is p a subindex h closed =
    let both = and_parts p ((subindex == 0) || (a.count == 0)) h in
    elim closed [
      | inl off ↦ false≢true (sym off ∙ both.0)
      | inr slot ↦ elim (or_cases (subindex == 0) (a.count == 0) both.1) [
        | inl z ↦ let s = slot.0 in let e = eqb-true subindex 0 z in omega arith
        | inr z ↦ let s = slot.1 in let e = eqb-true a.count 0 z in omega arith
      ]
    ]

abbrev good_value : SdoValue → Result SdoValue AbortCode
good_value v = Ok v

ok_same : (v w : SdoValue) → good_value v ≡ good_value w → v ≡ w
ok_same v w e = cc

ok_not_err : (v : SdoValue) (code : AbortCode) → good_value v ≡ Err code → ⊥
ok_not_err v code e = cc

-- what a download may be kept from, and when it isn't
abbrev AssignsPdos : ℕ → Type 0
AssignsPdos index = (index ≡ output_assignment) ⊎ (index ≡ input_assignment)

assigns_not : (index : ℕ) → is_assignment index ≡ false → AssignsPdos index → ⊥
assigns_not index off (inl outs) = false≢true (sym off ∙ or_left _ _ (eq-eqb index output_assignment outs))
assigns_not index off (inr ins) = false≢true (sym off ∙ or_right _ _ (eq-eqb index input_assignment ins))

assigns_is : (index : ℕ) → is_assignment index ≡ true → AssignsPdos index
assigns_is index on = elim (or_cases (index == output_assignment) (index == input_assignment) on) [
  | inl outs ↦ inl (eqb-true index output_assignment outs)
  | inr ins ↦ inr (eqb-true index input_assignment ins)
]

kept_is : (index : ℕ) (fixed : Bool) → (not (is_assignment index) || fixed) ≡ true → (AssignsPdos index → ⊥) ⊎ (fixed ≡ true)
kept_is index fixed on = elim (or_cases (not (is_assignment index)) fixed on) [
  | inl off ↦ inl (assigns_not index (not-true (is_assignment index) off))
  | inr f ↦ inr f
]

open_to : (index : ℕ) (fixed : Bool) → (not (is_assignment index) || fixed) ≡ false → ((AssignsPdos index → ⊥) ⊎ (fixed ≡ true)) → ⊥
open_to index fixed off kept =
    let parts = or_parts (not (is_assignment index)) fixed off in
    elim kept [
      | inl other ↦ other (assigns_is index (not-false (is_assignment index) parts.0))
      | inr f ↦ false≢true (sym parts.1 ∙ f)
    ]

module _ (p : Bool) (d : Dictionary) (m : Message) (size : ValueSize) (is : m.command ≡ DownloadRequest size) (v : SdoValue) (none : IsNoParameter d m) (own : value_at (own_values d m.index) m.subindex ≡ Ok v) (found : uploaded d m.index m.subindex ≡ Ok v) where
  abbrev number : ℕ
  number = (value_of size m.value).number

  same_size : (z : ValueSize) → Downloads m z → z ≡ size
  same_size z h = let e : DownloadRequest z ≡ DownloadRequest size = sym h ∙ is in cc

  chain : downloaded p d m.index m.subindex (value_of size m.value) ≡ object_written p d m.index m.subindex (value_of size m.value) (Ok v)
  unfolding downloaded
  chain = ap (written_by p d m.index m.subindex (value_of size m.value)) none ∙ ap (object_written p d m.index m.subindex (value_of size m.value)) own

  abbrev closed : Bool
  closed = not (is_assignment m.index) || is_fixed d.kind.hardware

  read_only : closed ≡ true → downloaded p d m.index m.subindex (value_of size m.value) ≡ Err ReadOnly
  read_only h = chain ∙ rw h refl

  wrong_length : closed ≡ false → (size_number size == size_number v.size) ≡ false → downloaded p d m.index m.subindex (value_of size m.value) ≡ Err WrongLength
  wrong_length h g = chain ∙ rw (h, g) refl

  to_assignment : closed ≡ false → (size_number size == size_number v.size) ≡ true → downloaded p d m.index m.subindex (value_of size m.value) ≡ by_direction p d m.index m.subindex number
  to_assignment h g = chain ∙ rw (h, g) refl

  invalid_is : takes_value (pdos_at d m.index) (assignment_at d m.index) m.subindex number ≡ false → HasInvalidValue d m
  invalid_is h = record {
    size = size;
    download = is;
    no_parameter = none;
    count = λ z. let on : (m.subindex == 0) ≡ true = eq-eqb m.subindex 0 z in let f = rw on at h in bad_count (pdos_at d m.index) (assignment_at d m.index) number f;
    slot = λ z. let off : (m.subindex == 0) ≡ false = ne_eqb m.subindex 0 z in let f = rw off at h in record { none = none_at (pdos_at d m.index) number f };
  }

  taken_is : takes_value (pdos_at d m.index) (assignment_at d m.index) m.subindex number ≡ true → HasInvalidValue d m → ⊥
  taken_is h c =
      let same : (value_of c.size m.value).number ≡ number = ap (λ z. (value_of z m.value).number) (same_size c.size c.download) in
      elim (cases_Bool (m.subindex == 0)) [
        | inl on ↦
            let f = rw on at h in
            good_count (pdos_at d m.index) (assignment_at d m.index) number f (subst (IsBadCount (pdos_at d m.index) (assignment_at d m.index)) same (c.count (eqb-true m.subindex 0 on)))
        | inr off ↦
            let f = rw off at h in
            some_at (pdos_at d m.index) number f (subst (IsBadIndex (pdos_at d m.index)) same (c.slot (eqb-false m.subindex 0 off)))
      ]

  at_taken : Clean p d m 6 → downloaded p d m.index m.subindex (value_of size m.value) ≡ by_direction p d m.index m.subindex number → is_open p (assignment_at d m.index) m.subindex ≡ true → Verdict p d m
  at_taken clean to ready = elim (cases_Bool (takes_value (pdos_at d m.index) (assignment_at d m.index) m.subindex number)) [
    | inr bad ↦
        aborts p d m InvalidValue clean (invalid_is bad)
        (aborted_download p d m size InvalidValue is (to ∙ refused_by p d m.index m.subindex number InvalidValue (invalid_written p (pdos_at d m.index) (assignment_at d m.index) m.subindex number ready bad)))
    | inl good ↦
        let done = done_by p d m.index m.subindex number (with_value (assignment_at d m.index) m.subindex number) (taken_written p (pdos_at d m.index) (assignment_at d m.index) m.subindex number ready good) in
        Answers (clean_more p d m 6 clean (taken_is good)) (answered_download p d m size done.after is (to ∙ done.is))
  ]

  at_open : Clean p d m 5 → downloaded p d m.index m.subindex (value_of size m.value) ≡ by_direction p d m.index m.subindex number → Verdict p d m
  at_open clean to = elim (cases_Bool (is_open p (assignment_at d m.index) m.subindex)) [
    | inr closed ↦
        aborts p d m WrongState clean (record { size = size; download = is; no_parameter = none; closed = closed_is p (assignment_at d m.index) m.subindex closed })
        (aborted_download p d m size WrongState is (to ∙ refused_by p d m.index m.subindex number WrongState (closed_written p (pdos_at d m.index) (assignment_at d m.index) m.subindex number closed)))
    | inl ready ↦ at_taken (clean_more p d m 5 clean (λ c. open_is p (assignment_at d m.index) m.subindex ready c.closed)) to ready
  ]

  at_length : Clean p d m 4 → closed ≡ false → Verdict p d m
  at_length clean h = elim (cases_Bool (size_number size == size_number v.size)) [
    | inr off ↦
        aborts p d m WrongLength clean (record { size = size; download = is; value = v; there = found; unlike = eqb-false (size_number size) (size_number v.size) off })
        (aborted_download p d m size WrongLength is (wrong_length h off))
    | inl on ↦
        at_open (clean_more p d m 4 clean (λ c.
        let value : c.value ≡ v = ok_same c.value v (sym c.there ∙ found) in
        c.unlike (ap size_number (same_size c.size c.download) ∙ eqb-true (size_number size) (size_number v.size) on ∙ ap (λ (x : SdoValue). size_number x.size) (sym value))))
        (to_assignment h on)
  ]

  at_index : Clean p d m 3 → Verdict p d m
  at_index clean = elim (cases_Bool closed) [
    | inl on ↦
        aborts p d m ReadOnly clean (record { size = size; download = is; no_parameter = none; kept = kept_is m.index (is_fixed d.kind.hardware) on })
        (aborted_download p d m size ReadOnly is (read_only on))
    | inr off ↦ at_length (clean_more p d m 3 clean (λ c. open_to m.index (is_fixed d.kind.hardware) off c.kept)) off
  ]

refused_early : (p : Bool) (d : Dictionary) (m : Message) (size : ValueSize) (code : AbortCode) → IsNoParameter d m → value_at (own_values d m.index) m.subindex ≡ Err code → downloaded p d m.index m.subindex (value_of size m.value) ≡ Err code
unfolding downloaded
refused_early p d m size code e h = ap (written_by p d m.index m.subindex (value_of size m.value)) e ∙ ap (object_written p d m.index m.subindex (value_of size m.value)) h

-- a value that can't be read can't be written
refused_by_place : (p : Bool) (d : Dictionary) (m : Message) (size : ValueSize) (code : AbortCode) (o : Option ℕ) → parameter_of d.kind m.index m.subindex ≡ o → uploaded d m.index m.subindex ≡ Err code
    → downloaded p d m.index m.subindex (value_of size m.value) ≡ Err code
refused_by_place p d m size code None e h = refused_early p d m size code e (sym (upload-unlisted d m.index m.subindex e) ∙ h)
refused_by_place p d m size code (Some place) e h = absurd (ok_not_err (kept_value d.values place) code (sym (parameter-shown d m.index m.subindex place e) ∙ h))

refused_upload : (p : Bool) (d : Dictionary) (m : Message) (size : ValueSize) (code : AbortCode) → uploaded d m.index m.subindex ≡ Err code → downloaded p d m.index m.subindex (value_of size m.value) ≡ Err code
refused_upload p d m size code h = refused_by_place p d m size code (parameter_of d.kind m.index m.subindex) refl h

-- a parameter
module _ (p : Bool) (d : Dictionary) (m : Message) (size : ValueSize) (is : m.command ≡ DownloadRequest size) (place : ℕ) (e : parameter_of d.kind m.index m.subindex ≡ Some place) where
  abbrev old : SdoValue
  old = kept_value d.values place

  other_length : (size_number size == size_number old.size) ≡ false → downloaded p d m.index m.subindex (value_of size m.value) ≡ Err WrongLength
  unfolding downloaded
  other_length off = ap (written_by p d m.index m.subindex (value_of size m.value)) e ∙ if_false _ _ _ off

  one_size : (z : ValueSize) → Downloads m z → z ≡ size
  one_size z h = let f : DownloadRequest z ≡ DownloadRequest size = sym h ∙ is in cc

  put_verdict : Clean p d m 3 → Verdict p d m
  put_verdict clean =
      let unread = clean_more p d m 3 clean (λ c. listed_none p d m place e c.no_parameter) in
      elim (cases_Bool (size_number size == size_number old.size)) [
        | inr off ↦
            aborts p d m WrongLength unread
            (record { size = size; download = is; value = old; there = parameter-shown d m.index m.subindex place e; unlike = eqb-false (size_number size) (size_number old.size) off })
            (aborted_download p d m size WrongLength is (other_length off))
        | inl on ↦
            let long = clean_more p d m 4 unread (λ c.
            let value : c.value ≡ old = ok_same c.value old (sym c.there ∙ parameter-shown d m.index m.subindex place e) in
            c.unlike (ap size_number (one_size c.size c.download) ∙ eqb-true (size_number size) (size_number old.size) on ∙ ap (λ (x : SdoValue). size_number x.size) (sym value))) in
            Answers (clean_more p d m 6 (clean_more p d m 5 long (λ c. listed_none p d m place e c.no_parameter)) (λ c. listed_none p d m place e c.no_parameter))
            (answered_download p d m size (record d { values = set d.values place (value_of size m.value) }) is
            (parameter-taken p d m.index m.subindex place (value_of size m.value) e (eqb-true (size_number size) (size_number old.size) on)))
      ]

download_verdict : (p : Bool) (d : Dictionary) (m : Message) (size : ValueSize) → m.command ≡ DownloadRequest size → Verdict p d m
download_verdict p d m size is =
    at_download (clean_more p d m 0 (clean_none p d m) (λ c. c.no_download size is)) (parameter_of d.kind m.index m.subindex) refl
  where
    at_download : Clean p d m 1 → (o : Option ℕ) → parameter_of d.kind m.index m.subindex ≡ o → Verdict p d m
    at_download clean o e =
        at_parameter p d m (λ code h. aborted_download p d m size code is (refused_upload p d m size code h)) (λ v k n w u. at_index p d m size is v n w u k)
        (λ place k q. put_verdict p d m size is place q k) clean o e

-- ---- the whole

verdict : (p : Bool) (d : Dictionary) (m : Message) (c : SdoCommand) → m.command ≡ c → Verdict p d m
verdict p d m (DownloadRequest size) is = download_verdict p d m size is
verdict p d m UploadRequest is = upload_verdict p d m is
verdict p d m DownloadResponse is = no_request p d m DownloadResponse is (λ counter. refl) (λ size h. cc) (λ h. cc)
verdict p d m (UploadResponse size) is = no_request p d m (UploadResponse size) is (λ counter. refl) (λ z h. cc) (λ h. cc)
verdict p d m Abort is = no_request p d m Abort is (λ counter. refl) (λ size h. cc) (λ h. cc)
verdict p d m (OtherCommand number) is = no_request p d m (OtherCommand number) is (λ counter. refl) (λ size h. cc) (λ h. cc)

pub first_abort : FirstAbort
first_abort = record {
  told = λ p d m counter code f. law_told p d m counter code (verdict p d m m.command refl) f;
  only = λ p d m counter code h. law_only p d m counter code (verdict p d m m.command refl) h;
  done = λ p d m counter h. law_done p d m counter (verdict p d m m.command refl) h;
}
