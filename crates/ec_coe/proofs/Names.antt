-- What a full slave answers, and how its name lies in a reply.
use Rattle.std.proofs.Common.{ℕ, suc, ◌+◌, ◌*◌, ◌/◌, ◌%◌, ◌<◌, ◌≤◌, ◌≡◌, ◌≢◌, ◌==◌, ◌||◌, not, Bool, true, false, refl, sym, ◌∙◌, ap, subst, inl, inr, arith, List, [], ◌∷◌, ◌++◌, length, take, drop, All, slice_index, slice_set, Option, Some, None, option_map, Result, Ok, length-append, length-set}
use Rattle.std.specs.Option.{option_or}
use Rattle.std.proofs.lemmas.Bool.{cases_Bool, eq-eqb, ne_eqb, lt-ltb, le-ltb, le-leb, leb-true, and_left, and_right, and_from}
use Rattle.std.proofs.lemmas.List.Folds.{find-append}
use Rattle.ec_bits.proofs.AnyLaws.{if_true, if_false}
use Rattle.ec_device.specs.declared.slave_type.Pdo.{Pdo}
use Rattle.ec_device.specs.declared.slave_type.Face.{Face}
use Rattle.ec_device.specs.Types.{IsPdo, IsWithinLimits, first_output_index, first_input_index}
use Rattle.ec_device.specs.Objects.{pdo_at}
use Rattle.ec_coe.specs.declared.value.SdoValue.{SdoValue}
use Rattle.ec_coe.specs.declared.abort_code.AbortCode.{AbortCode}
use Rattle.ec_coe.specs.declared.message.SdoCommand.{SdoCommand}
use Rattle.ec_coe.specs.declared.message.SdoCommand.TheVariants.{DownloadRequest, DownloadResponse, UploadRequest, UploadResponse, Abort, Other as OtherCommand}
use Rattle.ec_coe.specs.declared.message.Service.TheVariants.{Response}
use Rattle.ec_coe.specs.declared.message.Message.{Message}
use Rattle.ec_coe.specs.Messages.{message_bytes, message_length, normal_upload}
use Rattle.ec_coe.specs.Objects.{Dictionary, identity_object, output_assignment, input_assignment, device_name_object, size_of, max_expedited, is_long, letters_number, name_value, name_fits, name_values, long_value, pdo_values, send_room, face_values_of, object_values}
use Rattle.ec_coe.specs.Transfers.{value_at, uploaded}
use Rattle.ec_coe.specs.Answers.{reply_to, has_long_name, normal_answer, upload_answer, upload_reply, answer_by, answered}
use Rattle.ec_coe.specs.ReplyBytes.{fitting_name, letters_behind, message_with, bytes_with, reply_bytes}
use Rattle.ec_coe.specs.NameLaws.{UploadsAreExpedited, FacelessObjects, RepliesStandAlone, RepliesFit, HasName, AsksForName, NamesComeBack}
use Rattle.ec_coe.proofs.ReadBack.{length-message}
use Rattle.ec_coe.proofs.Devices.{upload-unlisted, parameter-full, own-full}

-- ---- uploads

-- the answer to an upload
pub upload-replied : (in_preop : Bool) (d : Dictionary) (m : Message) (counter : ℕ) → m.command ≡ UploadRequest → (answered in_preop d m counter).reply ≡ upload_reply d.kind.face m counter (uploaded d m.index m.subindex)
unfolding answered
upload-replied in_preop d m counter e = ap (λ (c : SdoCommand). (answer_by in_preop d m counter c).reply) e

pub reply-elsewhere : (face : Option Face) (m : Message) (counter : ℕ) (r : Result SdoValue AbortCode) → m.index ≢ device_name_object → upload_reply face m counter r ≡ upload_answer m counter r
reply-elsewhere face m counter r ne = if_false _ _ _ (and_left _ _ (ne_eqb m.index device_name_object ne))

pub reply-faceless : (face : Option Face) (m : Message) (counter : ℕ) (r : Result SdoValue AbortCode) → face ≡ None → upload_reply face m counter r ≡ upload_answer m counter r
reply-faceless face m counter r e = if_false _ _ _ (and_right _ _ (ap has_long_name e))

pub reply-short : (face : Option Face) (m : Message) (counter : ℕ) (r : Result SdoValue AbortCode) → has_long_name face ≡ false → upload_reply face m counter r ≡ upload_answer m counter r
reply-short face m counter r e = if_false _ _ _ (and_right _ _ e)

pub reply-long : (face : Option Face) (m : Message) (counter : ℕ) (r : Result SdoValue AbortCode) → m.index ≡ device_name_object → has_long_name face ≡ true → upload_reply face m counter r ≡ normal_answer m counter r
reply-long face m counter r i e = if_true _ _ _ (and_from _ _ (eq-eqb m.index device_name_object i) e)

pub uploads_expedited : UploadsAreExpedited
uploads_expedited = record {
  elsewhere = λ in_preop d m counter c ne. upload-replied in_preop d m counter c ∙ reply-elsewhere d.kind.face m counter (uploaded d m.index m.subindex) ne;
  faceless = λ in_preop d m counter c e. upload-replied in_preop d m counter c ∙ reply-faceless d.kind.face m counter (uploaded d m.index m.subindex) e;
}

-- ---- objects

or-none : {X : Type 0} (o p : Option X) → p ≡ None → option_or o p ≡ o
or-none None p e = e
or-none (Some x) p e = refl

-- behind the identity and the assignments
pub object-behind : (d : Dictionary) (index : ℕ) → index ≢ identity_object → index ≢ output_assignment → index ≢ input_assignment
    → object_values d index ≡ option_or (option_map pdo_values (pdo_at (d.kind.outputs ++ d.kind.inputs) index)) (face_values_of d.kind.face (send_room d.kind.mailbox) index)
unfolding object_values
object-behind d index a b c = if_false _ _ _ (ne_eqb index identity_object a) ∙ (if_false _ _ _ (ne_eqb index output_assignment b) ∙ if_false _ _ _ (ne_eqb index input_assignment c))

pub faceless_objects : FacelessObjects
faceless_objects d index e a b c =
    object-behind d index a b c ∙ or-none _ _ (ap (λ (f : Option Face). face_values_of f (send_room d.kind.mailbox) index) e)

-- no PDO has an index below those of its direction
none-below : (first : ℕ) (ps : List Pdo) (index : ℕ) → All (IsPdo first) ps → index < first → pdo_at ps index ≡ None
none-below first [] index h l = refl
none-below first (p ∷ ps) index h l =
    let from = (h 0 p (omega arith)).from in
    let ne : p.index ≢ index = omega (arith, from, l) in
    if_false _ _ _ (ne_eqb p.index index ne) ∙ none-below first ps index (λ k q m. h (suc k) q (omega arith)) l

-- the objects that the face shows, behind the PDOs of a type within its limits
pub object-shown : (d : Dictionary) (index : ℕ) → IsWithinLimits d.kind.mailbox d.kind.outputs d.kind.inputs → index < identity_object → object_values d index ≡ face_values_of d.kind.face (send_room d.kind.mailbox) index
object-shown d index h l =
    let outs : pdo_at d.kind.outputs index ≡ None = none-below first_output_index d.kind.outputs index h.outputs.each (omega (arith, l)) in
    let ins : pdo_at d.kind.inputs index ≡ None = none-below first_input_index d.kind.inputs index h.inputs.each (omega (arith, l)) in
    let none : pdo_at (d.kind.outputs ++ d.kind.inputs) index ≡ None
    = find-append (λ (q : Pdo). q.index == index) d.kind.outputs d.kind.inputs ∙ (ap (λ (o : Option Pdo). option_or o (pdo_at d.kind.inputs index)) outs ∙ ins) in
    object-behind d index (omega arith) (omega arith) (omega arith)
    ∙ ap (λ (o : Option Pdo). option_or (option_map pdo_values o) (face_values_of d.kind.face (send_room d.kind.mailbox) index)) none

-- ---- the bytes of a reply

pub length-with : (m : Message) (letters : List ℕ) → length (message_with m letters) ≡ message_length + length letters
length-with m letters = length-append (slice_set (message_bytes m) 0 (10 + length letters)) letters ∙ ap (λ (k : ℕ). k + length letters) (length-set (message_bytes m) 0 (10 + length letters) ∙ length-message m)

-- letters that follow a message fit
fitting-fits : (face : Option Face) (room : ℕ) (letters : List ℕ) → fitting_name face room ≡ Some letters → message_length + length letters ≤ room
fitting-fits None room letters e = absurd (cc)
fitting-fits (Some face) room letters e = elim (cases_Bool (name_fits face.name room)) [
  | inl on ↦
      let is : Some face.name ≡ Some letters = sym (if_true _ _ _ on) ∙ e in
      let same : face.name ≡ letters = cc in
      subst (λ (l : List ℕ). message_length + length l ≤ room) same (leb-true (message_length + length face.name) room on)
  | inr off ↦ let is : None ≡ Some letters = sym (if_false _ _ _ off) ∙ e in absurd (cc)
]

letters-fit : (face : Option Face) (room : ℕ) (c : SdoCommand) (letters : List ℕ) → letters_behind face room c ≡ Some letters → message_length + length letters ≤ room
letters-fit face room (DownloadRequest size) letters e = absurd (cc)
letters-fit face room DownloadResponse letters e = absurd (cc)
letters-fit face room UploadRequest letters e = absurd (cc)
letters-fit face room (UploadResponse size) letters e = absurd (cc)
letters-fit face room Abort letters e = absurd (cc)
letters-fit face room (OtherCommand number) letters e = elim (cases_Bool (number == normal_upload)) [
  | inl on ↦ fitting-fits face room letters (sym (if_true _ _ _ on) ∙ e)
  | inr off ↦ let is : None ≡ Some letters = sym (if_false _ _ _ off) ∙ e in absurd (cc)
]

with-whole : (m : Message) (o : Option (List ℕ)) → message_length ≤ length (bytes_with m o)
with-whole m None = let e = length-message m in omega (arith, e)
with-whole m (Some letters) = let e = length-with m letters in omega (arith, e)

with-fits : (m : Message) (room : ℕ) (o : Option (List ℕ)) → message_length ≤ room → ((letters : List ℕ) → o ≡ Some letters → message_length + length letters ≤ room) → length (bytes_with m o) ≤ room
with-fits m room None l h = let e = length-message m in omega (arith, e)
with-fits m room (Some letters) l h = let e = length-with m letters in let f = h letters refl in omega (arith, e, f)

pub replies_fit : RepliesFit
unfolding reply_bytes
replies_fit = record {
  whole = λ d room m. with-whole m (letters_behind d.kind.face room m.command);
  fits = λ d room m l. with-fits m room (letters_behind d.kind.face room m.command) l (λ letters e. letters-fit d.kind.face room m.command letters e);
}

none-faceless : (room : ℕ) (c : SdoCommand) → letters_behind None room c ≡ None
none-faceless room (DownloadRequest size) = refl
none-faceless room DownloadResponse = refl
none-faceless room UploadRequest = refl
none-faceless room (UploadResponse size) = refl
none-faceless room Abort = refl
none-faceless room (OtherCommand number) = elim (cases_Bool (number == normal_upload)) [ inl on ↦ if_true _ _ _ on | inr off ↦ if_false _ _ _ off ]

none-other : (face : Option Face) (room : ℕ) (c : SdoCommand) → c ≢ OtherCommand normal_upload → letters_behind face room c ≡ None
none-other face room (DownloadRequest size) ne = refl
none-other face room DownloadResponse ne = refl
none-other face room UploadRequest ne = refl
none-other face room (UploadResponse size) ne = refl
none-other face room Abort ne = refl
none-other face room (OtherCommand number) ne = if_false _ _ _ (ne_eqb number normal_upload (λ e. ne (ap OtherCommand e)))

pub replies_alone : RepliesStandAlone
unfolding reply_bytes
replies_alone = record {
  other = λ d room m ne. ap (bytes_with m) (none-other d.kind.face room m.command ne);
  uploaded = λ d room m size e. ap (λ (c : SdoCommand). bytes_with m (letters_behind d.kind.face room c)) e;
  downloaded = λ d room m e. ap (λ (c : SdoCommand). bytes_with m (letters_behind d.kind.face room c)) e;
  aborted = λ d room m e. ap (λ (c : SdoCommand). bytes_with m (letters_behind d.kind.face room c)) e;
  faceless = λ d room m e. ap (λ (f : Option Face). bytes_with m (letters_behind f room m.command)) e ∙ ap (bytes_with m) (none-faceless room m.command);
}

-- ---- the name comes back

told : (m : Message) (name : List ℕ) → m.command ≡ OtherCommand normal_upload → m.value ≡ length name → HasName name (message_with m name)
unfolding message_bytes
told m name c v =
    let number : m.value % 256 + 256 * (m.value / 256 % 256) + 65536 * (m.value / 65536 % 256) + 16777216 * (m.value / 16777216) ≡ m.value = omega arith in
    record { header = omega arith; command = ap (λ (k : SdoCommand). slice_index (message_with (record m { command = k }) name) 8) c; size = number ∙ v; letters = refl }

-- the bytes of a normal upload response
named-bytes : (d : Dictionary) (face : Face) (room : ℕ) (m : Message) → d.kind.face ≡ Some face → message_length + length face.name ≤ room → m.command ≡ OtherCommand normal_upload → reply_bytes d room m ≡ message_with m face.name
unfolding reply_bytes
named-bytes d face room m f l c =
    ap (λ (o : Option Face). bytes_with m (letters_behind o room m.command)) f
    ∙ (ap (λ (k : SdoCommand). bytes_with m (letters_behind (Some face) room k)) c
    ∙ ap (bytes_with m) (if_true _ _ _ (le-leb (message_length + length face.name) room l)))

-- what the object of the name is
name-object : (d : Dictionary) (face : Face) (m : Message) → AsksForName d face m → object_values d m.index ≡ name_values face.name (send_room d.kind.mailbox)
name-object d face m h =
    ap (object_values d) h.index ∙ (object-shown d device_name_object h.limits (omega arith) ∙ ap (λ (f : Option Face). face_values_of f (send_room d.kind.mailbox) device_name_object) h.full)

either-true : (a b : Bool) → b ≡ true → (a || b) ≡ true
either-true true b e = refl
either-true false b e = e

name-uploaded : (d : Dictionary) (face : Face) (m : Message) → AsksForName d face m → (not (is_long face.name) || name_fits face.name (send_room d.kind.mailbox)) ≡ true → uploaded d m.index m.subindex ≡ Ok (name_value face.name)
name-uploaded d face m h there =
    upload-unlisted d m.index m.subindex (parameter-full d.kind face m.index m.subindex h.full)
    ∙ (ap (λ (o : Option (List SdoValue)). value_at o m.subindex) (own-full d face m.index h.full ∙ (name-object d face m h ∙ if_true _ _ _ there))
    ∙ ap (value_at (Some (name_value face.name ∷ []))) h.subindex)

long-replied : (in_preop : Bool) (d : Dictionary) (face : Face) (m : Message) (counter : ℕ) → AsksForName d face m → max_expedited < length face.name → message_length + length face.name ≤ send_room d.kind.mailbox
    → (answered in_preop d m counter).reply ≡ reply_to m counter Response (OtherCommand normal_upload) (length face.name)
long-replied in_preop d face m counter h l fits =
    let long : is_long face.name ≡ true = lt-ltb max_expedited (length face.name) l in
    let there : uploaded d m.index m.subindex ≡ Ok (name_value face.name) = name-uploaded d face m h (either-true _ _ (le-leb (message_length + length face.name) (send_room d.kind.mailbox) fits)) in
    let value : name_value face.name ≡ long_value (length face.name) = if_true _ _ _ long in
    upload-replied in_preop d m counter h.command
    ∙ (reply-long d.kind.face m counter (uploaded d m.index m.subindex) h.index (ap has_long_name h.full ∙ long)
    ∙ ap (normal_answer m counter) (there ∙ ap Ok value))

short-replied : (in_preop : Bool) (d : Dictionary) (face : Face) (m : Message) (counter : ℕ) → AsksForName d face m → length face.name ≤ max_expedited
    → (answered in_preop d m counter).reply ≡ reply_to m counter Response (UploadResponse (size_of (length face.name))) (letters_number face.name)
short-replied in_preop d face m counter h l =
    let short : is_long face.name ≡ false = le-ltb max_expedited (length face.name) l in
    let there : uploaded d m.index m.subindex ≡ Ok (name_value face.name) = name-uploaded d face m h (ap (λ (b : Bool). not b || name_fits face.name (send_room d.kind.mailbox)) short) in
    let value : name_value face.name ≡ record { size = size_of (length face.name); number = letters_number face.name } = if_false _ _ _ short in
    upload-replied in_preop d m counter h.command
    ∙ (reply-short d.kind.face m counter (uploaded d m.index m.subindex) (ap has_long_name h.full ∙ short)
    ∙ ap (upload_answer m counter) (there ∙ ap Ok value))

-- the digits of a number to the base 256
first-digit : (n a b c d : ℕ) → n ≡ a + 256 * b + 65536 * c + 16777216 * d → a < 256 → n % 256 ≡ a
first-digit n a b c d e s = omega arith

second-digit : (n a b c d : ℕ) → n ≡ a + 256 * b + 65536 * c + 16777216 * d → a < 256 → b < 256 → n / 256 % 256 ≡ b
second-digit n a b c d e s t = omega arith

third-digit : (n a b c d : ℕ) → n ≡ a + 256 * b + 65536 * c + 16777216 * d → a < 256 → b < 256 → c < 256 → n / 65536 % 256 ≡ c
third-digit n a b c d e s t u = omega arith

fourth-digit : (n a b c d : ℕ) → n ≡ a + 256 * b + 65536 * c + 16777216 * d → a < 256 → b < 256 → c < 256 → n / 16777216 ≡ d
fourth-digit n a b c d e s t u = omega arith

-- up to four letters are the data bytes
letters-back : (m : Message) (name : List ℕ) → length name ≤ 4 → All (λ (x : ℕ). x < 256) name → m.value ≡ letters_number name → take (length name) (drop 12 (message_bytes m)) ≡ name
unfolding message_bytes
letters-back m [] l h v = refl
letters-back m (a ∷ []) l h v = let s : a < 256 = h 0 0 (omega arith) in let f = first-digit m.value a 0 0 0 v s in rw f refl
letters-back m (a ∷ b ∷ []) l h v =
    let s : a < 256 = h 0 0 (omega arith) in
    let t : b < 256 = h 1 0 (omega arith) in
    let f = first-digit m.value a b 0 0 v s in
    let g = second-digit m.value a b 0 0 v s t in
    rw (f, g) refl
letters-back m (a ∷ b ∷ c ∷ []) l h v =
    let s : a < 256 = h 0 0 (omega arith) in
    let t : b < 256 = h 1 0 (omega arith) in
    let u : c < 256 = h 2 0 (omega arith) in
    let f = first-digit m.value a b c 0 v s in
    let g = second-digit m.value a b c 0 v s t in
    let i = third-digit m.value a b c 0 v s t u in
    rw (f, g, i) refl
letters-back m (a ∷ b ∷ c ∷ e ∷ []) l h v =
    let s : a < 256 = h 0 0 (omega arith) in
    let t : b < 256 = h 1 0 (omega arith) in
    let u : c < 256 = h 2 0 (omega arith) in
    let f = first-digit m.value a b c e v s in
    let g = second-digit m.value a b c e v s t in
    let i = third-digit m.value a b c e v s t u in
    let j = fourth-digit m.value a b c e v s t u in
    rw (f, g, i, j) refl
letters-back m (a ∷ b ∷ c ∷ e ∷ f ∷ rest) l h v = absurd (omega arith)

pub names_back : NamesComeBack
names_back = record {
  long = λ in_preop d face m counter room h l sends fits.
      let r : (answered in_preop d m counter).reply ≡ reply_to m counter Response (OtherCommand normal_upload) (length face.name) = long-replied in_preop d face m counter h l sends in
      let b : reply_bytes d room (answered in_preop d m counter).reply ≡ message_with (answered in_preop d m counter).reply face.name
      = named-bytes d face room (answered in_preop d m counter).reply h.full fits (ap (λ (x : Message). x.command) r) in
      subst (HasName face.name) (sym b) (told (answered in_preop d m counter).reply face.name (ap (λ (x : Message). x.command) r) (ap (λ (x : Message). x.value) r));
  short_size = λ in_preop d face m counter h l. ap (λ (x : Message). x.command) (short-replied in_preop d face m counter h l);
  short = λ in_preop d face m counter h l small. letters-back (answered in_preop d m counter).reply face.name l small (ap (λ (x : Message). x.value) (short-replied in_preop d face m counter h l));
}
