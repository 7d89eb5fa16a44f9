-- What is set aside, what a reply without a size says, and what becomes of parameters and of fixed assignments.
use Rattle.std.proofs.Common.{ℕ, ◌+◌, ◌*◌, ◌/◌, ◌<◌, ◌≡◌, ◌==◌, ◌||◌, ◌⊎◌, not, Bool, true, false, if◌then◌else◌, refl, sym, ◌∙◌, ap, inl, inr, arith, List, [], ◌∷◌, ◌++◌, length, map, set, Option, Some, None, is_some, Result, Ok, Err, get_or-set_same}
use Rattle.std.specs.List.{list_any}
use Rattle.std.specs.Option.{option_or}
use Rattle.std.proofs.lemmas.Bool.{eq-eqb, or_from, or_left, or_right, and_left, and_right}
use Rattle.std.proofs.lemmas.Option.{unwrap_or-slice_get}
use Rattle.ec_bits.proofs.AnyLaws.{if_true, if_false}
use Rattle.ec_device.specs.Hardware.{is_fixed}
use Rattle.ec_device.specs.declared.parameter.Parameter.{Parameter}
use Rattle.ec_device.specs.declared.parameter.ParameterSize.{ParameterSize}
use Rattle.ec_device.specs.declared.parameter.ParameterSize.TheVariants.{One as OneByte, Two as TwoBytes, Four as FourBytes}
use Rattle.ec_device.specs.Parameters.{byte_count}
use Rattle.ec_device.specs.declared.slave_type.Face.{Face}
use Rattle.ec_device.specs.Types.{SlaveKind}
use Rattle.ec_coe.specs.declared.abort_code.AbortCode.{AbortCode}
use Rattle.ec_coe.specs.declared.value.ValueSize.{ValueSize}
use Rattle.ec_coe.specs.declared.value.SdoValue.{SdoValue}
use Rattle.ec_coe.specs.declared.message.Service.{Service}
use Rattle.ec_coe.specs.declared.message.Service.TheVariants.{Request, Response}
use Rattle.ec_coe.specs.declared.message.SdoCommand.{SdoCommand}
use Rattle.ec_coe.specs.declared.message.SdoCommand.TheVariants.{DownloadRequest, DownloadResponse, UploadRequest, UploadResponse, Abort, Other as OtherCommand}
use Rattle.ec_coe.specs.declared.message.Message.{Message}
use Rattle.ec_coe.specs.Messages.{message_bytes, service_number, size_number}
use Rattle.ec_coe.specs.Objects.{Dictionary, byte_value, parameter_of, has_parameters, no_values_if, object_values, own_values}
use Rattle.ec_coe.specs.Transfers.{value_at, kept_value, uploaded, uploaded_by, written_by, downloaded}
use Rattle.ec_coe.specs.SwitchedOn.{bare_dictionary, first_value, value_size}
use Rattle.ec_coe.specs.Answers.{download_answer, normal_answer, upload_answer, upload_reply, answer_by, answered, value_of}
use Rattle.ec_coe.specs.ReplyBytes.{letters_behind, message_with, bytes_with, reply_bytes}
use Rattle.ec_coe.specs.Replies.{is_aside, is_unsized, sized_command, reply_in}
use Rattle.ec_coe.specs.Refusals.{service_in, sdo_request, sdo_response}
use Rattle.ec_coe.specs.DeviceLaws.{AreSetAside, SizedRepliesAreReplies, ParametersAreKept, SizesStay, FirstValuesHaveSizes, PlainDictionaries, IsLeftAssigned, FixedAssignmentsStay}
use Rattle.ec_coe.proofs.ReadBack.{has-type}
use Rattle.ec_coe.proofs.DownloadEffects.{Effect, Assigns, Puts, Changed, Same, Done, answered-changed, answered-slots}
use Rattle.ec_coe.proofs.AssignmentsStay.{no-parameter}

-- ---- messages

-- a request or a response
abbrev IsOfSdo : Service → Type 0
IsOfSdo s = (s ≡ Request) ⊎ (s ≡ Response)

service-in : (m : Message) (rest : List ℕ) → service_in (message_bytes m ++ rest) ≡ service_number m.service
unfolding message_bytes
service-in m rest = let e : 16 * service_number m.service / 16 ≡ service_number m.service = omega arith in e

of-sdo : (n : ℕ) (s : Service) → n ≡ service_number s → IsOfSdo s → ((n == sdo_request) || (n == sdo_response)) ≡ true
of-sdo n s e (inl r) = or_left _ _ (eq-eqb n sdo_request (e ∙ ap service_number r))
of-sdo n s e (inr r) = or_right _ _ (eq-eqb n sdo_response (e ∙ ap service_number r))

not-aside : (m : Message) (rest : List ℕ) → IsOfSdo m.service → is_aside (message_bytes m ++ rest) ≡ false
not-aside m rest h = or_from _ _ (ap not (has-type m rest)) (ap not (of-sdo (service_in (message_bytes m ++ rest)) m.service (service-in m rest) h))

-- letters behind a message change nothing of it
with-letters : (m : Message) (letters rest : List ℕ) → is_aside (message_with m letters ++ rest) ≡ is_aside (message_bytes m ++ rest)
unfolding message_bytes
with-letters m letters rest = refl

bytes-not-aside : (m : Message) (o : Option (List ℕ)) (rest : List ℕ) → IsOfSdo m.service → is_aside (bytes_with m o ++ rest) ≡ false
bytes-not-aside m None rest h = not-aside m rest h
bytes-not-aside m (Some letters) rest h = with-letters m letters rest ∙ not-aside m rest h

-- what a slave replies
pick : {X : Type 0} (P : X → Type 0) (b : Bool) (x y : X) → P x → P y → P (if b then x else y)
pick P true x y p q = p
pick P false x y p q = q

download-sdo : (d : Dictionary) (m : Message) (counter : ℕ) (r : Result Dictionary AbortCode) → IsOfSdo (download_answer d m counter r).reply.service
download-sdo d m counter (Ok after) = inr refl
download-sdo d m counter (Err code) = inl refl

normal-sdo : (m : Message) (counter : ℕ) (r : Result SdoValue AbortCode) → IsOfSdo (normal_answer m counter r).service
normal-sdo m counter (Ok value) = inr refl
normal-sdo m counter (Err code) = inl refl

expedited-sdo : (m : Message) (counter : ℕ) (r : Result SdoValue AbortCode) → IsOfSdo (upload_answer m counter r).service
expedited-sdo m counter (Ok value) = inr refl
expedited-sdo m counter (Err code) = inl refl

upload-sdo : (face : Option Face) (m : Message) (counter : ℕ) (r : Result SdoValue AbortCode) → IsOfSdo (upload_reply face m counter r).service
upload-sdo face m counter r = pick (λ (x : Message). IsOfSdo x.service) _ _ _ (normal-sdo m counter r) (expedited-sdo m counter r)

answer-sdo : (in_preop : Bool) (d : Dictionary) (m : Message) (counter : ℕ) (c : SdoCommand) → IsOfSdo (answer_by in_preop d m counter c).reply.service
answer-sdo in_preop d m counter (DownloadRequest size) = download-sdo d m counter (downloaded in_preop d m.index m.subindex (value_of size m.value))
answer-sdo in_preop d m counter UploadRequest = upload-sdo d.kind.face m counter (uploaded d m.index m.subindex)
answer-sdo in_preop d m counter DownloadResponse = inl refl
answer-sdo in_preop d m counter (UploadResponse size) = inl refl
answer-sdo in_preop d m counter Abort = inl refl
answer-sdo in_preop d m counter (OtherCommand number) = inl refl

pub answered-sdo : (in_preop : Bool) (d : Dictionary) (m : Message) (counter : ℕ) → ((answered in_preop d m counter).reply.service ≡ Request) ⊎ ((answered in_preop d m counter).reply.service ≡ Response)
unfolding answered
answered-sdo in_preop d m counter = answer-sdo in_preop d m counter m.command

reply-not-aside : (d : Dictionary) (room : ℕ) (m : Message) (rest : List ℕ) → IsOfSdo m.service → is_aside (reply_bytes d room m ++ rest) ≡ false
unfolding reply_bytes
reply-not-aside d room m rest h = bytes-not-aside m (letters_behind d.kind.face room m.command) rest h

pub set_aside : AreSetAside
set_aside = record {
  emergencies = λ counter rest. or_right _ _ refl;
  messages = not-aside;
  replies = λ in_preop d m counter room rest. reply-not-aside d room (answered in_preop d m counter).reply rest (answered-sdo in_preop d m counter);
}

-- a command that says the size, or is of no upload
same-command : (wanted : ValueSize) (c : SdoCommand) → ((number : ℕ) → c ≡ OtherCommand number → is_unsized number ≡ false) → sized_command wanted c ≡ c
same-command wanted (DownloadRequest size) h = refl
same-command wanted DownloadResponse h = refl
same-command wanted UploadRequest h = refl
same-command wanted (UploadResponse size) h = refl
same-command wanted Abort h = refl
same-command wanted (OtherCommand number) h = if_false _ _ _ (h number refl)

pub sized_replies : SizedRepliesAreReplies
sized_replies index subindex wanted m h = ap (λ (c : SdoCommand). reply_in index subindex (record m { command = c })) (same-command wanted m.command h)

-- ---- parameters

kept-set : (vs : List SdoValue) (place : ℕ) (v : SdoValue) → place < length vs → kept_value (set vs place v) place ≡ v
kept-set vs place v l = unwrap_or-slice_get (set vs place v) place (byte_value 0) ∙ get_or-set_same vs place v (byte_value 0) l

pub parameter-shown : (d : Dictionary) (index subindex place : ℕ) → parameter_of d.kind index subindex ≡ Some place → uploaded d index subindex ≡ Ok (kept_value d.values place)
unfolding uploaded
parameter-shown d index subindex place e = ap (uploaded_by d index subindex) e

pub parameter-taken : (in_preop : Bool) (d : Dictionary) (index subindex place : ℕ) (v : SdoValue) → parameter_of d.kind index subindex ≡ Some place → size_number v.size ≡ size_number (kept_value d.values place).size
    → downloaded in_preop d index subindex v ≡ Ok (record d { values = set d.values place v })
unfolding downloaded
parameter-taken in_preop d index subindex place v e l =
    ap (written_by in_preop d index subindex v) e ∙ if_true _ _ _ (eq-eqb (size_number v.size) (size_number (kept_value d.values place).size) l)

abbrev good : SdoValue → Result SdoValue AbortCode
good v = Ok v

pub parameters_kept : ParametersAreKept
parameters_kept in_preop d index subindex place e = record {
  shows = parameter-shown d index subindex place e;
  takes = λ v l inside. (
    record d { values = set d.values place v },
    (
      parameter-taken in_preop d index subindex place v e l,
      parameter-shown (record d { values = set d.values place v }) index subindex place e ∙ ap good (kept-set d.values place v inside),
    ),
  );
}

pub sizes_stay : SizesStay
sizes_stay in_preop d m counter = (answered-slots in_preop d m counter).sizes

size-same : (z : ParameterSize) → size_number (value_size z) ≡ byte_count z
size-same OneByte = refl
size-same TwoBytes = refl
size-same FourBytes = refl

fresh-sizes : (d : Dictionary) (qs : List Parameter) → map (λ (v : SdoValue). size_number v.size) (map (first_value d) qs) ≡ map (λ (q : Parameter). byte_count q.size) qs
fresh-sizes d [] = refl
fresh-sizes d (q ∷ qs) =
    ap (λ (n : ℕ). n ∷ map (λ (v : SdoValue). size_number v.size) (map (first_value d) qs)) (size-same q.size)
    ∙ ap (λ (ns : List ℕ). byte_count q.size ∷ ns) (fresh-sizes d qs)

pub first_sizes : FirstValuesHaveSizes
first_sizes kind identity = fresh-sizes (bare_dictionary kind identity) kind.init

-- ---- without them

or-none : {X : Type 0} (o : Option X) → option_or o None ≡ o
or-none None = refl
or-none (Some x) = refl

none-listed : (kind : SlaveKind) (index : ℕ) → kind.init ≡ [] → has_parameters kind index ≡ false
none-listed kind index e = and_right _ _ (ap (list_any (λ (q : Parameter). q.index == index)) e)

pub own-plain : (d : Dictionary) (index : ℕ) → d.kind.init ≡ [] → own_values d index ≡ object_values d index
own-plain d index e = ap (λ (b : Bool). option_or (object_values d index) (no_values_if b)) (none-listed d.kind index e) ∙ or-none (object_values d index)

pub upload-unlisted : (d : Dictionary) (index subindex : ℕ) → parameter_of d.kind index subindex ≡ None → uploaded d index subindex ≡ value_at (own_values d index) subindex
unfolding uploaded
upload-unlisted d index subindex e = ap (uploaded_by d index subindex) e

pub plain_dictionary : PlainDictionaries
plain_dictionary d index subindex e = upload-unlisted d index subindex (no-parameter d.kind index subindex e) ∙ ap (λ o. value_at o subindex) (own-plain d index e)

-- ---- a full slave has none either

pub parameter-full : (kind : SlaveKind) (face : Face) (index subindex : ℕ) → kind.face ≡ Some face → parameter_of kind index subindex ≡ None
parameter-full kind face index subindex e = if_true _ _ _ (or_right _ _ (ap is_some e))

none-full : (kind : SlaveKind) (face : Face) (index : ℕ) → kind.face ≡ Some face → has_parameters kind index ≡ false
none-full kind face index e = and_left _ _ (ap not (or_right _ _ (ap is_some e)))

pub own-full : (d : Dictionary) (face : Face) (index : ℕ) → d.kind.face ≡ Some face → own_values d index ≡ object_values d index
own-full d face index e = ap (λ (b : Bool). option_or (object_values d index) (no_values_if b)) (none-full d.kind face index e) ∙ or-none (object_values d index)

-- ---- fixed assignments

effect-left : (in_preop : Bool) (d e : Dictionary) (index subindex : ℕ) (v : SdoValue) → is_fixed d.kind.hardware ≡ true → Effect in_preop d index subindex v e → IsLeftAssigned d e
effect-left in_preop d e index subindex v f (Assigns p g b w) = absurd (let z : true ≡ false = sym f ∙ g in cc)
effect-left in_preop d e index subindex v f (Puts w) = record { outs = ap (λ (x : Dictionary). x.outs) w.is; ins = ap (λ (x : Dictionary). x.ins) w.is }

changed-left : (in_preop : Bool) (d e : Dictionary) → is_fixed d.kind.hardware ≡ true → Changed in_preop d e → IsLeftAssigned d e
changed-left in_preop d e f (Same q) = record { outs = ap (λ (x : Dictionary). x.outs) q; ins = ap (λ (x : Dictionary). x.ins) q }
changed-left in_preop d e f (Done index subindex v w) = effect-left in_preop d e index subindex v f w

pub fixed_stays : FixedAssignmentsStay
fixed_stays in_preop d m counter f = changed-left in_preop d _ f (answered-changed in_preop d m counter)
