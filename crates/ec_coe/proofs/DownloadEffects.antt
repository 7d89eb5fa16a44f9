-- What a download that is done has changed.
use Rattle.std.proofs.Common.{ℕ, zero, suc, ◌-◌, ◌≡◌, ◌≢◌, ◌==◌, ◌&&◌, ◌||◌, not, Bool, true, false, Option, Some, None, Result, Ok, Err, refl, sym, ◌∙◌, ap, inl, inr, if◌then◌else◌, List, [], ◌∷◌, length, map, set, length-set}
use Rattle.std.proofs.lemmas.Bool.{cases_eq, eqb-true, eq-eqb, ne_eqb, or_parts, not-false}
use Rattle.ec_bits.proofs.AnyLaws.{if_true, if_false}
use Rattle.ec_device.specs.declared.slave_type.Pdo.{Pdo}
use Rattle.ec_device.specs.Hardware.{is_fixed}
use Rattle.ec_coe.specs.declared.value.SdoValue.{SdoValue}
use Rattle.ec_coe.specs.declared.abort_code.AbortCode.{AbortCode}
use Rattle.ec_coe.specs.declared.abort_code.AbortCode.TheVariants.{ReadOnly, WrongLength, InvalidValue, WrongState}
use Rattle.ec_coe.specs.declared.message.SdoCommand.{SdoCommand}
use Rattle.ec_coe.specs.declared.message.SdoCommand.TheVariants.{DownloadRequest, DownloadResponse, UploadRequest, UploadResponse, Abort, Other as OtherCommand}
use Rattle.ec_coe.specs.declared.message.Message.{Message}
use Rattle.ec_coe.specs.Messages.{size_number}
use Rattle.ec_coe.specs.Objects.{Assignment, Dictionary, output_assignment, input_assignment, is_assignment, parameter_of, own_values}
use Rattle.ec_coe.specs.Transfers.{value_at, kept_value, downloaded, object_written, written_by, assignment_written, takes_value, takes_count, takes_index, with_value, is_open, with_outs, with_ins}
use Rattle.ec_coe.specs.Answers.{answered, answer_by, download_answer, value_of}

-- what became of an assignment: it was open, and took the value
pub data Assigned (ps : List Pdo) (a : Assignment) (subindex number : ℕ) (b : Assignment) : Type 0 where
  Counted : subindex ≡ 0 → takes_count ps a number ≡ true → b ≡ record { slots = a.slots; count = number } → Assigned ps a subindex number b
  Slotted : subindex ≢ 0 → (a.count == 0) ≡ true → takes_index ps number ≡ true → b ≡ record { slots = set a.slots (subindex - 1) number; count = a.count } → Assigned ps a subindex number b

abbrev pub good : {X : Type 0} → X → Result X AbortCode
good x = Ok x

abbrev bad : {X : Type 0} → AbortCode → Result X AbortCode
bad code = Err code

ok-is : {X : Type 0} (x y : X) → good x ≡ good y → x ≡ y
ok-is x y e = cc

err-not : {X : Type 0} (code : AbortCode) (y : X) → bad code ≡ good y → ⊥
err-not code y e = cc

-- where a guard lets through, it was met
passed : {X : Type 0} (b : Bool) (code : AbortCode) (r : Result X AbortCode) (y : X) → (if not b then Err code else r) ≡ good y → (b ≡ true) × (r ≡ good y)
passed true code r y e = (refl, e)
passed false code r y e = absurd (err-not code y e)

-- where a guard lets through, it wasn't met
allowed : {X : Type 0} (b : Bool) (code : AbortCode) (r : Result X AbortCode) (y : X) → (if b then Err code else r) ≡ good y → (b ≡ false) × (r ≡ good y)
allowed true code r y e = absurd (err-not code y e)
allowed false code r y e = (refl, e)

granted : {X : Type 0} (b : Bool) (code : AbortCode) (x y : X) → (if b then good x else Err code) ≡ good y → (b ≡ true) × (x ≡ y)
granted true code x y e = (refl, ok-is x y e)
granted false code x y e = absurd (err-not code y e)

both-first : (a b : Bool) → (a && b) ≡ true → a ≡ true
both-first true b e = refl
both-first false b e = absurd (let f : false ≡ true = e in cc)

both-second : (a b : Bool) → (a && b) ≡ true → b ≡ true
both-second true b e = e
both-second false b e = absurd (let f : false ≡ true = e in cc)

either-second : (a b : Bool) → (a || b) ≡ true → a ≡ false → b ≡ true
either-second true b e n = absurd (let f : true ≡ false = n in cc)
either-second false b e n = e

pub open-preop : (in_preop : Bool) (a : Assignment) (subindex : ℕ) → is_open in_preop a subindex ≡ true → in_preop ≡ true
open-preop in_preop a subindex e = both-first in_preop _ e

pub assignment-effect : (in_preop : Bool) (ps : List Pdo) (a : Assignment) (subindex number : ℕ) (b : Assignment) → assignment_written in_preop ps a subindex number ≡ good b
    → (in_preop ≡ true) × Assigned ps a subindex number b
unfolding assignment_written
assignment-effect in_preop ps a subindex number b e =
    let opened = passed (is_open in_preop a subindex) WrongState _ b e in
    let taken = passed (takes_value ps a subindex number) InvalidValue _ b opened.1 in
    let is : with_value a subindex number ≡ b = ok-is _ _ taken.1 in (
      open-preop in_preop a subindex opened.0,
      elim (cases_eq subindex 0) [
        | inl z ↦
            let t : (subindex == 0) ≡ true = eq-eqb subindex 0 z in
            Counted z (sym (if_true _ _ _ t) ∙ taken.0) (sym is ∙ if_true _ _ _ t)
        | inr z ↦
            let t : (subindex == 0) ≡ false = ne_eqb subindex 0 z in
            Slotted z (either-second _ _ (both-second in_preop _ opened.0) t) (sym (if_false _ _ _ t) ∙ taken.0) (sym is ∙ if_false _ _ _ t)
      ],
    )

-- what became of a dictionary
pub data Downloaded (d : Dictionary) (index subindex number : ℕ) (e : Dictionary) : Type 0 where
  Outputs : index ≡ output_assignment → (b : Assignment) → e ≡ record d { outs = b } → Assigned d.kind.outputs d.outs subindex number b → Downloaded d index subindex number e
  Inputs : index ≢ output_assignment → index ≡ input_assignment → (b : Assignment) → e ≡ record d { ins = b } → Assigned d.kind.inputs d.ins subindex number b → Downloaded d index subindex number e

outs-effect : (in_preop : Bool) (d : Dictionary) (index subindex number : ℕ) (e : Dictionary) (r : Result Assignment AbortCode) → index ≡ output_assignment → with_outs d r ≡ good e
    → ((b : Assignment) → r ≡ good b → (in_preop ≡ true) × Assigned d.kind.outputs d.outs subindex number b) → (in_preop ≡ true) × Downloaded d index subindex number e
outs-effect in_preop d index subindex number e (Ok b) i q h = ((h b refl).0, Outputs i b (sym (ok-is _ _ q)) (h b refl).1)
outs-effect in_preop d index subindex number e (Err code) i q h = absurd (err-not code e q)

ins-effect : (in_preop : Bool) (d : Dictionary) (index subindex number : ℕ) (e : Dictionary) (r : Result Assignment AbortCode) → index ≢ output_assignment → index ≡ input_assignment → with_ins d r ≡ good e
    → ((b : Assignment) → r ≡ good b → (in_preop ≡ true) × Assigned d.kind.inputs d.ins subindex number b) → (in_preop ≡ true) × Downloaded d index subindex number e
ins-effect in_preop d index subindex number e (Ok b) o i q h = ((h b refl).0, Inputs o i b (sym (ok-is _ _ q)) (h b refl).1)
ins-effect in_preop d index subindex number e (Err code) o i q h = absurd (err-not code e q)

object-effect : (in_preop : Bool) (d : Dictionary) (index subindex : ℕ) (v : SdoValue) (e : Dictionary) (old : Result SdoValue AbortCode)
    → object_written in_preop d index subindex v old ≡ good e → (is_fixed d.kind.hardware ≡ false) × ((in_preop ≡ true) × Downloaded d index subindex v.number e)
object-effect in_preop d index subindex v e (Err code) q = absurd (err-not code e q)
object-effect in_preop d index subindex v e (Ok old) q =
    let free = allowed (not (is_assignment index) || is_fixed d.kind.hardware) ReadOnly _ e q in
    let parts = or_parts (not (is_assignment index)) (is_fixed d.kind.hardware) free.0 in
    let there : is_assignment index ≡ true = not-false (is_assignment index) parts.0 in
    let fits = passed (size_number v.size == size_number old.size) WrongLength _ e free.1 in (
      parts.1,
      elim (cases_eq index output_assignment) [
        | inl o ↦ outs-effect in_preop d index subindex v.number e _ o (sym (if_true _ _ _ (eq-eqb index output_assignment o)) ∙ fits.1)
            (λ b r. assignment-effect in_preop d.kind.outputs d.outs subindex v.number b r)
        | inr o ↦
            let n : (index == output_assignment) ≡ false = ne_eqb index output_assignment o in
            let i : index ≡ input_assignment = eqb-true index input_assignment (either-second _ _ there n) in
            ins-effect in_preop d index subindex v.number e _ o i (sym (if_false _ _ _ n) ∙ fits.1)
            (λ b r. assignment-effect in_preop d.kind.inputs d.ins subindex v.number b r)
      ],
    )

-- a parameter keeps a value of its length
pub record IsPut (d : Dictionary) (index subindex : ℕ) (v : SdoValue) (e : Dictionary) : Type 0 where
  pub place : ℕ
  pub there : parameter_of d.kind index subindex ≡ Some place
  pub size : size_number v.size ≡ size_number (kept_value d.values place).size
  pub is : e ≡ record d { values = set d.values place v }

-- what a download that is done has changed: an assignment that isn't fixed, in PREOP, or a parameter
pub data Effect (in_preop : Bool) (d : Dictionary) (index subindex : ℕ) (v : SdoValue) (e : Dictionary) : Type 0 where
  Assigns : parameter_of d.kind index subindex ≡ None → is_fixed d.kind.hardware ≡ false → in_preop ≡ true → Downloaded d index subindex v.number e → Effect in_preop d index subindex v e
  Puts : IsPut d index subindex v e → Effect in_preop d index subindex v e

written-effect : (in_preop : Bool) (d : Dictionary) (index subindex : ℕ) (v : SdoValue) (e : Dictionary) (o : Option ℕ) → parameter_of d.kind index subindex ≡ o
    → written_by in_preop d index subindex v o ≡ good e → Effect in_preop d index subindex v e
written-effect in_preop d index subindex v e None p q =
    let w = object-effect in_preop d index subindex v e (value_at (own_values d index) subindex) q in
    Assigns p w.0 w.1.0 w.1.1
written-effect in_preop d index subindex v e (Some place) p q =
    let w = granted (size_number v.size == size_number (kept_value d.values place).size) WrongLength (record d { values = set d.values place v }) e q in
    Puts (record { place = place; there = p; size = eqb-true (size_number v.size) (size_number (kept_value d.values place).size) w.0; is = sym w.1 })

pub download-effect : (in_preop : Bool) (d : Dictionary) (index subindex : ℕ) (v : SdoValue) (e : Dictionary) → downloaded in_preop d index subindex v ≡ good e → Effect in_preop d index subindex v e
unfolding downloaded
download-effect in_preop d index subindex v e q = written-effect in_preop d index subindex v e (parameter_of d.kind index subindex) refl q

-- ---- what an answer changes

-- nothing, or what a download that is done changes
pub data Changed (in_preop : Bool) (d e : Dictionary) : Type 0 where
  Same : e ≡ d → Changed in_preop d e
  Done : (index subindex : ℕ) (v : SdoValue) → Effect in_preop d index subindex v e → Changed in_preop d e

done-changed : (in_preop : Bool) (d : Dictionary) (m : Message) (counter index subindex : ℕ) (v : SdoValue) (r : Result Dictionary AbortCode)
    → downloaded in_preop d index subindex v ≡ r → Changed in_preop d (download_answer d m counter r).dictionary
done-changed in_preop d m counter index subindex v (Ok after) e = Done index subindex v (download-effect in_preop d index subindex v after e)
done-changed in_preop d m counter index subindex v (Err code) e = Same refl

by-changed : (in_preop : Bool) (d : Dictionary) (m : Message) (counter : ℕ) (c : SdoCommand) → Changed in_preop d (answer_by in_preop d m counter c).dictionary
by-changed in_preop d m counter (DownloadRequest s) = done-changed in_preop d m counter m.index m.subindex (value_of s m.value) _ refl
by-changed in_preop d m counter UploadRequest = Same refl
by-changed in_preop d m counter DownloadResponse = Same refl
by-changed in_preop d m counter (UploadResponse s) = Same refl
by-changed in_preop d m counter Abort = Same refl
by-changed in_preop d m counter (OtherCommand n) = Same refl

pub answered-changed : (in_preop : Bool) (d : Dictionary) (m : Message) (counter : ℕ) → Changed in_preop d (answered in_preop d m counter).dictionary
unfolding answered
answered-changed in_preop d m counter = by-changed in_preop d m counter m.command

-- ---- no answer changes how many slots there are, how many bytes a parameter has, nor the type or the identity

abbrev pub size-of : SdoValue → ℕ
size-of v = size_number v.size

pub record SameSlots (d e : Dictionary) : Type 0 where
  pub kind : e.kind ≡ d.kind
  pub identity : e.identity ≡ d.identity
  pub outs : length e.outs.slots ≡ length d.outs.slots
  pub ins : length e.ins.slots ≡ length d.ins.slots
  pub sizes : map size-of e.values ≡ map size-of d.values
  pub values : length e.values ≡ length d.values

assigned-length : (ps : List Pdo) (a b : Assignment) (subindex number : ℕ) → Assigned ps a subindex number b → length b.slots ≡ length a.slots
assigned-length ps a b subindex number (Counted z t e) = ap (λ (x : Assignment). length x.slots) e
assigned-length ps a b subindex number (Slotted z o t e) = ap (λ (x : Assignment). length x.slots) e ∙ length-set a.slots (subindex - 1) number

-- a value of the same length at a place
put-sizes : (vs : List SdoValue) (place : ℕ) (v : SdoValue) → size-of v ≡ size-of (kept_value vs place) → map size-of (set vs place v) ≡ map size-of vs
put-sizes [] place v e = refl
put-sizes (x ∷ vs) zero v e = ap (λ (n : ℕ). n ∷ map size-of vs) e
put-sizes (x ∷ vs) (suc place) v e = ap (λ (ns : List ℕ). size-of x ∷ ns) (put-sizes vs place v e)

downloaded-slots : (d e : Dictionary) (index subindex number : ℕ) → Downloaded d index subindex number e → SameSlots d e
downloaded-slots d e index subindex number (Outputs i b q a) = record {
  kind = ap (λ (x : Dictionary). x.kind) q;
  identity = ap (λ (x : Dictionary). x.identity) q;
  outs = ap (λ (x : Dictionary). length x.outs.slots) q ∙ assigned-length d.kind.outputs d.outs b subindex number a;
  ins = ap (λ (x : Dictionary). length x.ins.slots) q;
  sizes = ap (λ (x : Dictionary). map size-of x.values) q;
  values = ap (λ (x : Dictionary). length x.values) q;
}
downloaded-slots d e index subindex number (Inputs o i b q a) = record {
  kind = ap (λ (x : Dictionary). x.kind) q;
  identity = ap (λ (x : Dictionary). x.identity) q;
  outs = ap (λ (x : Dictionary). length x.outs.slots) q;
  ins = ap (λ (x : Dictionary). length x.ins.slots) q ∙ assigned-length d.kind.inputs d.ins b subindex number a;
  sizes = ap (λ (x : Dictionary). map size-of x.values) q;
  values = ap (λ (x : Dictionary). length x.values) q;
}

effect-slots : (in_preop : Bool) (d e : Dictionary) (index subindex : ℕ) (v : SdoValue) → Effect in_preop d index subindex v e → SameSlots d e
effect-slots in_preop d e index subindex v (Assigns p f b w) = downloaded-slots d e index subindex v.number w
effect-slots in_preop d e index subindex v (Puts w) = record {
  kind = ap (λ (x : Dictionary). x.kind) w.is;
  identity = ap (λ (x : Dictionary). x.identity) w.is;
  outs = ap (λ (x : Dictionary). length x.outs.slots) w.is;
  ins = ap (λ (x : Dictionary). length x.ins.slots) w.is;
  sizes = ap (λ (x : Dictionary). map size-of x.values) w.is ∙ put-sizes d.values w.place v w.size;
  values = ap (λ (x : Dictionary). length x.values) w.is ∙ length-set d.values w.place v;
}

changed-slots : (in_preop : Bool) (d e : Dictionary) → Changed in_preop d e → SameSlots d e
changed-slots in_preop d e (Same q) = record {
  kind = ap (λ (x : Dictionary). x.kind) q;
  identity = ap (λ (x : Dictionary). x.identity) q;
  outs = ap (λ (x : Dictionary). length x.outs.slots) q;
  ins = ap (λ (x : Dictionary). length x.ins.slots) q;
  sizes = ap (λ (x : Dictionary). map size-of x.values) q;
  values = ap (λ (x : Dictionary). length x.values) q;
}
changed-slots in_preop d e (Done index subindex v w) = effect-slots in_preop d e index subindex v w

pub answered-slots : (in_preop : Bool) (d : Dictionary) (m : Message) (counter : ℕ) → SameSlots d (answered in_preop d m counter).dictionary
answered-slots in_preop d m counter = changed-slots in_preop d _ (answered-changed in_preop d m counter)
