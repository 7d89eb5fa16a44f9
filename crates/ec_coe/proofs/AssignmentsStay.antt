-- Assignments stay lists of the type's own PDOs, without a double and of few enough bits.
use Rattle.std.proofs.Common.{ℕ, ◌-◌, ◌<◌, ◌≤◌, ◌≡◌, ◌==◌, ◌&&◌, ◌||◌, Bool, true, false, Some, None, refl, sym, ◌∙◌, ap, subst, inl, inr, arith, List, [], length, set, take, get_or, is_some, length-set, get_or-set_same, get_or-set_other}
use Rattle.std.proofs.lemmas.Bool.{cases_Bool, cases_eq, eqb-true, leb-true}
use Rattle.ec_bits.proofs.AnyLaws.{if_true, if_false}
use Rattle.ec_device.specs.declared.slave_type.Pdo.{Pdo}
use Rattle.ec_device.specs.Objects.{pdo_at, bits_assigned}
use Rattle.ec_device.specs.declared.parameter.Parameter.{Parameter}
use Rattle.ec_device.specs.Parameters.{parameter_at}
use Rattle.ec_device.specs.Types.{SlaveKind}
use Rattle.ec_coe.specs.declared.value.SdoValue.{SdoValue}
use Rattle.ec_coe.specs.Objects.{Assignment, Dictionary, is_assignment, parameter_of}
use Rattle.ec_coe.specs.Transfers.{distinct, max_bits, takes_count}
use Rattle.ec_coe.specs.Laws.{IsAssignment, KeepsAssignments, ChangesInPreopAlone, AnswersKeepAssignments}
use Rattle.ec_coe.proofs.DownloadEffects.{Assigned, Counted, Slotted, Downloaded, Outputs, Inputs, Effect, Assigns, Puts, Changed, Same, Done, answered-changed}

both-second : (a b : Bool) → (a && b) ≡ true → b ≡ true
both-second true b e = e
both-second false b e = absurd (let f : false ≡ true = e in cc)

both-first : (a b : Bool) → (a && b) ≡ true → a ≡ true
both-first true b e = refl
both-first false b e = absurd (let f : false ≡ true = e in cc)

counted-stays : (ps : List Pdo) (a b : Assignment) (number : ℕ) → takes_count ps a number ≡ true → b ≡ record { slots = a.slots; count = number } → IsAssignment ps a → IsAssignment ps b
counted-stays ps a b number t e h =
    let inner = both-second _ _ t in
    let small : bits_assigned ps (take number a.slots) ≤ max_bits = leb-true _ _ (both-second _ _ inner) in
    subst (IsAssignment ps) (sym e) (record { own = h.own; apart = both-first _ _ inner; bits = small })

-- nothing is assigned while the count is 0
none-assigned : (xs : List ℕ) (n : ℕ) → n ≡ 0 → take n xs ≡ []
none-assigned xs n e = ap (λ (k : ℕ). take k xs) e

slotted-stays : (ps : List Pdo) (a b : Assignment) (slot number : ℕ) → (a.count == 0) ≡ true → is_some (pdo_at ps number) ≡ true → b ≡ record { slots = set a.slots slot number; count = a.count }
    → IsAssignment ps a → IsAssignment ps b
slotted-stays ps a b slot number o t e h =
    let zero_count : a.count ≡ 0 = eqb-true a.count 0 o in
    let same : take a.count (set a.slots slot number) ≡ [] = none-assigned (set a.slots slot number) a.count zero_count in
    subst (IsAssignment ps) (sym e) (record {
      own = λ k l. elim (cases_eq k slot) [
        | inl q ↦
            let inside : slot < length a.slots = let long = length-set a.slots slot number in omega (arith, long) in
            ap (λ (n : ℕ). is_some (pdo_at ps n)) (ap (λ (j : ℕ). get_or (set a.slots slot number) j 0) q ∙ get_or-set_same a.slots slot number 0 inside) ∙ t
        | inr q ↦
            let inside : k < length a.slots = let long = length-set a.slots slot number in omega (arith, long) in
            ap (λ (n : ℕ). is_some (pdo_at ps n)) (get_or-set_other a.slots slot k number 0 q) ∙ h.own k inside
      ];
      apart = ap distinct same;
      bits = subst (λ (xs : List ℕ). bits_assigned ps xs ≤ max_bits) (sym same) (omega arith);
    })

assigned-stays : (ps : List Pdo) (a b : Assignment) (subindex number : ℕ) → Assigned ps a subindex number b → IsAssignment ps a → IsAssignment ps b
assigned-stays ps a b subindex number (Counted z t e) h = counted-stays ps a b number t e h
assigned-stays ps a b subindex number (Slotted z o t e) h = slotted-stays ps a b (subindex - 1) number o t e h

downloaded-keeps : (d e : Dictionary) (index subindex number : ℕ) → Downloaded d index subindex number e → KeepsAssignments d e
downloaded-keeps d e index subindex number (Outputs i b q a) = record {
  kind = ap (λ (x : Dictionary). x.kind) q;
  identity = ap (λ (x : Dictionary). x.identity) q;
  outputs = λ h. subst (λ (x : Dictionary). IsAssignment d.kind.outputs x.outs) (sym q) (assigned-stays d.kind.outputs d.outs b subindex number a h);
  inputs = λ h. subst (λ (x : Dictionary). IsAssignment d.kind.inputs x.ins) (sym q) h;
}
downloaded-keeps d e index subindex number (Inputs o i b q a) = record {
  kind = ap (λ (x : Dictionary). x.kind) q;
  identity = ap (λ (x : Dictionary). x.identity) q;
  outputs = λ h. subst (λ (x : Dictionary). IsAssignment d.kind.outputs x.outs) (sym q) h;
  inputs = λ h. subst (λ (x : Dictionary). IsAssignment d.kind.inputs x.ins) (sym q) (assigned-stays d.kind.inputs d.ins b subindex number a h);
}

-- a dictionary with other parameters at most
beside-keeps : (d e : Dictionary) (values : List SdoValue) → e ≡ record d { values = values } → KeepsAssignments d e
beside-keeps d e values q = record {
  kind = ap (λ (x : Dictionary). x.kind) q;
  identity = ap (λ (x : Dictionary). x.identity) q;
  outputs = λ h. subst (λ (x : Dictionary). IsAssignment d.kind.outputs x.outs) (sym q) h;
  inputs = λ h. subst (λ (x : Dictionary). IsAssignment d.kind.inputs x.ins) (sym q) h;
}

effect-keeps : (in_preop : Bool) (d e : Dictionary) (index subindex : ℕ) (v : SdoValue) → Effect in_preop d index subindex v e → KeepsAssignments d e
effect-keeps in_preop d e index subindex v (Assigns p f b w) = downloaded-keeps d e index subindex v.number w
effect-keeps in_preop d e index subindex v (Puts w) = beside-keeps d e (set d.values w.place v) w.is

changed-keeps : (in_preop : Bool) (d e : Dictionary) → Changed in_preop d e → KeepsAssignments d e
changed-keeps in_preop d e (Same q) = beside-keeps d e d.values q
changed-keeps in_preop d e (Done index subindex v w) = effect-keeps in_preop d e index subindex v w

pub assignments_kept : AnswersKeepAssignments
assignments_kept in_preop d m counter = changed-keeps in_preop d _ (answered-changed in_preop d m counter)

-- outside PREOP parameters alone change
put-alone : (d e : Dictionary) (values : List SdoValue) → e ≡ record d { values = values } → e ≡ record d { values = e.values }
put-alone d e values q = q ∙ ap (λ (x : List SdoValue). record d { values = x }) (sym (ap (λ (x : Dictionary). x.values) q))

effect-alone : (d e : Dictionary) (index subindex : ℕ) (v : SdoValue) → Effect false d index subindex v e → e ≡ record d { values = e.values }
effect-alone d e index subindex v (Assigns p f b w) = absurd (cc)
effect-alone d e index subindex v (Puts w) = put-alone d e (set d.values w.place v) w.is

not-preop : (d e : Dictionary) → Changed false d e → e ≡ record d { values = e.values }
not-preop d e (Same q) = put-alone d e d.values q
not-preop d e (Done index subindex v w) = effect-alone d e index subindex v w

-- and a type without downloads has none
pub no-parameter : (kind : SlaveKind) (index subindex : ℕ) → kind.init ≡ [] → parameter_of kind index subindex ≡ None
no-parameter kind index subindex e = elim (cases_Bool (is_assignment index || is_some kind.face)) [
  | inl on ↦ if_true _ _ _ on
  | inr off ↦ if_false _ _ _ off ∙ ap (λ (qs : List Parameter). parameter_at qs index subindex) e
]

effect-none : (d e : Dictionary) (index subindex : ℕ) (v : SdoValue) → d.kind.init ≡ [] → Effect false d index subindex v e → e ≡ d
effect-none d e index subindex v i (Assigns p f b w) = absurd (cc)
effect-none d e index subindex v i (Puts w) = let z : None ≡ Some w.place = sym (no-parameter d.kind index subindex i) ∙ w.there in absurd (cc)

not-changed : (d e : Dictionary) → d.kind.init ≡ [] → Changed false d e → e ≡ d
not-changed d e i (Same q) = q
not-changed d e i (Done index subindex v w) = effect-none d e index subindex v i w

pub preop_alone : ChangesInPreopAlone
preop_alone = record {
  assignments = λ d m counter. not-preop d _ (answered-changed false d m counter);
  plain = λ d m counter i. not-changed d _ i (answered-changed false d m counter);
}
