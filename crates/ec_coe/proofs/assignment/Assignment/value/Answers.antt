use Rattle.std.proofs.Common.{ℕ, ◌-◌, ◌≡◌, ◌∙◌, ap, sym, refl, List, Some, slice_get}
use Rattle.std.proofs.lemmas.Option.{slice_get_read}
use Rattle.ec_coe.specs.declared.value.SdoValue.{SdoValue}
use Rattle.ec_coe.specs.Objects.{Assignment, byte_value, word_value, assignment_values}
use Rattle.ec_coe.proofs.Finding.{value-behind}
use Rattle.ec_coe.proofs.assignment.Assignment.value.Goals as goal

pub returns : goal.returns
returns c =
    let h = c.in_ok-slot.ensures.lookup in
    let found : slice_get c.deref.result.now (c.args.subindex - 1) ≡ Some c.in_ok-slot.slot.now = slice_get_read _ _ _ _ refl h.3.0 h.1 in
    ap (λ (v : SdoValue). Some v) c.word.ensures
    ∙ (value-behind word_value (byte_value c.self.inside.count) c.self.inside.slots.items c.args.subindex c.in_ok-slot.slot.now c.if-subindex-eq0.false
    (sym (ap (λ (xs : List ℕ). slice_get xs (c.args.subindex - 1)) c.deref.ensures.value) ∙ found)
    ∙ ap (λ (a : Assignment). slice_get (assignment_values a) c.args.subindex) c.self.view_is)
