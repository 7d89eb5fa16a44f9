use Rattle.std.proofs.Common.{◌∙◌, ap, sym, length, arith}
use Rattle.ec_device.specs.Types.{first_output_index, first_input_index}
use Rattle.ec_device.proofs.Limits.{few_bits}
use Rattle.ec_coe.specs.Objects.{Dictionary}
use Rattle.ec_coe.proofs.AssignmentWrites.{StandsThere, outs-own, ins-own, other-assigned, short-number}
use Rattle.ec_coe.proofs.dictionary.Dictionary.set_object.Goals as goal

pub write-requires-clause-small : goal.write-requires-clause-small
write-requires-clause-small c = few_bits first_output_index _ c.outputs-outputs.ensures.limits

pub write-requires-clause-there : goal.write-requires-clause-there
write-requires-clause-there c =
    let s : StandsThere c.args.self.now.outs c.args.subindex c.in_ok-old.old = outs-own c.args.self.now c.args.index c.args.subindex c.in_ok-old.old c.if-index-eq-OUTPUT_ASSIGNMENT.true (sym c.own_value.ensures ∙ c.in_ok-old.was) in
    let there = s.there in
    let same = ap (λ (d : Dictionary). length d.outs.slots) c.self.view_is in
    omega (arith, there, same)

pub write-requires-clause-word : goal.write-requires-clause-word
write-requires-clause-word c =
    let s : StandsThere c.args.self.now.outs c.args.subindex c.in_ok-old.old = outs-own c.args.self.now c.args.index c.args.subindex c.in_ok-old.old c.if-index-eq-OUTPUT_ASSIGNMENT.true (sym c.own_value.ensures ∙ c.in_ok-old.was) in
    short-number c.args.value.size c.args.value.number _ c.requires (sym c.number.ensures ∙ (c.if-not-is_as_long.false ∙ c.number-2.ensures)) s.short

pub write-requires-else-index-eq-OUTPUT_ASSIGNMENT-clause-small : goal.write-requires-else-index-eq-OUTPUT_ASSIGNMENT-clause-small
write-requires-else-index-eq-OUTPUT_ASSIGNMENT-clause-small c = few_bits first_input_index _ c.inputs-inputs.ensures.limits

pub write-requires-else-index-eq-OUTPUT_ASSIGNMENT-clause-there : goal.write-requires-else-index-eq-OUTPUT_ASSIGNMENT-clause-there
write-requires-else-index-eq-OUTPUT_ASSIGNMENT-clause-there c =
    let index = other-assigned c.args.index (sym c.is_assignment.ensures ∙ c.if-not-is_assignment.false) c.if-index-eq-OUTPUT_ASSIGNMENT.false in
    let s : StandsThere c.args.self.now.ins c.args.subindex c.in_ok-old.old = ins-own c.args.self.now c.args.index c.args.subindex c.in_ok-old.old index (sym c.own_value.ensures ∙ c.in_ok-old.was) in
    let there = s.there in
    let same = ap (λ (d : Dictionary). length d.ins.slots) c.self.view_is in
    omega (arith, there, same)

pub write-requires-else-index-eq-OUTPUT_ASSIGNMENT-clause-word : goal.write-requires-else-index-eq-OUTPUT_ASSIGNMENT-clause-word
write-requires-else-index-eq-OUTPUT_ASSIGNMENT-clause-word c =
    let index = other-assigned c.args.index (sym c.is_assignment.ensures ∙ c.if-not-is_assignment.false) c.if-index-eq-OUTPUT_ASSIGNMENT.false in
    let s : StandsThere c.args.self.now.ins c.args.subindex c.in_ok-old.old = ins-own c.args.self.now c.args.index c.args.subindex c.in_ok-old.old index (sym c.own_value.ensures ∙ c.in_ok-old.was) in
    short-number c.args.value.size c.args.value.number _ c.requires (sym c.number.ensures ∙ (c.if-not-is_as_long.false ∙ c.number-2.ensures)) s.short
