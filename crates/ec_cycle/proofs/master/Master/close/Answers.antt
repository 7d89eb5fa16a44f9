use Rattle.std.proofs.Common.{ℕ, ◌^◌, ◌<◌, ◌≤◌, ◌≡◌, ◌∙◌, List, None, Option, ap, arith, get_or, length, subst, sym}
use Rattle.std.specs.Vec.{with_items}
use Rattle.std.proofs.lemmas.List.{with_items_is}
use Rattle.ec_bits.specs.Bits.{bytes_of_bits}
use Rattle.ec_link.specs.Plan.{PlanState, part_at}
use Rattle.ec_link.specs.Usable.{IsUsable}
use Rattle.ec_start.specs.HeldPlans.{plan_in}
use Rattle.ec_cycle.specs.Closing.{ReturnedPart, inputs_closed}
use Rattle.ec_cycle.specs.Master.{MasterState, IsClosed}
use Rattle.ec_cycle.specs.MasterFields.{IsMaster}
use Rattle.ec_cycle.proofs.States.{closed_master, closed_state, number_open, report_is, state_of}
use Rattle.ec_cycle.proofs.master.Master.close.Goals as goal

pub returns-clause-closed : goal.returns-clause-closed
returns-clause-closed c =
    let p = c.plan-plan.result.now in
    let i = c.self.inside in
    let fs = i.frames.items in
    let ks = i.kept.items in
    let n = number_open i.number c.is_none.result c.is_none.ensures c.if-is_none.false in
    let inputs : c.take_inputs.new.inputs ≡ inputs_closed p ks i.inputs.items = c.take_inputs.ensures ∙ (ap (λ (z : List (Option ReturnedPart)). inputs_closed p z c.deref_mut.result.now) c.deref-4.ensures.value ∙ ap (inputs_closed p ks) c.deref_mut.ensures.value) in
    let said = report_is p ks c.deref.result.now c.deref-3.result.now c.deref-2.result.now c.missing_of-missing.result c.judged-taken.result c.units.result.now c.new-report.result c.units.ensures c.deref.ensures.value c.deref-3.ensures.value c.deref-2.ensures.value c.missing_of-missing.ensures.value c.new-report.ensures.small c.judged-taken.ensures.judged c.new-report.ensures.report in
    let la = i.inputs.ok.0 in
    let lb = c.take_inputs.auto.inputs in
    let lc = ap length c.deref_mut.ensures.value in
    let after = (with_items i.inputs c.take_inputs.new.inputs).items in
    let e : after ≡ c.take_inputs.new.inputs = with_items_is i.inputs c.take_inputs.new.inputs (omega (arith, la, lb, lc)) in
    subst (λ (m : MasterState). IsClosed m (state_of (plan_in i.held) i.is_ready i.next i.outputs.items after fs ks None) c.new-report.result) c.self.view_is
    (subst (λ (q : PlanState). IsClosed (state_of q i.is_ready i.next i.outputs.items i.inputs.items fs ks i.number) (state_of q i.is_ready i.next i.outputs.items after fs ks None) c.new-report.result) c.plan-plan.ensures
    (closed_state p i.is_ready i.next i.outputs.items i.inputs.items after fs ks i.number n.0 c.new-report.result n.1 (e ∙ inputs) said))

pub take_inputs-requires-clause-usable : goal.take_inputs-requires-clause-usable
take_inputs-requires-clause-usable c = subst IsUsable (sym c.plan-plan.ensures) c.self.invariant.usable

pub take_inputs-requires-clause-kept : goal.take_inputs-requires-clause-kept
take_inputs-requires-clause-kept c = ap length c.deref-4.ensures.value ∙ (c.self.invariant.kept_count ∙ ap (λ (q : PlanState). length q.parts) (sym c.plan-plan.ensures))

pub take_inputs-requires-clause-sizes : goal.take_inputs-requires-clause-sizes
take_inputs-requires-clause-sizes c = λ k q e.
    let n = number_open c.self.inside.number c.is_none.result c.is_none.ensures c.if-is_none.false in
    (c.self.invariant.under_way n.0 n.1).sizes k q (ap (λ (z : List (Option ReturnedPart)). get_or z k None) (sym c.deref-4.ensures.value) ∙ e) ∙ ap (λ (r : PlanState). (part_at r.parts k).bytes) (sym c.plan-plan.ensures)

pub take_inputs-requires-clause-room : goal.take_inputs-requires-clause-room
take_inputs-requires-clause-room c = ap length c.deref_mut.ensures.value ∙ (c.self.invariant.images.inputs_size ∙ ap (λ (q : PlanState). bytes_of_bits q.in_bits) (sym c.plan-plan.ensures))

pub take_inputs-requires-clause-few : goal.take_inputs-requires-clause-few
take_inputs-requires-clause-few c = subst (λ (q : PlanState). q.in_bits < 2 ^ 64) (sym c.plan-plan.ensures) c.self.invariant.images.few_inputs

pub take_inputs-requires-clause-size : goal.take_inputs-requires-clause-size
take_inputs-requires-clause-size c = c.judged-taken.ensures.size

pub judged-taken-requires-clause-kept : goal.judged-taken-requires-clause-kept
judged-taken-requires-clause-kept c = ap length c.deref.ensures.value ∙ (c.self.invariant.kept_count ∙ ap (λ (q : PlanState). length q.parts) (sym c.plan-plan.ensures))

pub judged-taken-requires-clause-count : goal.judged-taken-requires-clause-count
judged-taken-requires-clause-count c = ap length c.as_slice.ensures ∙ (c.self.invariant.linked.expected_count ∙ ap (λ (q : PlanState). length q.parts) (sym c.plan-plan.ensures))

pub new-report-requires-clause-few_units : goal.new-report-requires-clause-few_units
new-report-requires-clause-few_units c = subst (λ (us : List ℕ). length us ≤ 64) (sym (c.units.ensures ∙ ap (λ (q : PlanState). q.units) c.plan-plan.ensures)) c.self.invariant.usable.few_units

pub invariant_of-self : goal.invariant_of-self
invariant_of-self c =
    let i = c.self.inside in
    let la = i.inputs.ok.0 in
    let lb = c.take_inputs.auto.inputs in
    let lc = ap length c.deref_mut.ensures.value in
    let after = (with_items i.inputs c.take_inputs.new.inputs).items in
    let e : after ≡ c.take_inputs.new.inputs = with_items_is i.inputs c.take_inputs.new.inputs (omega (arith, la, lb, lc)) in
    let size : length after ≡ length i.inputs.items = ap length e ∙ (lb ∙ lc) in
    closed_master (plan_in i.held) i.runs i.input_runs i.expected i.outputs.items i.inputs.items after i.frames.items i.kept.items i.number c.self.invariant size
