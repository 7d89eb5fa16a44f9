use Rattle.std.proofs.Common.{ℕ, ◌<◌, ◌≤◌, ◌≡◌, ◌∙◌, List, [], None, Some, Option, true, false, ap, arith, get_or, length, set, subst, sym}
use Rattle.std.proofs.Math.ListN.{length-set}
use Rattle.ec_frame.specs.Building.{bare_payload}
use Rattle.ec_frame.specs.Frame.{IsFrame}
use Rattle.ec_link.specs.declared.plan.PartPlan.{PartPlan}
use Rattle.ec_link.specs.Plan.{PlanState, part_at, no_part}
use Rattle.ec_start.specs.HeldPlans.{plan_in}
use Rattle.ec_cycle.specs.Frames.{sent_datagrams}
use Rattle.ec_cycle.specs.Closing.{ReturnedPart, bytes_at, input_index, returned_part_by, returned_part_of}
use Rattle.ec_cycle.specs.Master.{MasterState, IsTaken}
use Rattle.ec_cycle.specs.Matching.{AnswersPart, Answered}
use Rattle.ec_cycle.specs.MasterFields.{IsUnderWay}
use Rattle.ec_cycle.proofs.Matches.{answer_size, kept_on, part_answers}
use Rattle.ec_cycle.proofs.Runs.{few_of}
use Rattle.ec_cycle.proofs.States.{foreign_state, number_open, shut_state, state_of, strange_state, taken_state}
use Rattle.ec_cycle.proofs.master.Master.take.Goals as goal

pub answered-requires-clause-sent : goal.answered-requires-clause-sent
answered-requires-clause-sent c = λ k l.
    let n = number_open c.self.inside.number c.is_none.result c.is_none.ensures c.if-is_none.false in
    let way = c.self.invariant.under_way n.0 n.1 in
    let there : k < length (plan_in c.self.inside.held).parts = omega (arith, l, ap length c.as_slice-frames.ensures.value, c.self.invariant.frame_count) in
    let s = way.sent k there in (
      bare_payload (sent_datagrams (plan_in c.self.inside.held) n.0 k s.0),
      subst (λ (fs : List (List ℕ)). IsFrame (get_or fs k []) (bare_payload (sent_datagrams (plan_in c.self.inside.held) n.0 k s.0))) (sym c.as_slice-frames.ensures.value) s.1,
    )

pub returns-in_default-answered : goal.returns-in_default-answered
returns-in_default-answered c =
    let n = number_open c.self.inside.number c.is_none.result c.is_none.ensures c.if-is_none.false in
    let p = c.in-Ok.ensures.accepted.0 in
    let h = c.in-Ok.ensures.accepted.1 in
    let none = subst (λ (fs : List (List ℕ)). Answered p.datagrams fs c.self.inside.kept.items None) c.as_slice-frames.ensures.value
    (subst (λ (ks : List (Option ReturnedPart)). Answered p.datagrams c.as_slice-frames.result.now ks None) c.as_slice.ensures.value (c.in_default-answered.ensures p h (c.first_spans-spans.ensures p h))) in
    subst (λ (m : MasterState). IsTaken m c.args.payload.now false m) c.self.view_is
    (foreign_state (plan_in c.self.inside.held) c.self.inside.is_ready c.self.inside.next c.self.inside.outputs.items c.self.inside.inputs.items c.self.inside.frames.items c.self.inside.kept.items c.self.inside.number n.0 c.args.payload.now p n.1 h
    (c.self.invariant.under_way n.0 n.1) c.self.invariant.frame_count c.self.invariant.usable.few_parts none)

pub keep-requires : goal.keep-requires
keep-requires c =
    let n = number_open c.self.inside.number c.is_none.result c.is_none.ensures c.if-is_none.false in
    let p = c.in-Ok.ensures.accepted.0 in
    let h = c.in-Ok.ensures.accepted.1 in
    let stand = c.first_spans-spans.ensures p h in
    let a = subst (λ (fs : List (List ℕ)). AnswersPart p.datagrams fs c.self.inside.kept.items c.in-Some.part) c.as_slice-frames.ensures.value
    (subst (λ (ks : List (Option ReturnedPart)). AnswersPart p.datagrams c.as_slice-frames.result.now ks c.in-Some.part) c.as_slice.ensures.value (c.in-Some.ensures p h stand)) in
    let way = c.self.invariant.under_way n.0 n.1 in
    let size = answer_size (plan_in c.self.inside.held) n.0 c.in-Some.part p.datagrams (part_answers (plan_in c.self.inside.held) n.0 c.self.inside.frames.items c.self.inside.kept.items c.in-Some.part p.datagrams way c.self.invariant.frame_count a) in
    let few = few_of (plan_in c.self.inside.held) c.in-Some.part c.self.invariant.usable in
    let small : length (bytes_at p.datagrams (input_index (part_at (plan_in c.self.inside.held).parts c.in-Some.part).split)) ≤ 1422 = omega (arith, size, few) in
    let parts : c.parts.result.now ≡ (plan_in c.self.inside.held).parts = c.parts.ensures.value ∙ ap (λ (q : PlanState). q.parts) c.plan.ensures in
    (p.datagrams, stand, subst (λ (ps : List PartPlan). length (bytes_at p.datagrams (input_index (get_or ps c.in-Some.part no_part).split)) ≤ 1422) (sym parts) small)

pub invariant_of-self : goal.invariant_of-self
invariant_of-self c =
    let p = c.in-Ok.ensures.accepted.0 in
    let h = c.in-Ok.ensures.accepted.1 in
    let stand = c.first_spans-spans.ensures p h in
    let a = subst (λ (fs : List (List ℕ)). AnswersPart p.datagrams fs c.self.inside.kept.items c.in-Some.part) c.as_slice-frames.ensures.value
    (subst (λ (ks : List (Option ReturnedPart)). AnswersPart p.datagrams c.as_slice-frames.result.now ks c.in-Some.part) c.as_slice.ensures.value (c.in-Some.ensures p h stand)) in
    let parts : c.parts.result.now ≡ (plan_in c.self.inside.held).parts = c.parts.ensures.value ∙ ap (λ (q : PlanState). q.parts) c.plan.ensures in
    let new : c.keep.new.self ≡ Some (returned_part_of (part_at (plan_in c.self.inside.held).parts c.in-Some.part) p.datagrams) = c.keep.ensures p.datagrams stand ∙ ap (λ (ps : List PartPlan). Some (returned_part_by (get_or ps c.in-Some.part no_part).split p.datagrams)) parts in
    record {
      usable = c.self.invariant.usable;
      linked = c.self.invariant.linked;
      images = c.self.invariant.images;
      frame_count = c.self.invariant.frame_count;
      made = c.self.invariant.made;
      kept_count = length-set c.self.inside.kept.items c.in-Some.part c.keep.new.self ∙ c.self.invariant.kept_count;
      under_way = λ n e. subst (λ (q : Option ReturnedPart). IsUnderWay (plan_in c.self.inside.held) n c.self.inside.frames.items (set c.self.inside.kept.items c.in-Some.part q)) (sym new)
          (kept_on (plan_in c.self.inside.held) n c.self.inside.frames.items c.self.inside.kept.items c.in-Some.part p.datagrams (c.self.invariant.under_way n e) c.self.invariant.frame_count c.self.invariant.kept_count a);
    }

pub returns : goal.returns
returns c =
    let n = number_open c.self.inside.number c.is_none.result c.is_none.ensures c.if-is_none.false in
    let p = c.in-Ok.ensures.accepted.0 in
    let h = c.in-Ok.ensures.accepted.1 in
    let stand = c.first_spans-spans.ensures p h in
    let a = subst (λ (fs : List (List ℕ)). AnswersPart p.datagrams fs c.self.inside.kept.items c.in-Some.part) c.as_slice-frames.ensures.value
    (subst (λ (ks : List (Option ReturnedPart)). AnswersPart p.datagrams c.as_slice-frames.result.now ks c.in-Some.part) c.as_slice.ensures.value (c.in-Some.ensures p h stand)) in
    let parts : c.parts.result.now ≡ (plan_in c.self.inside.held).parts = c.parts.ensures.value ∙ ap (λ (q : PlanState). q.parts) c.plan.ensures in
    let new : c.keep.new.self ≡ Some (returned_part_of (part_at (plan_in c.self.inside.held).parts c.in-Some.part) p.datagrams) = c.keep.ensures p.datagrams stand ∙ ap (λ (ps : List PartPlan). Some (returned_part_by (get_or ps c.in-Some.part no_part).split p.datagrams)) parts in
    subst (λ (m : MasterState). IsTaken m c.args.payload.now true (state_of (plan_in c.self.inside.held) c.self.inside.is_ready c.self.inside.next c.self.inside.outputs.items c.self.inside.inputs.items c.self.inside.frames.items (set c.self.inside.kept.items c.in-Some.part c.keep.new.self) c.self.inside.number)) c.self.view_is
    (taken_state (plan_in c.self.inside.held) c.self.inside.is_ready c.self.inside.next c.self.inside.outputs.items c.self.inside.inputs.items c.self.inside.frames.items c.self.inside.kept.items c.self.inside.number n.0 c.args.payload.now p c.in-Some.part c.keep.new.self n.1 h
    (c.self.invariant.under_way n.0 n.1) c.self.invariant.frame_count c.self.invariant.usable.few_parts a new)

pub returns-then-is_none : goal.returns-then-is_none
returns-then-is_none c =
    let i = c.self.inside in
    subst (λ (m : MasterState). IsTaken m c.args.payload.now false m) c.self.view_is
    (shut_state (plan_in i.held) i.is_ready i.next i.outputs.items i.inputs.items i.frames.items i.kept.items i.number c.is_none.result c.args.payload.now c.is_none.ensures c.if-is_none.true)

pub returns-in_default : goal.returns-in_default
returns-in_default c =
    let i = c.self.inside in
    subst (λ (m : MasterState). IsTaken m c.args.payload.now false m) c.self.view_is
    (strange_state (plan_in i.held) i.is_ready i.next i.outputs.items i.inputs.items i.frames.items i.kept.items i.number c.args.payload.now (λ q h. c.in_default.not-Ok (length q.datagrams) (c.check.ensures.accepts q h)))
