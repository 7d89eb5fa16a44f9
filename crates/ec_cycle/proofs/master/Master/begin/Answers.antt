use Rattle.std.proofs.Common.{ℕ, ◌+◌, ◌^◌, ◌<◌, ◌≡◌, ◌∙◌, List, [], Some, Option, ap, arith, get_or, length, subst, sym, rules}
use Rattle.std.specs.Vec.{with_items}
use Rattle.std.proofs.lemmas.List.{with_items_is}
use Rattle.ec_cycle.specs.Closing.{ReturnedPart}
use Rattle.ec_frame.specs.Building.{bare_payload}
use Rattle.ec_frame.specs.Frame.{IsFrame}
use Rattle.ec_link.specs.Plan.{PlanState}
use Rattle.ec_link.specs.Usable.{IsUsable}
use Rattle.ec_bits.specs.Bits.{bytes_of_bits}
use Rattle.ec_start.specs.HeldPlans.{plan_in}
use Rattle.ec_cycle.specs.Frames.{sent_datagrams}
use Rattle.ec_cycle.specs.Master.{MasterState, Begun}
use Rattle.ec_cycle.specs.MasterFields.{IsMade, IsMaster}
use Rattle.ec_cycle.proofs.States.{begun_master, begun_state, cycle_of, state_of}
use Rattle.ec_cycle.proofs.master.Master.begin.Goals as goal

pub returns-clause-begun : goal.returns-clause-begun
returns-clause-begun c =
    let i = c.self.inside in
    let p = plan_in i.held in
    let fs = c.make_frames.new.frames in
    let ks = c.forget.new.kept in
    let a = ap length c.deref_mut-2.ensures.value in
    let b = ap length c.deref_mut.ensures.value in
    let x = c.make_frames.auto.frames in
    let y = c.forget.auto.kept in
    let count : length fs ≡ length p.parts = omega (arith, a, x, c.self.invariant.frame_count) in
    let kept_count : length ks ≡ length p.parts = omega (arith, b, y, c.self.invariant.kept_count) in
    let la = i.frames.ok.0 in
    let lb = i.kept.ok.0 in
    let frames = (with_items i.frames fs).items in
    let kept = (with_items i.kept ks).items in
    let e1 : frames ≡ fs = with_items_is i.frames fs (omega (arith, count, c.self.invariant.frame_count, la)) in
    let e2 : kept ≡ ks = with_items_is i.kept ks (omega (arith, kept_count, c.self.invariant.kept_count, lb)) in
    let spelled : (k : ℕ) → k < length p.parts → IsFrame (get_or fs k []) (bare_payload (sent_datagrams p i.next k c.deref.result.now)) =
    subst (λ (q : PlanState). (k : ℕ) → k < length q.parts → IsFrame (get_or fs k []) (bare_payload (sent_datagrams q i.next k c.deref.result.now))) c.plan.ensures c.make_frames.ensures.spelled in (
      cycle_of fs ks i.next,
      subst (λ (m : MasterState). Begun m (state_of p i.is_ready (i.next + 1) i.outputs.items i.inputs.items frames kept (Some i.next)) (cycle_of fs ks i.next)) c.self.view_is
          (subst (λ (z : List (List ℕ)). Begun (state_of p i.is_ready i.next i.outputs.items i.inputs.items i.frames.items i.kept.items i.number) (state_of p i.is_ready (i.next + 1) i.outputs.items i.inputs.items z kept (Some i.next)) (cycle_of fs ks i.next)) (sym e1)
          (subst (λ (z : List (Option ReturnedPart)). Begun (state_of p i.is_ready i.next i.outputs.items i.inputs.items i.frames.items i.kept.items i.number) (state_of p i.is_ready (i.next + 1) i.outputs.items i.inputs.items fs z (Some i.next)) (cycle_of fs ks i.next)) (sym e2)
          (begun_state p i.is_ready i.next i.outputs.items i.inputs.items i.frames.items fs i.kept.items ks i.number count kept_count c.forget.ensures
          (λ k l. subst (λ (o : List ℕ). IsFrame (get_or fs k []) (bare_payload (sent_datagrams p i.next k o))) c.deref.ensures.value (spelled k l))))),
    )

pub returns-clause-answer : goal.returns-clause-answer
returns-clause-answer c = search rules

pub make_frames-requires-clause-usable : goal.make_frames-requires-clause-usable
make_frames-requires-clause-usable c = subst IsUsable (sym c.plan.ensures) c.self.invariant.usable

pub make_frames-requires-clause-count : goal.make_frames-requires-clause-count
make_frames-requires-clause-count c = ap length c.as_slice.ensures ∙ (c.self.invariant.linked.outputs_count ∙ ap (λ (q : PlanState). length q.parts) (sym c.plan.ensures))

pub make_frames-requires-clause-image : goal.make_frames-requires-clause-image
make_frames-requires-clause-image c = ap length c.deref.ensures.value ∙ (c.self.invariant.images.outputs_size ∙ ap (λ (q : PlanState). bytes_of_bits q.out_bits) (sym c.plan.ensures))

pub make_frames-requires-clause-few : goal.make_frames-requires-clause-few
make_frames-requires-clause-few c = subst (λ (q : PlanState). q.out_bits < 2 ^ 64) (sym c.plan.ensures) c.self.invariant.images.few_outputs

pub make_frames-requires-clause-frames : goal.make_frames-requires-clause-frames
make_frames-requires-clause-frames c = ap length c.deref_mut-2.ensures.value ∙ (c.self.invariant.frame_count ∙ ap (λ (q : PlanState). length q.parts) (sym c.plan.ensures))

pub make_frames-requires-clause-made : goal.make_frames-requires-clause-made
make_frames-requires-clause-made c =
    subst (λ (q : PlanState). (k : ℕ) → k < length q.parts → IsMade q k (get_or c.deref_mut-2.result.now k [])) (sym c.plan.ensures)
    (subst (λ (fs : List (List ℕ)). (k : ℕ) → k < length (plan_in c.self.inside.held).parts → IsMade (plan_in c.self.inside.held) k (get_or fs k [])) (sym c.deref_mut-2.ensures.value) c.self.invariant.made)

pub invariant_of-self : goal.invariant_of-self
invariant_of-self c =
    let i = c.self.inside in
    let p = plan_in i.held in
    let fs = c.make_frames.new.frames in
    let ks = c.forget.new.kept in
    let a = ap length c.deref_mut-2.ensures.value in
    let b = ap length c.deref_mut.ensures.value in
    let x = c.make_frames.auto.frames in
    let y = c.forget.auto.kept in
    let count : length fs ≡ length p.parts = omega (arith, a, x, c.self.invariant.frame_count) in
    let kept_count : length ks ≡ length p.parts = omega (arith, b, y, c.self.invariant.kept_count) in
    let la = i.frames.ok.0 in
    let lb = i.kept.ok.0 in
    let kept = (with_items i.kept ks).items in
    let e1 : (with_items i.frames fs).items ≡ fs = with_items_is i.frames fs (omega (arith, count, c.self.invariant.frame_count, la)) in
    let e2 : kept ≡ ks = with_items_is i.kept ks (omega (arith, kept_count, c.self.invariant.kept_count, lb)) in
    let small : i.next < 2 ^ 64 = search rules in
    let spelled : (k : ℕ) → k < length p.parts → IsFrame (get_or fs k []) (bare_payload (sent_datagrams p i.next k i.outputs.items)) =
    subst (λ (o : List ℕ). (k : ℕ) → k < length p.parts → IsFrame (get_or fs k []) (bare_payload (sent_datagrams p i.next k o))) c.deref.ensures.value
    (subst (λ (q : PlanState). (k : ℕ) → k < length q.parts → IsFrame (get_or fs k []) (bare_payload (sent_datagrams q i.next k c.deref.result.now))) c.plan.ensures c.make_frames.ensures.spelled) in
    let made : (k : ℕ) → k < length p.parts → IsMade p k (get_or fs k []) =
    subst (λ (q : PlanState). (k : ℕ) → k < length q.parts → IsMade q k (get_or fs k [])) c.plan.ensures c.make_frames.ensures.made in
    subst (λ (z : List (List ℕ)). IsMaster p i.runs i.input_runs i.expected i.outputs.items i.inputs.items z kept (Some i.next)) (sym e1)
    (subst (λ (z : List (Option ReturnedPart)). IsMaster p i.runs i.input_runs i.expected i.outputs.items i.inputs.items fs z (Some i.next)) (sym e2)
    (begun_master p i.runs i.input_runs i.expected i.outputs.items i.inputs.items i.frames.items fs i.kept.items ks i.number i.next c.self.invariant small count kept_count c.forget.ensures spelled made))
