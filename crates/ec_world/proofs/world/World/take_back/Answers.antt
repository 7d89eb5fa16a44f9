use Rattle.ec_world.proofs.Words.{Bool, ℕ, ◌∙◌, ap, get_or, None, option_map, sym, PlanState, may_return, flight_progress}
use Rattle.ec_world.proofs.Refinement.StepsRefine.{handed_plans}
use Rattle.ec_world.proofs.Refinement.IsStep.{world_of, return-step}
use Rattle.ec_world.proofs.world.World.take_back.Goals as goal

pub hand_in-requires : goal.hand_in-requires
hand_in-requires c = record { same = c.self.invariant.start ∙ ap (λ (p : PlanState). p.slaves) (sym c.self.invariant.master) }

pub invariant_of-self : goal.invariant_of-self
invariant_of-self c = handed_plans c.self.inside.plan.now c.self.inside.start c.hand_in.new.start c.self.inside.master c.hand_in.new.master c.bytes-payload.result.now c.self.invariant c.hand_in.ensures

pub returns : goal.returns
returns c =
    let v = c.self.inside in
    let w = world_of v.plan.now v.start v.master v.ring v.slots v.got v.report in
    let may : ℕ → Bool = λ n. may_return n (option_map flight_progress (get_or v.slots c.args.slot None)) in
    rw (← c.self.view_is) (return-step w c.args.slot c.bytes-payload.result.now c.hand_in.new.start c.hand_in.new.master c.clear.new.self
    (ap may (sym c.len.ensures) ∙ (sym c.may_return.ensures ∙ c.if-not-may_return.false)) c.bytes-payload.ensures c.hand_in.ensures c.clear.ensures)
