use Rattle.ec_world.proofs.Words.{Bool, ℕ, ◌≡◌, ◌∙◌, List, Option, Some, None, ap, get_or, option_map, subst, sym, may_pass, Flight, flight_progress, flights_progress, HavePassed}
use Rattle.ec_world.proofs.Refinement.IsStep.{world_of, pass-step}
use Rattle.ec_world.proofs.world.World.pass.Goals as goal

abbrev Slots : Type 0
Slots = List (Option Flight)

pub returns : goal.returns
returns c =
    let v = c.self.inside in
    let w = world_of v.plan.now v.start v.master v.ring v.slots v.got v.report in
    let may : (n : ℕ) → Bool = λ n. may_pass n (flights_progress v.slots) (option_map flight_progress (get_or v.slots c.args.slot None)) in
    let passed : (f : Flight) → get_or v.slots c.args.slot None ≡ Some f → HavePassed v.ring v.slots c.args.slot f c.pass.new.ring c.pass.new.self =
    subst (λ (xs : Slots). (f : Flight) → get_or xs c.args.slot None ≡ Some f → HavePassed v.ring xs c.args.slot f c.pass.new.ring c.pass.new.self) c.may_pass.ensures.unchanged c.pass.ensures in
    rw (← c.self.view_is) (pass-step w c.args.slot c.pass.new.ring c.pass.new.self (ap may (sym c.len.ensures) ∙ (sym c.may_pass.ensures.may ∙ c.if-not-may_pass.false)) passed)
