use Rattle.std.proofs.Common.{◌==◌, ℕ, subst, sym}
use Rattle.ec_frame.specs.Commands.{number_of}
use Rattle.ec_live.specs.Stages.{HasOver}
use Rattle.ec_live.proofs.Commands.{over_none, over_some}
use Rattle.ec_live.proofs.cyclic.is_next.Goals as goal

pub returns-in-Some : goal.returns-in-Some
returns-in-Some c = λ ds h.
    let payload = c.args.payload.now in
    let over = over_some payload c.args.places.now c.next_place.new.self c.in-Some.span c.args.command c.read-header.result ds h (c.in-Some.ensures.steps ds h) c.in-Some.ensures.first c.in-Some.ensures.others c.read-header.ensures in
    subst (λ (n : ℕ). HasOver payload c.next_place.new.self c.args.command ds (n == c.number-in-Some.result)) (sym c.number.ensures)
    (subst (λ (n : ℕ). HasOver payload c.next_place.new.self c.args.command ds (number_of c.read-header.result.command == n)) (sym c.number-in-Some.ensures) over)

pub returns-in-None : goal.returns-in-None
returns-in-None c = λ ds h. over_none c.args.payload.now c.args.places.now c.next_place.new.self c.args.command ds (c.in-None.ensures.steps ds h)
