use Rattle.std.proofs.Common.{◌∙◌, ◌<◌, ◌∷◌, [], length, false, sym, arith}
use Rattle.ec_world.specs.declared.event.Event.TheVariants.{Close}
use Rattle.ec_simulation.specs.Rounds.{rounds_found}
use Rattle.ec_simulation.proofs.Making.{goes_on, stopped, then_on}
use Rattle.ec_simulation.proofs.rounds.run_cycle.Goals as goal

pub returns-then-not-is_done-2-clause-made : goal.returns-then-not-is_done-2-clause-made
returns-then-not-is_done-2-clause-made g c =
    goes_on c.args.world.now c.make-begun.new.world c.go_rounds-back.new.world c.make-begun.result c.go_rounds-back.result c.make-begun.ensures.made
    (sym c.is_done.ensures ∙ c.if-not-is_done.false)
    (stopped (rounds_found false c.make-begun.new.world) (Close ∷ []) c.make-begun.new.world c.go_rounds-back.new.world c.go_rounds-back.result c.go_rounds-back.ensures.made
    (sym c.is_done-2.ensures ∙ c.if-not-is_done-2.true))

pub returns-clause-made : goal.returns-clause-made
returns-clause-made g c =
    let one : 0 < length (Close ∷ []) = omega arith in
    goes_on c.args.world.now c.make-begun.new.world c.make.new.world c.make-begun.result c.make.result c.make-begun.ensures.made (sym c.is_done.ensures ∙ c.if-not-is_done.false)
    (then_on (rounds_found false c.make-begun.new.world) (Close ∷ []) c.make-begun.new.world c.go_rounds-back.new.world c.make.new.world c.go_rounds-back.result c.make.result one
    c.go_rounds-back.ensures.made (sym c.is_done-2.ensures ∙ c.if-not-is_done-2.false) c.make.ensures.made)
