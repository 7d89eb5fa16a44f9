use Rattle.std.proofs.Common.{◌∙◌, ◌<◌, ◌∷◌, ◌++◌, [], length, replicate, if◌then◌else◌, sym, arith}
use Rattle.ec_world.specs.declared.event.Event.TheVariants.{Pass, Return}
use Rattle.ec_world.specs.NewWorld.{servings}
use Rattle.ec_simulation.proofs.Making.{nonempty, stopped, then_on}
use Rattle.ec_simulation.proofs.rounds.go_round.Goals as goal

pub returns-then-not-is_done-clause-made : goal.returns-then-not-is_done-clause-made
returns-then-not-is_done-clause-made g c =
    stopped (replicate c.args.slaves (Pass c.args.slot)) _ c.args.world.now c.pass_slaves-passed.new.world c.pass_slaves-passed.result c.pass_slaves-passed.ensures.made
    (sym c.is_done.ensures ∙ c.if-not-is_done.true)

pub returns-then-not-is_done-2-clause-made : goal.returns-then-not-is_done-2-clause-made
returns-then-not-is_done-2-clause-made g c =
    let serves = if c.args.serving then servings 0 c.args.slaves else [] in
    then_on (replicate c.args.slaves (Pass c.args.slot)) (serves ++ (Return c.args.slot ∷ [])) c.args.world.now c.pass_slaves-passed.new.world c.serve_if-served.new.world
    c.pass_slaves-passed.result c.serve_if-served.result (nonempty serves (Return c.args.slot) []) c.pass_slaves-passed.ensures.made (sym c.is_done.ensures ∙ c.if-not-is_done.false)
    (stopped serves (Return c.args.slot ∷ []) c.pass_slaves-passed.new.world c.serve_if-served.new.world c.serve_if-served.result c.serve_if-served.ensures.made
    (sym c.is_done-2.ensures ∙ c.if-not-is_done-2.true))

pub returns-clause-made : goal.returns-clause-made
returns-clause-made g c =
    let serves = if c.args.serving then servings 0 c.args.slaves else [] in
    let one : 0 < length (Return c.args.slot ∷ []) = omega arith in
    then_on (replicate c.args.slaves (Pass c.args.slot)) (serves ++ (Return c.args.slot ∷ [])) c.args.world.now c.pass_slaves-passed.new.world c.make.new.world
    c.pass_slaves-passed.result c.make.result (nonempty serves (Return c.args.slot) []) c.pass_slaves-passed.ensures.made (sym c.is_done.ensures ∙ c.if-not-is_done.false)
    (then_on serves (Return c.args.slot ∷ []) c.pass_slaves-passed.new.world c.serve_if-served.new.world c.make.new.world c.serve_if-served.result c.make.result one
    c.serve_if-served.ensures.made (sym c.is_done-2.ensures ∙ c.if-not-is_done-2.false) c.make.ensures.made)
