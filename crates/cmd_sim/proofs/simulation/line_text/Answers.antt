use Rattle.std.proofs.Common.{◌∙◌, sym}
use Rattle.cmd_sim.proofs.SimLemmas.{line_alone}
use Rattle.cmd_sim.proofs.simulation.line_text.Goals as goal

pub returns-then-not-is_reasoned : goal.returns-then-not-is_reasoned
returns-then-not-is_reasoned c =
    line_alone c.args.manner c.args.scene.table.now c.args.step.now.number c.args.scene.world.now c.args.answer _ (sym c.is_reasoned.ensures ∙ c.if-not-is_reasoned.true) c.in_ok-text.ensures
