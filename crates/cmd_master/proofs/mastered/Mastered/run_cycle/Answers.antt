use Rattle.std.proofs.Common.{ap, subst}
use Rattle.ec_script.specs.declared.line.LineAction.TheVariants.{Cycle}
use Rattle.cmd_master.specs.Doing.{Does}
use Rattle.cmd_master.specs.State.{MasteredState}
use Rattle.cmd_master.proofs.Doing.{cycled, state_of}
use Rattle.cmd_master.proofs.mastered.Mastered.run_cycle.Goals as goal

pub returns : goal.returns
returns g c =
    let t : MasteredState = state_of c.run_lossy_cycle.new.self (g.W.Wire.state c.run_lossy_cycle.new.wire) c.self.inside.manner c.self.inside.states.items in
    subst (λ (m : MasteredState). Does Cycle m t c.output_of_run.result) c.self.view_is
    (cycled c.self.inside.session c.run_lossy_cycle.new.self (g.W.Wire.state c.self.inside.wire) (g.W.Wire.state c.run_lossy_cycle.new.wire) c.self.inside.manner c.self.inside.states.items c.run_lossy_cycle.result c.output_of_run.result c.output_of_run.ensures
    c.run_lossy_cycle.ensures.run c.run_lossy_cycle.ensures.refused c.run_lossy_cycle.ensures.refused_session (λ e refused. ap g.W.Wire.state (c.run_lossy_cycle.ensures.refused_wire e refused)) c.run_lossy_cycle.ensures.fault)
