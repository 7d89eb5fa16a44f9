use Rattle.std.proofs.Common.{subst}
use Rattle.ec_script.specs.declared.line.LineAction.TheVariants.{Ready}
use Rattle.ec_script.specs.declared.output.LineOutput.TheVariants.{Ended}
use Rattle.cmd_master.specs.Doing.{Does}
use Rattle.cmd_master.specs.State.{MasteredState}
use Rattle.cmd_master.proofs.Doing.{started, state_of}
use Rattle.cmd_master.proofs.mastered.Mastered.bring_up.Goals as goal

pub returns : goal.returns
returns g c =
    let i = c.self.inside in
    let t : MasteredState = state_of c.bring_up_resting.new.self (g.W.Wire.state c.bring_up_resting.new.wire) i.manner i.states.items in
    subst (λ (m : MasteredState). Does Ready m t Ended) c.self.view_is
    (started i.session c.clear_outputs.new.self c.bring_up_resting.new.self (g.W.Wire.state i.wire) (g.W.Wire.state c.bring_up_resting.new.wire) i.manner i.states.items c.clear_outputs.ensures c.bring_up_resting.ensures)
