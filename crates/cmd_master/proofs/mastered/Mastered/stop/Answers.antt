use Rattle.std.proofs.Common.{ap, subst}
use Rattle.ec_script.specs.declared.line.LineAction.TheVariants.{Stop}
use Rattle.cmd_master.specs.Doing.{Does}
use Rattle.cmd_master.specs.State.{MasteredState}
use Rattle.cmd_master.proofs.Doing.{state_of, stopped}
use Rattle.cmd_master.proofs.mastered.Mastered.stop.Goals as goal

pub returns : goal.returns
returns g c =
    let i = c.self.inside in
    let t : MasteredState = state_of c.stop.new.self (g.W.Wire.state c.stop.new.wire) i.manner i.states.items in
    subst (λ (m : MasteredState). Does Stop m t c.output_of_stop.result) c.self.view_is
    (stopped i.session c.stop.new.self (g.W.Wire.state i.wire) (g.W.Wire.state c.stop.new.wire) i.manner i.states.items c.stop.result c.output_of_stop.result c.output_of_stop.ensures
    c.stop.ensures.stops c.stop.ensures.refused c.stop.ensures.refused_session (λ e refused. ap g.W.Wire.state (c.stop.ensures.refused_wire e refused)))
