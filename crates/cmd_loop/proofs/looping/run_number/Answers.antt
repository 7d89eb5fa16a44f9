use Rattle.std.proofs.Common.{IfErr, ap, subst}
use Rattle.ec_cycle.specs.Master.{MasterState}
use Rattle.cmd_loop.specs.Looping.{IsRunEnd}
use Rattle.cmd_loop.proofs.LoopLemmas.{ran, run_end, with-can}
use Rattle.cmd_loop.proofs.looping.run_number.Goals as goal

pub returns-clause-ready : goal.returns-clause-ready
returns-clause-ready g c = ran c.args.plan.now c.set_outputs.new.master (g.W.Wire.state c.args.wire.now) (g.W.Wire.state c.run_cycle.new.wire) c.run_cycle.result c.run_cycle.new.master
    (with-can c.args.plan.now c.args.master.now c.set_outputs.new.master c.args.number c.requires.ready c.set_outputs.ensures) c.run_cycle.ensures.run c.run_cycle.ensures.refused

pub returns-clause-ended : goal.returns-clause-ended
returns-clause-ended g c = subst (λ (m : MasterState). IfErr c.run_cycle.result (IsRunEnd m (g.W.Wire.state c.args.wire.now) (g.W.Wire.state c.run_cycle.new.wire))) c.set_outputs.ensures
    (run_end c.args.plan.now c.set_outputs.new.master (g.W.Wire.state c.args.wire.now) (g.W.Wire.state c.run_cycle.new.wire) c.run_cycle.result c.run_cycle.new.master
    (with-can c.args.plan.now c.args.master.now c.set_outputs.new.master c.args.number c.requires.ready c.set_outputs.ensures) c.run_cycle.ensures.run c.run_cycle.ensures.refused
    (λ e is. ap g.W.Wire.state (c.run_cycle.ensures.refused_wire e is)))
