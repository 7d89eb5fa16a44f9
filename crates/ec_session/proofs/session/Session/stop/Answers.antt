use Rattle.ec_session.proofs.Asked.{stop_cut, stop_on}
use Rattle.ec_session.proofs.session.Session.stop.Goals as goal

-- the cycle had a fault
pub returns-in_err-run_lossy_cycle-clause-stops : goal.returns-in_err-run_lossy_cycle-clause-stops
returns-in_err-run_lossy_cycle-clause-stops g c = λ free.
    stop_cut c.args.self.now c.clear_outputs.new.self c.run_lossy_cycle.new.self (g.W.Wire.state c.args.wire.now) (g.W.Wire.state c.run_lossy_cycle.new.wire) c.from_residual.result c.in_err-run_lossy_cycle.field-0.0
    c.from_residual.ensures.1 c.clear_outputs.ensures c.in_err-run_lossy_cycle.ensures.run free

-- or all slaves were asked
pub returns-clause-stops : goal.returns-clause-stops
returns-clause-stops g c = λ free.
    stop_on c.args.self.now c.clear_outputs.new.self c.run_lossy_cycle.new.self c.ask_init.new.self (g.W.Wire.state c.args.wire.now) (g.W.Wire.state c.run_lossy_cycle.new.wire) (g.W.Wire.state c.ask_init.new.wire) c.ask_init.result
    c.clear_outputs.ensures c.in_ok-run_lossy_cycle.ensures.run c.ask_init.ensures free
