use Rattle.cmd_loop.proofs.LoopLemmas.{looped_between, no_wire}
use Rattle.cmd_loop.proofs.looping.run_loopback.Goals as goal

pub returns-in_err-wire-clause-loops : goal.returns-in_err-wire-clause-loops
returns-in_err-wire-clause-loops g c = no_wire _ _ _ _ _ _ _ c.from_residual.ensures.1 c.in_err-wire.ensures.refused c.in_err-wire.ensures.unchanged

pub returns-clause-loops : goal.returns-clause-loops
returns-clause-loops g c =
    looped_between _ c.args.cycles c.args.machine.now c.in_ok-wire.ensures.slaves.0 c.args.loopback.now.traffic c.open_loop.new.loopback.traffic c.in_ok-wire.wire.traffic
    c.run_tapped-ended.result.1.traffic _ _ _ c.in_ok-wire.ensures.slaves.1 c.in_ok-wire.ensures.slaves.2 c.in_ok-wire.ensures.opened c.run_tapped-ended.ensures.loops c.close.ensures.counts
