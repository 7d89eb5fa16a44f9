use Rattle.cmd_master.proofs.Mastering.{never_begun, on_socket, on_wire, unconnected}
use Rattle.cmd_master.proofs.command.run_connected.Goals as goal

pub returns-in_err-wire-in-None-clause-runs : goal.returns-in_err-wire-in-None-clause-runs
returns-in_err-wire-in-None-clause-runs g c = unconnected _ _ c.args.options.manner c.args.machine _ _ c.from_residual.ensures.1

pub returns-in_err-wire-in-Some-clause-runs : goal.returns-in_err-wire-in-Some-clause-runs
returns-in_err-wire-in-Some-clause-runs g c = unconnected _ _ c.args.options.manner c.args.machine _ _ c.from_residual-in_err-wire-in-Some.ensures.1

pub returns-in_err-mastered-in-None-clause-runs : goal.returns-in_err-mastered-in-None-clause-runs
returns-in_err-mastered-in-None-clause-runs g c = never_begun _ c.args.options.manner c.args.machine _ _ c.from_residual-in_err-mastered-in-None.ensures.1

pub returns-in_err-mastered-in-Some-clause-runs : goal.returns-in_err-mastered-in-Some-clause-runs
returns-in_err-mastered-in-Some-clause-runs g c = never_begun _ c.args.options.manner c.args.machine _ _ c.from_residual-in_err-mastered-in-Some.ensures.1

pub returns-in_ok-mastered-in-None-clause-runs : goal.returns-in_ok-mastered-in-None-clause-runs
returns-in_ok-mastered-in-None-clause-runs g c =
    on_socket c.run_tapped.result c.args.options.manner c.args.machine c.in_ok-mastered-in-None.mastered c.in_ok-wire-in-None.wire.failed _ _ _ c.in_ok-mastered-in-None.ensures c.in_ok-wire-in-None.ensures c.run_tapped.ensures.runs

pub returns-in_ok-mastered-in-Some-clause-runs : goal.returns-in_ok-mastered-in-Some-clause-runs
returns-in_ok-mastered-in-Some-clause-runs g c =
    on_wire c.run_tapped-in-Some.result c.args.options.manner c.args.machine c.in_ok-mastered-in-Some.mastered c.in_ok-wire-in-Some.wire _ _ _ c.in_ok-mastered-in-Some.ensures c.in_ok-wire-in-Some.ensures
    c.run_tapped-in-Some.ensures.runs
