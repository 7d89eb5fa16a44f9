use Rattle.std.proofs.Common.{◌∙◌, ap}
use Rattle.ec_wire.specs.Taps.{Tap}
use Rattle.cmd_master.proofs.Doing.{state_of}
use Rattle.cmd_master.proofs.Mastering.{tapped_runs}
use Rattle.cmd_master.proofs.command.run_tapped.Goals as goal

pub returns-in-None-clause-runs : goal.returns-in-None-clause-runs
returns-in-None-clause-runs g c = (c.run_all.new.target, c.run_all.ensures)

pub returns-in-Some-clause-runs : goal.returns-in-Some-clause-runs
returns-in-Some-clause-runs g c =
    tapped_runs c.run_all-ended.result c.args.mastered _ c.run_all-ended.new.target _ _ _
    (ap (λ (t : Tap). state_of c.mastered-in-Some.inside.session t.wire c.mastered-in-Some.inside.manner c.mastered-in-Some.inside.states.items) c.new.ensures ∙ c.mastered-in-Some.view_is) c.run_all-ended.ensures
