use Rattle.cmd_master.proofs.Mastering.{target_cut, target_ran}
use Rattle.ec_console.specs.Coming.{reading_at}
use Rattle.cmd_master.proofs.command.run_all.Goals as goal

pub returns-in_err-unmet : goal.returns-in_err-unmet
returns-in_err-unmet g c =
    target_cut _ c.run_input.result _ g.T.Target.says g.T.Target.manner (reading_at g.T.Target.takes (g.T.Target.table c.args.target.now)) c.args.target.now c.run_input.new.target _ _ _ c.in_err-unmet.was c.run_input.ensures.part
    c.run_input.ensures.late c.from_residual.ensures.1

pub returns : goal.returns
returns g c =
    target_ran c.end_of.result g.T.Target.says g.T.Target.manner (reading_at g.T.Target.takes (g.T.Target.table c.args.target.now)) c.args.target.now c.run_input.new.target c.in_ok-unmet.unmet _ _ _ c.end_of.ensures c.in_ok-unmet.ensures.all
