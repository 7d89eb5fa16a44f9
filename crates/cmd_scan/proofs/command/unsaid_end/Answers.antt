use Rattle.std.proofs.Common.{◌∙◌, ap, sym}
use Rattle.cmd_scan.specs.Scans.{ended_by_slave}
use Rattle.cmd_scan.proofs.command.unsaid_end.Goals as goal

pub returns-in-None : goal.returns-in-None
returns-in-None c = ap ended_by_slave (sym c.in-None.is ∙ c.first_unsaid.ensures)

pub returns-in-Some : goal.returns-in-Some
returns-in-Some c = ap ended_by_slave (sym c.in-Some.is ∙ c.first_unsaid.ensures)
