use Rattle.std.proofs.Common.{take}
use Rattle.cmd_scan.specs.Scans.{AreFound}
use Rattle.cmd_scan.proofs.finding.found_all.Given as goal

abbrev pub invariant-loop-slave : goal.invariant-loop-slave
invariant-loop-slave l = AreFound (take l.slave-index l.shown) l.found.items
