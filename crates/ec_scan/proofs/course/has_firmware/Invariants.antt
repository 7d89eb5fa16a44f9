use Rattle.std.proofs.Common.{◌≤◌}
use Rattle.ec_scan.proofs.course.has_firmware.Given as goal

abbrev pub invariant-loop : goal.invariant-loop
invariant-loop g l = l.copies ≤ l.counter
