use Rattle.std.proofs.Common.{All, ◌≡◌, length}
use Rattle.ec_scan.specs.Showing.{HasWholeSii}
use Rattle.ec_scan.proofs.course.scan_all.Given as goal

abbrev pub invariant-loop-slave : goal.invariant-loop-slave
invariant-loop-slave g l = record {
  long : length l.found.items ≡ l.slave;
  whole : All HasWholeSii l.found.items;
}

abbrev pub invariant-loop-slave-2 : goal.invariant-loop-slave-2
invariant-loop-slave-2 g l = record {
  long : length l.found.items ≡ l.count;
  whole : All HasWholeSii l.found.items;
}
