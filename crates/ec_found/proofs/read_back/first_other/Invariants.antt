use Rattle.std.proofs.Common.{◌≤◌, length}
use Rattle.ec_found.proofs.Stated.{AreRows}
use Rattle.ec_found.proofs.read_back.first_other.Given as goal

abbrev pub invariant-loop-place : goal.invariant-loop-place
invariant-loop-place l = record {
  rows : AreRows l.table l.found l.place;
  there : l.place ≤ length l.table.slaves;
}
