use Rattle.std.proofs.Common.{◌≡◌, ◌≤◌, take}
use Rattle.ec_cycle.specs.Closing.{nones}
use Rattle.ec_cycle.proofs.master.missing_of.Given as goal

abbrev pub invariant-loop-part : goal.invariant-loop-part
invariant-loop-part l = record {
  so_far : l.missing ≡ nones (take l.part-index l.kept);
  few : l.missing ≤ l.part-index;
}
