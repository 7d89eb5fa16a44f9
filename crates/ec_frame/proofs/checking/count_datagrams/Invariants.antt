use Rattle.std.proofs.Common.{◌<◌, ◌≤◌, ◌+◌, length}
use Rattle.ec_frame.proofs.WalkSteps.{Walked}
use Rattle.ec_frame.proofs.checking.count_datagrams.Given as goal

abbrev pub invariant-loop-shape : goal.invariant-loop-shape
invariant-loop-shape l = record {
  some : 0 < length l.rest;
  walked : Walked l.area l.rest l.count;
  small : l.count + length l.rest ≤ length l.area;
}

abbrev pub decreases-loop-shape : goal.decreases-loop-shape
decreases-loop-shape l = length l.rest
