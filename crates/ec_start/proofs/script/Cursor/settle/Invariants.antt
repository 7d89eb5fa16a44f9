use Rattle.std.proofs.Common.{◌≡◌, ◌≤◌}
use Rattle.ec_start.specs.Ahead.{ahead, shares_left}
use Rattle.ec_start.proofs.script.Cursor.settle.Given as goal

abbrev pub invariant-loop-action : goal.invariant-loop-action
invariant-loop-action l = record {
  same : ahead l.slaves l.fn.self ≡ ahead l.slaves l.cursor;
  low : l.cursor.slave ≤ 64;
  place : l.cursor.place ≤ l.fn.self.place;
}

abbrev pub decreases-loop-action : goal.decreases-loop-action
decreases-loop-action l = shares_left l.cursor
