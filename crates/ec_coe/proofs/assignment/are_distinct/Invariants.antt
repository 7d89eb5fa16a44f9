use Rattle.std.proofs.Common.{◌≡◌, drop}
use Rattle.ec_coe.specs.Transfers.{distinct}
use Rattle.ec_coe.proofs.assignment.are_distinct.Given as goal

-- what is left decides
abbrev pub invariant-loop-i : goal.invariant-loop-i
invariant-loop-i l = distinct l.indices ≡ distinct (drop l.i l.indices)
