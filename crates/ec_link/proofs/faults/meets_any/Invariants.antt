use Rattle.std.proofs.Common.{◌≡◌, drop}
use Rattle.std.specs.List.{list_any}
use Rattle.ec_link.specs.SlavePlan.{meet}
use Rattle.ec_link.proofs.faults.meets_any.Given as goal

abbrev pub invariant-loop-other : goal.invariant-loop-other
invariant-loop-other l = list_any (meet l.one) (drop l.other-index l.others) ≡ list_any (meet l.one) l.others
