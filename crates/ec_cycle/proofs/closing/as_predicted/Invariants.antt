use Rattle.std.proofs.Common.{◌≡◌, take}
use Rattle.ec_cycle.proofs.closing.as_predicted.Given as goal

abbrev pub invariant-loop-part : goal.invariant-loop-part
invariant-loop-part l = l.counters.items ≡ take l.part-index l.parts
