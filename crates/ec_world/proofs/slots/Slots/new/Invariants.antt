use Rattle.std.proofs.Common.{◌≡◌, None, replicate}
use Rattle.ec_world.proofs.slots.Slots.new.Given as goal

abbrev pub invariant-loop-n : goal.invariant-loop-n
invariant-loop-n l = l.slots.items ≡ replicate l.n None
