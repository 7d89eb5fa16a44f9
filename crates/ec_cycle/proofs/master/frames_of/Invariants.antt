use Rattle.std.proofs.Common.{ℕ, ◌<◌, ◌≡◌, [], get_or, length}
use Rattle.ec_cycle.specs.MasterFields.{IsMade}
use Rattle.ec_cycle.proofs.master.frames_of.Given as goal

abbrev pub invariant-loop-part : goal.invariant-loop-part
invariant-loop-part l = (length l.frames.items ≡ l.part) × ((k : ℕ) → k < l.part → IsMade l.plan k (get_or l.frames.items k []))
