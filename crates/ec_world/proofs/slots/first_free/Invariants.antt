use Rattle.ec_world.proofs.Words.{ℕ, ◌<◌, ◌≡◌, false, None, is_none, get_or}
use Rattle.ec_world.proofs.slots.first_free.Given as goal

abbrev pub invariant-loop-place : goal.invariant-loop-place
invariant-loop-place l = (k : ℕ) → k < l.place → is_none (get_or l.slots k None) ≡ false
