use Rattle.std.proofs.Common.{◌≡◌, ◌<◌, ℕ, None}
use Rattle.ec_script.specs.Halves.{divider_at}
use Rattle.ec_script.proofs.halves.split_script.Given as goal

abbrev pub invariant-loop-place : goal.invariant-loop-place
invariant-loop-place l = (k : ℕ) → k < l.place → divider_at l.text k ≡ None
