use Rattle.std.proofs.Common.{ℕ, ◌<◌, ◌≤◌, ◌≡◌, get_or, true}
use Rattle.ec_fmmu.specs.declared.modes.Mode.TheVariants.{Closed}
use Rattle.ec_fmmu.specs.Modes.{is_closed}
use Rattle.ec_fmmu.proofs.modes.end_of_open.Given as goal

abbrev pub invariant-loop-k : goal.invariant-loop-k
invariant-loop-k l = record {
  inside : l.end ≤ l.k;
  closed : (j : ℕ) → l.end ≤ j → j < l.k → is_closed (get_or l.modes j Closed) ≡ true;
}
