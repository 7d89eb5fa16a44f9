use Rattle.std.proofs.Common.{ℕ, ◌<◌, ◌≡◌, [], get_or, length}
use Rattle.ec_cycle.specs.Copies.{output_runs}
use Rattle.ec_cycle.proofs.run.runs_by_part.Given as goal

abbrev pub invariant-loop-part : goal.invariant-loop-part
invariant-loop-part l = record {
  count : length l.runs ≡ l.part;
  each : (k : ℕ) → k < l.part → get_or l.runs k [] ≡ output_runs l.plan k;
}
