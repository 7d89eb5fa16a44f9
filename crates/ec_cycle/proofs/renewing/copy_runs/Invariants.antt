use Rattle.std.proofs.Common.{◌≡◌, drop}
use Rattle.ec_cycle.specs.Copies.{runs_copied}
use Rattle.ec_cycle.proofs.renewing.copy_runs.Given as goal

abbrev pub invariant-loop-run : goal.invariant-loop-run
invariant-loop-run l = runs_copied l.src (drop l.run-index l.runs) l.dst ≡ runs_copied l.src l.runs l.initial.dst
