use Rattle.std.proofs.Common.{◌≡◌}
use Rattle.ec_lines.specs.Inputs.{bytes_left}
use Rattle.ec_console.specs.Coming.{reading_at}
use Rattle.ec_console.proofs.ComeLemmas.{HasCome}
use Rattle.ec_console.proofs.running.run_input.Given as goal

-- the lines so far are taken, done and printed, but for those of the draft
abbrev pub invariant-loop-place : goal.invariant-loop-place
invariant-loop-place g l = record {
  come : HasCome g.T.Target.says g.T.Target.manner (reading_at g.T.Target.takes (g.T.Target.table l.initial.target)) l.initial.target (bytes_left g.R.Read.remaining l.initial.input) (bytes_left g.R.Read.remaining l.input) l.place l.draft
      l.target l.unmet l.initial.output l.output;
  table : g.T.Target.table l.target ≡ g.T.Target.table l.initial.target;
}
