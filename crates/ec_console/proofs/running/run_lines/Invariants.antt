use Rattle.std.proofs.Common.{◌≡◌, ◌++◌}
use Rattle.ec_script.specs.Scripts.{repeated}
use Rattle.ec_console.proofs.SayLemmas.{HasSaid, lines_of}
use Rattle.ec_console.proofs.running.run_lines.Given as goal

-- the lines so far are done and printed, and these are left
abbrev pub invariant-loop-line : goal.invariant-loop-line
invariant-loop-line g l = record {
  said : HasSaid g.T.Target.says l.initial.target (repeated (lines_of l.yielded)) l.target l.unmet l.initial.output l.output;
  left : lines_of l.yielded ++ l.line-iterator ≡ l.lines;
  table : g.T.Target.table l.target ≡ g.T.Target.table l.initial.target;
}
