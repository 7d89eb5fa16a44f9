use Rattle.std.proofs.Common.{◌≡◌, ◌++◌, drop, string_bytes}
use Rattle.ec_text.specs.PlanText.{lines_from, slave_lines}
use Rattle.ec_text.proofs.plan.write_slaves.Given as goal

abbrev pub invariant-loop-number : goal.invariant-loop-number
invariant-loop-number l = string_bytes l.text ++ lines_from slave_lines l.number (drop l.number l.slaves) ≡ string_bytes l.initial.text ++ lines_from slave_lines 0 l.slaves
