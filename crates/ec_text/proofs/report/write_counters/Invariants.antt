use Rattle.std.proofs.Common.{◌≡◌, ◌++◌, drop, string_bytes}
use Rattle.ec_text.specs.PlanText.{lines_from}
use Rattle.ec_text.specs.ReportText.{counter_at}
use Rattle.ec_text.proofs.report.write_counters.Given as goal

abbrev pub invariant-loop-index : goal.invariant-loop-index
invariant-loop-index l = string_bytes l.text ++ lines_from (counter_at l.counters) l.index (drop l.index l.parts) ≡ string_bytes l.initial.text ++ lines_from (counter_at l.counters) 0 l.parts
