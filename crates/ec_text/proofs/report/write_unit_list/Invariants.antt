use Rattle.std.proofs.Common.{◌≡◌, ◌++◌, drop, string_bytes}
use Rattle.ec_text.specs.PlanText.{lines_from}
use Rattle.ec_text.specs.ReportText.{unit_at}
use Rattle.ec_text.proofs.report.write_unit_list.Given as goal

abbrev pub invariant-loop-index : goal.invariant-loop-index
invariant-loop-index l = string_bytes l.text ++ lines_from (unit_at l.taken) l.index (drop l.index l.units) ≡ string_bytes l.initial.text ++ lines_from (unit_at l.taken) 0 l.units
