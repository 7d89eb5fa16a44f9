use Rattle.std.proofs.Common.{◌≡◌, ◌++◌, drop, string_bytes}
use Rattle.ec_text.specs.PlanText.{lines_from, planned_part_line}
use Rattle.ec_text.proofs.plan.write_parts.Given as goal

abbrev pub invariant-loop-number : goal.invariant-loop-number
invariant-loop-number l =
    string_bytes l.text ++ lines_from (planned_part_line l.version l.plan) l.number (drop l.number l.plan.parts)
    ≡ string_bytes l.initial.text ++ lines_from (planned_part_line l.version l.plan) 0 l.plan.parts
