use Rattle.std.proofs.Common.{◌≡◌, ◌++◌, drop, string_bytes}
use Rattle.ec_text.specs.PlanText.{lines_from, fmmu_line}
use Rattle.ec_text.proofs.plan.write_fmmus.Given as goal

abbrev pub invariant-loop-number : goal.invariant-loop-number
invariant-loop-number l = string_bytes l.text ++ lines_from (fmmu_line l.kind.hardware) l.number (drop l.number l.fmmus) ≡ string_bytes l.initial.text ++ lines_from (fmmu_line l.kind.hardware) 0 l.fmmus
