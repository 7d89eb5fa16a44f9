use Rattle.std.proofs.Common.{◌≡◌}
use Rattle.ec_diagnostic.proofs.diagnosis.remarks_of.Given as goal

abbrev pub invariant-loop-saying : goal.invariant-loop-saying
invariant-loop-saying l = l.remarks.text ≡ l.text
