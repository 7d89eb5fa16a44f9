use Rattle.std.proofs.Common.{◌≡◌}
use Rattle.ec_found.specs.Founds.{managers_in, used_from}
use Rattle.ec_found.proofs.reading.manager_for.Given as goal

abbrev pub invariant-loop-number : goal.invariant-loop-number
invariant-loop-number l = used_from l.usage 0 (managers_in l.words) ≡ used_from l.usage l.number (managers_in l.rest)
