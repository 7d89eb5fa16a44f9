use Rattle.std.proofs.Common.{◌≡◌, drop}
use Rattle.std.specs.List.{list_any}
use Rattle.ec_found.specs.Differing.{stays}
use Rattle.ec_found.proofs.against.some_stays.Given as goal

abbrev pub invariant-loop-unsaid : goal.invariant-loop-unsaid
invariant-loop-unsaid l = list_any (stays l.kind) (drop l.unsaid-index l.things) ≡ list_any (stays l.kind) l.things
