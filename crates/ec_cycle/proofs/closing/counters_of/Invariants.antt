use Rattle.std.proofs.Common.{◌≡◌, Option, map, option_map, take}
use Rattle.ec_cycle.specs.Closing.{ReturnedPart}
use Rattle.ec_cycle.proofs.closing.counters_of.Given as goal

abbrev pub invariant-loop-part : goal.invariant-loop-part
invariant-loop-part l = l.counters.items ≡ map (λ (o : Option ReturnedPart). option_map (λ (q : ReturnedPart). q.counters) o) (take l.part-index l.kept)
