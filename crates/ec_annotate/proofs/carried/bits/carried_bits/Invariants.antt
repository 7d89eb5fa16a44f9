use Rattle.std.proofs.Common.{◌≡◌, map, filter, take}
use Rattle.ec_annotate.specs.Carrying.{carried_by, is_carried}
use Rattle.ec_annotate.proofs.carried.bits.carried_bits.Given as goal

abbrev pub invariant-loop-link : goal.invariant-loop-link
invariant-loop-link l = l.found ≡ map (carried_by l.plan l.part l.content) (filter (is_carried l.plan l.part) (take l.link-index l.link-items))
