use Rattle.std.proofs.Common.{◌≡◌, drop}
use Rattle.ec_found.specs.Differing.{same_pdos}
use Rattle.ec_found.proofs.against.have_same_pdos.Given as goal

abbrev pub invariant-loop-index : goal.invariant-loop-index
invariant-loop-index l = same_pdos (l.wanted, l.seen) (drop l.index-index l.indices) ≡ same_pdos (l.wanted, l.seen) l.indices
