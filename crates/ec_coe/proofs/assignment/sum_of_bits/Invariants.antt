use Rattle.std.proofs.Common.{◌≡◌, ◌*◌, ◌≤◌, take}
use Rattle.std.specs.Prelude.{sum_by}
use Rattle.ec_device.specs.Objects.{bits_at}
use Rattle.ec_coe.proofs.assignment.sum_of_bits.Given as goal

abbrev pub invariant-loop-index : goal.invariant-loop-index
invariant-loop-index l = record { sum : l.total ≡ sum_by (bits_at l.pdos) (take l.index-index l.indices); small : l.total ≤ 4096 * l.index-index }
