use Rattle.std.proofs.Common.{◌≡◌, ◌*◌, ◌≤◌, take}
use Rattle.ec_device.specs.Types.{pdos_bits}
use Rattle.ec_device.proofs.slave_type.bits_of.Given as goal

abbrev pub invariant-loop-pdo : goal.invariant-loop-pdo
invariant-loop-pdo l = record { sum : l.total ≡ pdos_bits (take l.pdo-index l.pdos); small : l.total ≤ 4096 * l.pdo-index }
