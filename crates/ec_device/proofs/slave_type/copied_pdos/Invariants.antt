use Rattle.std.proofs.Common.{◌≡◌, take}
use Rattle.ec_device.proofs.slave_type.copied_pdos.Given as goal

abbrev pub invariant-loop-pdo : goal.invariant-loop-pdo
invariant-loop-pdo l = l.copied ≡ take l.pdo-index l.pdos
