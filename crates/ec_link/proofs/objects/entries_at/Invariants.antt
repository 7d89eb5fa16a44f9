use Rattle.std.proofs.Common.{◌≡◌, drop}
use Rattle.ec_device.specs.Objects.{entries_at}
use Rattle.ec_link.proofs.objects.entries_at.Given as goal

abbrev pub invariant-loop-pdo : goal.invariant-loop-pdo
invariant-loop-pdo l = entries_at (drop l.pdo-index l.pdos) l.index ≡ entries_at l.pdos l.index
