use Rattle.std.proofs.Common.{◌≡◌, drop}
use Rattle.std.specs.List.{flat_map}
use Rattle.ec_device.specs.Objects.{pdo_at}
use Rattle.ec_start.specs.Scripts.{pdo_read}
use Rattle.ec_start.specs.Seeking.{seek}
use Rattle.ec_start.proofs.requests.uploads_at.Given as goal

abbrev pub invariant-loop-index : goal.invariant-loop-index
invariant-loop-index l = seek (flat_map (λ index. pdo_read (pdo_at l.pdos index)) (drop l.index-index l.indices)) l.left ≡ seek (flat_map (λ index. pdo_read (pdo_at l.pdos index)) l.indices) l.fn.place
