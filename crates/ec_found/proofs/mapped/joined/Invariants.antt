use Rattle.std.proofs.Common.{◌≡◌, map, take, unwrap_or}
use Rattle.ec_device.specs.declared.slave_type.Pdo.{Pdo}
use Rattle.ec_device.specs.Objects.{pdo_at}
use Rattle.ec_found.proofs.mapped.joined.Given as goal

abbrev pub invariant-loop-pdo : goal.invariant-loop-pdo
invariant-loop-pdo l = l.found ≡ map (λ (p : Pdo). unwrap_or (pdo_at l.said p.index) p) (take l.pdo-index l.shown)
