use Rattle.std.proofs.Common.{◌≡◌, take}
use Rattle.ec_device.specs.Types.{ArePdos}
use Rattle.ec_found.specs.Founds.{kept}
use Rattle.ec_found.proofs.mapped.kept.Given as goal

abbrev pub invariant-loop-pdo : goal.invariant-loop-pdo
invariant-loop-pdo l = record {
  same : l.found ≡ kept l.first (take l.pdo-index l.pdos);
  limits : ArePdos l.first l.found;
}
