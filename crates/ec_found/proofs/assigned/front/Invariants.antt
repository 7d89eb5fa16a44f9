use Rattle.std.proofs.Common.{◌≡◌, drop, false}
use Rattle.ec_device.specs.Objects.{assigned_entries}
use Rattle.ec_device.specs.Types.{ArePdos}
use Rattle.ec_link.specs.Entries.{names_twice}
use Rattle.ec_found.specs.Founds.{front, front_behind, indices}
use Rattle.ec_found.proofs.assigned.front.Given as goal

abbrev pub invariant-loop-pdo : goal.invariant-loop-pdo
invariant-loop-pdo l = record {
  same : front_behind l.first l.all l.found (drop l.pdo-index l.all) ≡ front l.first l.all;
  named : l.indices ≡ indices l.found;
  once : names_twice (assigned_entries l.all l.indices) ≡ false;
  limits : ArePdos l.first l.found;
}
