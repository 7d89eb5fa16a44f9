use Rattle.std.proofs.Common.{◌≡◌, false, take}
use Rattle.ec_device.specs.Objects.{assigned_entries}
use Rattle.ec_link.specs.Entries.{names_twice}
use Rattle.ec_found.specs.Founds.{together}
use Rattle.ec_found.proofs.assigned.together.Given as goal

abbrev pub invariant-loop-index : goal.invariant-loop-index
invariant-loop-index l = record {
  same : l.found ≡ together l.pdos (take l.index-index l.indices);
  once : names_twice (assigned_entries l.pdos l.found) ≡ false;
}
