use Rattle.std.proofs.Common.{◌≡◌, take}
use Rattle.ec_device.specs.Objects.{assigned_entries}
use Rattle.ec_found.proofs.assigned.entries_of.Given as goal

abbrev pub invariant-loop-index : goal.invariant-loop-index
invariant-loop-index l = l.found ≡ assigned_entries l.pdos (take l.index-index l.indices)
