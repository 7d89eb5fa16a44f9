use Rattle.std.proofs.Common.{◌≡◌, take}
use Rattle.ec_device.specs.Objects.{assigned_entries}
use Rattle.ec_link.proofs.objects.few_entries.Given as goal

abbrev pub invariant-loop-index : goal.invariant-loop-index
invariant-loop-index l = l.few ≡ assigned_entries l.pdos (take l.index-index l.indices)
