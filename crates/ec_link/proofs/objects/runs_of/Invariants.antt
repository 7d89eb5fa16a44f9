use Rattle.std.proofs.Common.{◌≡◌, ◌*◌, ◌≤◌, take}
use Rattle.ec_device.specs.Objects.{bits_of}
use Rattle.ec_link.specs.Entries.{names_twice}
use Rattle.ec_link.specs.Objects.{HasRuns}
use Rattle.ec_link.proofs.objects.runs_of.Given as goal

abbrev pub invariant-loop-entry : goal.invariant-loop-entry
invariant-loop-entry l = record {
  runs : HasRuns l.runs (take l.entry-index l.entries);
  bits : l.bits ≡ bits_of (take l.entry-index l.entries);
  few : l.bits ≤ 255 * l.entry-index;
  twice : l.is_twice ≡ names_twice (take l.entry-index l.entries);
}
