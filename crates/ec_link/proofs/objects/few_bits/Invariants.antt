use Rattle.std.proofs.Common.{◌≡◌, ◌*◌, ◌≤◌, take}
use Rattle.ec_device.specs.Objects.{bits_of}
use Rattle.ec_link.proofs.objects.few_bits.Given as goal

abbrev pub invariant-loop-entry : goal.invariant-loop-entry
invariant-loop-entry l = record {
  bits : l.bits ≡ bits_of (take l.entry-index l.entries);
  few : l.bits ≤ 255 * l.entry-index;
}
