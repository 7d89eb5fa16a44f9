use Rattle.std.proofs.Common.{◌≡◌, ◌≤◌, length, take}
use Rattle.std.specs.Io.KnownBytes.{Appends}
use Rattle.ec_console.proofs.printing.write_text.Given as goal

-- the first part of the text that is written
abbrev pub invariant-loop : goal.invariant-loop
invariant-loop g l = record {
  part : Appends l.initial.output.holds l.output.holds (take l.written l.text);
  kept : l.output.is_refused ≡ l.initial.output.is_refused;
  within : l.written ≤ length l.text;
  counted : l.counter ≤ l.output.writes;
}
