use Rattle.std.proofs.Common.{◌≡◌, ◌≤◌, ◌-◌, ◌^◌, length}
use Rattle.ec_lines.specs.Inputs.{bytes_left}
use Rattle.ec_lines.specs.Taking.{TakesUndivided}
use Rattle.ec_lines.proofs.text.take_lines.Given as goal

abbrev pub invariant-loop-text : goal.invariant-loop-text
invariant-loop-text g l = record {
  lines : TakesUndivided (bytes_left g.R.Read.remaining l.initial.input) (bytes_left g.R.Read.remaining l.input) l.text.items;
  kept : l.input.is_refused ≡ l.initial.input.is_refused;
  short : length l.text.items ≤ 2 ^ 20;
}

-- each line has a byte at least, and the text has room for so many
abbrev pub decreases-loop-text : goal.decreases-loop-text
decreases-loop-text g l = 2 ^ 20 - length l.text.items
