use Rattle.std.proofs.Common.{◌≡◌, ◌≤◌, []}
use Rattle.ec_lines.specs.Inputs.{bytes_left}
use Rattle.ec_lines.specs.Taking.{IsSoFar}
use Rattle.ec_lines.proofs.lines.take_bytes.Given as goal

abbrev pub invariant-loop : goal.invariant-loop
invariant-loop g l = record {
  line : IsSoFar (bytes_left g.R.Read.remaining l.fn.input) (bytes_left g.R.Read.remaining l.input) l.most l.line.items;
  none : l.input.ahead ≡ [];
  kept : l.input.is_refused ≡ l.fn.input.is_refused;
  counted : l.counter ≤ l.input.reads;
}
