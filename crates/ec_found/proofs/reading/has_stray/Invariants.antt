use Rattle.std.proofs.Common.{◌+◌, ◌≤◌, ◌≡◌, length}
use Rattle.ec_found.specs.Founds.{has_stray}
use Rattle.ec_found.proofs.reading.has_stray.Given as goal

abbrev pub invariant-loop : goal.invariant-loop
invariant-loop l = record {
  same : has_stray l.manager l.rest ≡ has_stray l.manager l.words;
  few : length l.rest + l.counter ≤ length l.words;
}
