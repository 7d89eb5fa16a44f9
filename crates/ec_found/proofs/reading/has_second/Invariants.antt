use Rattle.std.proofs.Common.{◌+◌, ◌≤◌, ◌≡◌, false, length}
use Rattle.ec_found.specs.Founds.{has_second, managers_in}
use Rattle.ec_found.proofs.reading.has_second.Given as goal

abbrev pub invariant-loop : goal.invariant-loop
invariant-loop l = record {
  same : has_second l.is_behind l.usage (managers_in l.rest) ≡ has_second false l.usage (managers_in l.words);
  few : length l.rest + l.counter ≤ length l.words;
}
