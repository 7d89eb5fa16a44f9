use Rattle.std.proofs.Common.{◌+◌, ◌≤◌, ◌≡◌, ◌++◌, length}
use Rattle.ec_found.specs.Founds.{entries_of, plain_entries}
use Rattle.ec_found.proofs.reading.entries_in.Given as goal

abbrev pub invariant-loop : goal.invariant-loop
invariant-loop l = record {
  same : l.found ++ plain_entries (entries_of l.rest) ≡ plain_entries (entries_of l.words);
  few : length l.rest + l.counter ≤ length l.words;
}
