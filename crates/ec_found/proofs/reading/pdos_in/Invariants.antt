use Rattle.std.proofs.Common.{◌+◌, ◌≤◌, ◌≡◌, ◌++◌, length}
use Rattle.ec_found.specs.Founds.{pdos_in}
use Rattle.ec_found.proofs.reading.pdos_in.Given as goal

abbrev pub invariant-loop : goal.invariant-loop
invariant-loop l = record {
  same : l.found ++ pdos_in l.all l.manager l.rest ≡ pdos_in l.all l.manager l.words;
  few : length l.rest + l.counter ≤ length l.words;
}
