use Rattle.std.proofs.Common.{◌+◌, ◌≤◌, ◌≡◌, length}
use Rattle.ec_sii.specs.Reading.{category_found}
use Rattle.ec_found.proofs.reading.category_in.Given as goal

abbrev pub invariant-loop : goal.invariant-loop
invariant-loop l = record {
  same : category_found l.wanted l.words ≡ category_found l.wanted l.rest;
  few : length l.rest + l.counter ≤ length l.words;
}
