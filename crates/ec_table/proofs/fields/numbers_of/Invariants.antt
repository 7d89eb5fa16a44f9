use Rattle.std.proofs.Common.{◌≡◌, [], drop}
use Rattle.toml.specs.View.{items_view}
use Rattle.ec_table.specs.Pdos.{number_row}
use Rattle.ec_table.specs.InOrder.{rows_after}
use Rattle.ec_table.proofs.fields.numbers_of.Given as goal

abbrev pub invariant-loop-value : goal.invariant-loop-value
invariant-loop-value l =
    rows_after (number_row l.position l.low l.high) l.found l.value-index (items_view (drop l.value-index l.elements)) ≡ rows_after (number_row l.position l.low l.high) [] 0 (items_view l.elements)
