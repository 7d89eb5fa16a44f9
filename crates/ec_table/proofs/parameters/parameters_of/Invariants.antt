use Rattle.std.proofs.Common.{◌≡◌, [], drop}
use Rattle.toml.specs.View.{items_view}
use Rattle.ec_table.specs.Parameters.{parameter_row}
use Rattle.ec_table.specs.InOrder.{rows_after}
use Rattle.ec_table.proofs.parameters.parameters_of.Given as goal

abbrev pub invariant-loop-value : goal.invariant-loop-value
invariant-loop-value l =
    rows_after (parameter_row l.position) l.found l.value-index (items_view (drop l.value-index l.elements)) ≡ rows_after (parameter_row l.position) [] 0 (items_view l.elements)
