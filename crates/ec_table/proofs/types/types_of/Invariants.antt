use Rattle.std.proofs.Common.{◌≡◌, [], drop}
use Rattle.toml.specs.View.{items_view}
use Rattle.ec_table.specs.Reading.{type_element}
use Rattle.ec_table.specs.InOrder.{rows_after}
use Rattle.ec_table.proofs.types.types_of.Given as goal

abbrev pub invariant-loop-element : goal.invariant-loop-element
invariant-loop-element l =
    rows_after (type_element l.format) l.found l.element (items_view (drop l.element l.elements)) ≡ rows_after (type_element l.format) [] 0 (items_view l.elements)
