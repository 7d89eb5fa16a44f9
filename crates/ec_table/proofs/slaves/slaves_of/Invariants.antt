use Rattle.std.proofs.Common.{◌≡◌, [], drop}
use Rattle.toml.specs.View.{items_view}
use Rattle.ec_table.specs.Reading.{slave_element}
use Rattle.ec_table.specs.InOrder.{rows_after}
use Rattle.ec_table.proofs.slaves.slaves_of.Given as goal

abbrev pub invariant-loop-element : goal.invariant-loop-element
invariant-loop-element l =
    rows_after (slave_element l.format l.types) l.found l.element (items_view (drop l.element l.elements)) ≡ rows_after (slave_element l.format l.types) [] 0 (items_view l.elements)
