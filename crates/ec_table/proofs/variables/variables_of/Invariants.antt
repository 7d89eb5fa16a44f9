use Rattle.std.proofs.Common.{◌≡◌, [], length}
use Rattle.std.specs.Vec.Iter.{into_iter_items, into_iter_len}
use Rattle.toml.specs.View.{items_view}
use Rattle.ec_table.specs.Reading.{variable_element}
use Rattle.ec_table.specs.InOrder.{rows_after}
use Rattle.ec_table.proofs.variables.variables_of.Given as goal

abbrev pub invariant-loop-value : goal.invariant-loop-value
invariant-loop-value l =
    (rows_after (variable_element l.format) l.found (length l.found) (items_view (into_iter_items l.value-iterator)) ≡ rows_after (variable_element l.format) [] 0 (items_view l.fn.elements.items))
    × (into_iter_len l.value-iterator ≡ length (into_iter_items l.value-iterator))
