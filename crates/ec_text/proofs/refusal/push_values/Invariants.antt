use Rattle.std.proofs.Common.{◌≡◌, ◌≤◌, ◌+◌, ◌*◌, ◌++◌, drop}
use Rattle.arrayvec.specs.ArrayString.{array_string_len}
use Rattle.ec_text.specs.RefusalText.{values_text}
use Rattle.ec_text.proofs.refusal.push_values.Given as goal

abbrev pub invariant-loop-value : goal.invariant-loop-value
invariant-loop-value g l =
    (l.text.bytes ++ values_text (drop l.value-index l.values) ≡ l.initial.text.bytes ++ values_text l.values)
    × (array_string_len l.text ≤ array_string_len l.initial.text + 21 * l.value-index)
