use Rattle.std.proofs.Common.{◌≡◌, length}
use Rattle.toml.specs.View.{members_view}
use Rattle.ec_table.specs.Fields.{each_key, is_key, full_format}
use Rattle.ec_table.specs.Keys.{names_of}
use Rattle.ec_table.proofs.KeyPlaces.{Finds}
use Rattle.ec_table.proofs.values.values_of.Given as goal

-- the keys so far are known, and what was found of each is what it has
abbrev pub invariant-loop-key : goal.invariant-loop-key
invariant-loop-key l =
    (each_key (is_key l.fn.shape l.fn.format) (members_view l.key-iterator) ≡ each_key (is_key l.fn.shape l.fn.format) (members_view l.members.entries))
    × (length l.found ≡ 18)
    × Finds l.found (names_of l.fn.shape full_format) (members_view l.key-iterator) (members_view l.members.entries)
