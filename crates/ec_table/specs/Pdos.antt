-- The PDOs of a type, and lists of numbers.
use Rattle.std.specs.Prelude.{ℕ, Bool, false, not, ◌&&◌, ◌||◌, ◌==◌, nat_le, List, [], ◌∷◌, length, map, codes, Option, Some, None, is_some, Result, Ok}
use Rattle.std.specs.List.{list_any}
use Rattle.std.specs.Option.{ok_or}
use Rattle.toml.specs.Data.{Data, Members, at, as_array, get_member}
use Rattle.ec_table.specs.declared.fault.Fault.{Fault}
use Rattle.ec_table.specs.declared.fault.Fault.TheVariants.{BadValue}
use Rattle.ec_table.specs.declared.fault.Position.{Position}
use Rattle.ec_device.specs.declared.slave_type.Entry.{Entry}
use Rattle.ec_device.specs.declared.slave_type.Pdo.{Pdo}
use Rattle.ec_table.specs.declared.keys.Shape.TheVariants as shape
use Rattle.ec_table.specs.Fields.{◌>>=◌, must, full_format, keys_are, number_in}
use Rattle.ec_table.specs.InOrder.{members_in, rows_after}

-- [index, subindex, bits]; a gap has index and subindex 0
unfoldable pub entry_of : Position → Data → Result Entry Fault
entry_of p d = do
  index ← number_in p 0 65535 (at 0 d)
  subindex ← number_in p 0 255 (at 1 d)
  bits ← number_in p 1 64 (at 2 d)
  _ ← must (not (is_some (at 3 d)) && (not (index == 0) || (subindex == 0))) (BadValue p)
  Ok (record { index = index; subindex = subindex; bits = bits })

abbrev pub entry_row : Position → ℕ → Data → List Entry → Result Entry Fault
entry_row p n d found = entry_of p d

-- an array of at most `most` rows
module _ {X : Type 0} (row : ℕ → Data → List X → Result X Fault) where
  unfoldable pub array_of : Position → ℕ → Data → Result (List X) Fault
  array_of p most d = do
    ds ← ok_or (as_array d) (BadValue p)
    xs ← rows_after row [] 0 ds
    _ ← must (nat_le (length xs) most) (BadValue p)
    Ok xs

  -- none if it is left out
  abbrev pub array_in : Position → ℕ → Option Data → Result (List X) Fault
  array_in p most None = Ok []
  array_in p most (Some d) = array_of p most d

-- a table of just `index` and `entries`
unfoldable pub pdo_of : Position → ℕ → ℕ → Members → Result Pdo Fault
pdo_of p low high ms = do
  _ ← must (keys_are shape.Pdo full_format ms) (BadValue p)
  index ← number_in p low high (get_member (codes "index") ms)
  entries ← array_in (entry_row p) p 64 (get_member (codes "entries") ms)
  Ok (record { index = index; entries = entries })

abbrev pub pdo_row : Position → ℕ → ℕ → ℕ → Data → List Pdo → Result Pdo Fault
pdo_row p low high n d found = members_in p d >>= (λ ms. pdo_of p low high ms)

abbrev pub pdos_in : Position → ℕ → ℕ → Option Data → Result (List Pdo) Fault
pdos_in p low high value = array_in (pdo_row p low high) p 16 value

-- the last indices of the output PDOs (receive PDOs, ETG.1000.6, "Object dictionary") and of the input PDOs
-- (transmit PDOs)
abbrev pub last_output_index : ℕ
last_output_index = 0x17FF

abbrev pub last_input_index : ℕ
last_input_index = 0x1BFF

abbrev pub indices_of : List Pdo → List ℕ
indices_of pdos = map (λ (q : Pdo). q.index) pdos

-- some number stands twice
abbrev pub has_twice : List ℕ → Bool
has_twice [] = false
has_twice (x ∷ xs) = list_any (λ y. y == x) xs || has_twice xs

abbrev pub number_row : Position → ℕ → ℕ → ℕ → Data → List ℕ → Result ℕ Fault
number_row p low high n d found = number_in p low high (Some d)

-- the numbers of an array, however many
unfoldable pub number_list : Position → ℕ → ℕ → Data → Result (List ℕ) Fault
number_list p low high d = ok_or (as_array d) (BadValue p) >>= rows_after (number_row p low high) [] 0

-- the numbers of an array, if there is one
abbrev pub numbers_in : Position → ℕ → ℕ → Option Data → Result (Option (List ℕ)) Fault
numbers_in p low high None = Ok None
numbers_in p low high (Some d) = number_list p low high d >>= (λ xs. Ok (Some xs))
