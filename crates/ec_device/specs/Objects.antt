-- The entries that a direction of a slave has in its process data: those of the PDOs that it assigns, one after another,
-- and their bits (ETG.1000.6, "Object dictionary" and "Sync manager PDO assignment").
use Rattle.std.specs.Prelude.{ℕ, ◌==◌, ◌≡◌, if◌then◌else◌, List, [], map, find, sum_by, Option, Some, None}
use Rattle.std.specs.List.{flat_map, range_with_len}
use Rattle.std.specs.Option.{option_map_or}
use Rattle.ec_device.specs.declared.slave_type.Entry.{Entry}
use Rattle.ec_device.specs.declared.slave_type.Pdo.{Pdo}
use Rattle.ec_device.specs.Types.{pdo_bits}

-- the PDO with an index
abbrev pub pdo_at : List Pdo → ℕ → Option Pdo
pdo_at pdos index = find (λ (q : Pdo). q.index == index) pdos

-- its entries, none where there is no such PDO
abbrev pub entries_at : List Pdo → ℕ → List Entry
entries_at pdos index = option_map_or (λ (q : Pdo). q.entries) (pdo_at pdos index) []

-- the entries of the PDOs with these indices, one after another
abbrev pub assigned_entries : List Pdo → List ℕ → List Entry
assigned_entries pdos indices = flat_map (entries_at pdos) indices

-- how many bits entries have, gaps with them
abbrev pub bits_of : List Entry → ℕ
bits_of es = sum_by (λ (e : Entry). e.bits) es

-- how many bits the PDO with an index has, 0 where there is no such PDO
abbrev pub bits_at : List Pdo → ℕ → ℕ
bits_at pdos index = option_map_or pdo_bits (pdo_at pdos index) 0

-- how many bits the PDOs with these indices have
abbrev pub bits_assigned : List Pdo → List ℕ → ℕ
bits_assigned pdos indices = sum_by (bits_at pdos) indices

-- that is how many bits their entries have
abbrev pub BitsAssignedAreOfEntries : Type 0
BitsAssignedAreOfEntries = (pdos : List Pdo) (indices : List ℕ) → bits_assigned pdos indices ≡ bits_of (assigned_entries pdos indices)

-- one bit of an object
pub record ObjectBit : Type 0 where
  pub index : ℕ
  pub subindex : ℕ
  pub bit : ℕ

-- the bits of an entry, without a name in a gap
abbrev pub entry_bits : Entry → List (Option ObjectBit)
entry_bits e = map (λ k. if e.index == 0 then None else Some (record { index = e.index; subindex = e.subindex; bit = k })) (range_with_len 0 e.bits)
