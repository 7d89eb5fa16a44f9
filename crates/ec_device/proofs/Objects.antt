-- Bits of PDOs, and of their entries.
use Rattle.std.proofs.Common.{◌≡◌, [], ◌∷◌, Option, Some, None, find, ◌==◌, refl, sym, ◌∙◌}
use Rattle.std.specs.Option.{option_map_or}
use Rattle.std.proofs.lemmas.List.Sums.{sum_by-cons, sum_by-append}
use Rattle.ec_device.specs.declared.slave_type.Entry.{Entry}
use Rattle.ec_device.specs.declared.slave_type.Pdo.{Pdo}
use Rattle.ec_device.specs.Types.{pdo_bits}
use Rattle.ec_device.specs.Objects.{entries_at, assigned_entries, bits_of, bits_at, BitsAssignedAreOfEntries}

bits_found : (o : Option Pdo) → option_map_or pdo_bits o 0 ≡ bits_of (option_map_or (λ (q : Pdo). q.entries) o [])
bits_found None = refl
bits_found (Some q) = refl

pub bits_assigned_law : BitsAssignedAreOfEntries
bits_assigned_law pdos [] = refl
bits_assigned_law pdos (x ∷ xs) =
    sum_by-cons (bits_at pdos) x xs
    ∙ rw (bits_found (find (λ (q : Pdo). q.index == x) pdos), bits_assigned_law pdos xs) refl
    ∙ sym (sum_by-append (λ (e : Entry). e.bits) (entries_at pdos x) (assigned_entries pdos xs))
