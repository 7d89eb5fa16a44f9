-- What differs between a slave that was found and a table's. Of what the table leaves open, nothing differs: a revision, or a serial number
-- of 0.
use Rattle.std.specs.Prelude.{ℕ, ◌+◌, ◌==◌, ◌&&◌, ◌||◌, not, List, [], ◌∷◌, length, Bool, true, false, if◌then◌else◌, Option, Some, nat_lt, slice_get}
use Rattle.ec_device.specs.declared.slave_type.Entry.{Entry}
use Rattle.ec_device.specs.declared.slave_type.Pdo.{Pdo}
use Rattle.ec_device.specs.Hardware.{is_assignable, takes_any_revision}
use Rattle.ec_device.specs.Objects.{pdo_at}
use Rattle.ec_device.specs.Types.{SlaveKind, first_input_index}
use Rattle.ec_table.specs.declared.rows.Direction.TheVariants.{In, Out}
use Rattle.std.specs.List.{list_all, list_any}
use Rattle.std.specs.Str.{bytes_eq}
use Rattle.ec_table.specs.Contents.{Contents}
use Rattle.ec_table.specs.Objects.{kind_of}
use Rattle.ec_table.specs.declared.rows.SlaveRow.{SlaveRow}
use Rattle.ec_found.specs.declared.against.Differences.{Differences}
use Rattle.ec_found.specs.declared.found.Found.{Found}
use Rattle.ec_found.specs.declared.found.Unsaid.{Unsaid}
use Rattle.ec_found.specs.declared.found.Unsaid.TheVariants as unsaid

abbrev pub same_entry : Entry → Entry → Bool
same_entry d e = (d.index == e.index) && ((d.subindex == e.subindex) && (d.bits == e.bits))

abbrev pub same_entries : List Entry → List Entry → Bool
same_entries [] [] = true
same_entries (d ∷ ds) (e ∷ es) = same_entry d e && same_entries ds es
same_entries _ _ = false

-- both are there, with the same entries
abbrev pub same_pdo : Option Pdo → Option Pdo → Bool
same_pdo (Some p) (Some q) = same_entries p.entries q.entries
same_pdo _ _ = false

-- so with each of the PDOs with these indices
abbrev pub same_pdos : List Pdo × List Pdo → List ℕ → Bool
same_pdos pdos is = list_all (λ i. same_pdo (pdo_at pdos.0 i) (pdo_at pdos.1 i)) is

-- two slaves exchange other PDOs, of those that they have, or one with other entries
abbrev pub differ : (pdos : List Pdo × List Pdo) → (assigned : List ℕ × List ℕ) → Bool
differ pdos assigned = not (bytes_eq assigned.0 assigned.1 && same_pdos pdos assigned.0)

-- A start-up assigns the PDOs of a direction by CoE, if the type has any and they can be assigned.
abbrev pub assigns : SlaveKind → List Pdo → Bool
assigns k pdos = is_assignable k.mailbox k.hardware && not (length pdos == 0)

-- what a slave exchanges once it was started up by a row: those that this assigns, or what it does now
abbrev pub started : SlaveKind → List Pdo → (assigned found : List ℕ) → List ℕ
started k pdos assigned found = if assigns k pdos then assigned else found

-- What a table can't say of a slave still is so behind the start-up. (The indices of outputs are below those of inputs.)
abbrev pub stays : SlaveKind → Unsaid → Bool
stays k (unsaid.Pdos Out) = not (assigns k k.outputs)
stays k (unsaid.Pdos In) = not (assigns k k.inputs)
stays k (unsaid.Repeats i) = if nat_lt i first_input_index then not (assigns k k.outputs) else not (assigns k k.inputs)
stays k unsaid.Mailbox = true
stays k unsaid.Managers = true
stays k (unsaid.Spread d) = true
stays k (unsaid.Silent d) = true
stays k (unsaid.Size d) = true

-- the slave of a row, whose type is `k`, and the one that was found in its place
abbrev pub differs : SlaveKind → SlaveRow → Found → Differences
differs k row f = record {
  device = not ((k.device.vendor == f.kind.device.vendor) && (k.device.product == f.kind.device.product));
  revision = not (takes_any_revision k.hardware || (k.device.revision == f.kind.device.revision));
  serial = not ((row.serial == 0) || (row.serial == f.serial));
  outputs = differ (k.outputs, f.kind.outputs) (row.outputs, started k k.outputs row.outputs f.outputs);
  inputs = differ (k.inputs, f.kind.inputs) (row.inputs, started k k.inputs row.inputs f.inputs);
  unsaid = list_any (stays k) f.unsaid;
}

abbrev pub is_none : Differences → Bool
is_none d = not (d.device || (d.revision || (d.serial || (d.outputs || (d.inputs || d.unsaid)))))

-- ---- a whole table

-- nothing differs between the slave of a table at a place and one that was found
abbrev pub is_same_as : Option SlaveRow → Option SlaveKind → Found → Bool
is_same_as (Some row) (Some k) f = is_none (differs k row f)
is_same_as _ _ f = false

abbrev pub is_same : Contents → ℕ → Found → Bool
is_same c place f = is_same_as (slice_get c.slaves place) (kind_of c place) f

-- so with each from a place on
abbrev pub are_same_from : Contents → ℕ → List Found → Bool
are_same_from c place [] = true
are_same_from c place (f ∷ fs) = is_same c place f && are_same_from c (place + 1) fs

-- a table has the slaves that were found, and no others
abbrev pub agrees : Contents → List Found → Bool
agrees c fs = (length c.slaves == length fs) && are_same_from c 0 fs
