-- Which type a slave is, by what it shows, and what a table can't say of it (ETG.1000.6, "Slave information interface area", "Sync manager
-- PDO assignment"). Where the SII and CoE differ, CoE decides.
use Rattle.std.specs.Prelude.{◌≡◌, ℕ, ◌+◌, ◌/◌, ◌%◌, ◌==◌, ◌&&◌, ◌||◌, not, List, [], ◌∷◌, ◌++◌, length, map, filter, find, Bool, true, false, nat_le, nat_lt, if◌then◌else◌, slice_index, Option, Some, None, is_some, is_none, unwrap_or}
use Rattle.std.specs.Int.{bit_at}
use Rattle.std.specs.List.{list_all, list_any}
use Rattle.ec_bits.specs.Bits.{bytes_of_bits}
use Rattle.ec_device.specs.declared.slave_type.Entry.{Entry}
use Rattle.ec_device.specs.declared.slave_type.Pdo.{Pdo}
use Rattle.ec_device.specs.declared.slave_type.Mailbox.{Mailbox}
use Rattle.ec_device.specs.declared.hardware.Hardware.{Hardware}
use Rattle.ec_device.specs.declared.hardware.ProcessManager.{ProcessManager}
use Rattle.ec_device.specs.Hardware.{are_pins, other_name}
use Rattle.ec_device.specs.Objects.{assigned_entries, pdo_at}
use Rattle.ec_device.specs.Types.{SlaveKind, device_of, first_input_index, first_output_index, pdos_bits}
use Rattle.ec_link.specs.Entries.{names_twice}
use Rattle.ec_table.specs.declared.rows.Direction.{Direction}
use Rattle.ec_table.specs.declared.rows.Direction.TheVariants.{In, Out}
use Rattle.ec_sii.specs.Reading.{bytes_of, category_found, managers_read, pdos_read, ReadPdo}
use Rattle.ec_scan.specs.declared.shown.Shown.{Shown}
use Rattle.ec_scan.specs.Showing.{usable}
use Rattle.ec_found.specs.declared.areas.Areas.{Areas}
use Rattle.ec_found.specs.declared.reading.UsedManager.{UsedManager}
use Rattle.ec_found.specs.declared.found.Gaps.{Gaps}
use Rattle.ec_found.specs.declared.found.Unsaid.{Unsaid}
use Rattle.ec_found.specs.declared.found.Unsaid.TheVariants as unsaid
use Rattle.ec_found.specs.declared.found.Found.{Found}

-- ---- categories

-- the words of a category, none if it isn't there
abbrev pub words_of : ℕ → Shown → List ℕ
words_of number s = unwrap_or (category_found number s.categories) []

-- a byte of words, 0 behind them
abbrev pub byte_in : List ℕ → ℕ → ℕ
byte_in words k = slice_index (bytes_of words) k

-- ---- the general category
-- Its byte 11, bit 1 says that the slave takes no part in LRW; byte 5, bit 2 says that its PDO assignment can be written, if CoE has it.

abbrev pub has_lrw : Shown → Bool
has_lrw s = not (bit_at (byte_in (words_of 30 s) 11) 1 == 1)

abbrev pub is_fixed : Shown → Bool
is_fixed s = is_some (usable s.mailbox) && (is_some (category_found 30 s.categories) && not (bit_at (byte_in (words_of 30 s) 5) 2 == 1))

-- ---- the directions of the process data

-- the first index of their PDOs
abbrev pub first_of : Direction → ℕ
first_of Out = first_output_index
first_of In = first_input_index

-- the category of their PDOs: TxPDOs are inputs, RxPDOs outputs
abbrev pub category_of : Direction → ℕ
category_of Out = 51
category_of In = 50

-- what their sync managers are used for
abbrev pub usage_of : Direction → ℕ
usage_of Out = 3
usage_of In = 4

-- the PDOs that CoE says are exchanged, if it says so
abbrev pub said_by : Direction → Shown → Option (List Pdo)
said_by Out s = s.outputs
said_by In s = s.inputs

-- ---- sync managers

-- what a sync manager is used for, where its bytes begin, how many they are, and its control byte
pub record ShownManager : Type 0 where
  pub usage : ℕ
  pub start : ℕ
  pub long : ℕ
  pub control : ℕ

abbrev pub managers_in : List ℕ → List ShownManager
managers_in words = map (λ m. record { usage = m.usage; start = m.settings.start; long = m.settings.length; control = m.settings.control }) (managers_read words)

-- the first that has a use, of at most 16
abbrev pub used_from : (usage number : ℕ) → List ShownManager → Option UsedManager
used_from usage number [] = None
used_from usage number (m ∷ ms) =
    if nat_le 16 number then None
    else (if m.usage == usage then Some (record { number = number; start = m.start; long = m.long; control = m.control })
    else used_from usage (number + 1) ms)

-- one more with the use, behind the first, has a length
abbrev pub has_second : (is_behind : Bool) → ℕ → List ShownManager → Bool
has_second is_behind usage [] = false
has_second is_behind usage (m ∷ ms) =
    (is_behind && ((m.usage == usage) && not (m.long == 0))) || has_second (is_behind || (m.usage == usage)) usage ms

abbrev pub used_for : ℕ → Shown → Option UsedManager
used_for usage s = used_from usage 0 (managers_in (words_of 41 s))

-- a direction without process data has one that nobody uses: 2 for outputs and 3 for inputs, or the other if that is taken
abbrev pub manager_at : (start number control : ℕ) → UsedManager
manager_at start number control = record { number = number; start = start; long = 0; control = control }

abbrev pub unused : ℕ → ℕ → UsedManager
unused number control = manager_at 0 number control

abbrev pub out_used : Option UsedManager → Option UsedManager → UsedManager
out_used (Some m) inputs = m
out_used None None = unused 2 0x24
out_used None (Some m) = if m.number == 2 then unused 3 0x24 else unused 2 0x24

abbrev pub in_used : Option UsedManager → Option UsedManager → UsedManager
in_used outputs (Some m) = m
in_used None None = unused 3 0x20
in_used (Some m) None = if m.number == 3 then unused 2 0x20 else unused 3 0x20

abbrev pub manager_of : Direction → Shown → UsedManager
manager_of Out s = out_used (used_for 3 s) (used_for 4 s)
manager_of In s = in_used (used_for 3 s) (used_for 4 s)

abbrev pub process_manager : UsedManager → ProcessManager
process_manager m = record { number = m.number; control = m.control }

abbrev pub hardware_with : (outs ins : UsedManager) → (has_firmware is_fixed : Bool) → Hardware
hardware_with outs ins has_firmware is_fixed = record {
  out_manager = process_manager outs;
  in_manager = process_manager ins;
  has_pins = are_pins outs.start;
  has_firmware = has_firmware;
  is_fixed = is_fixed;
  slow = 0;
  has_emergency = false;
  fmmus = 4;
  any_revision = false;
}

abbrev pub areas_with : (outs ins : UsedManager) → (has_firmware is_fixed : Bool) → Areas
areas_with outs ins has_firmware is_fixed = record { out_start = outs.start; in_start = ins.start; hardware = hardware_with outs ins has_firmware is_fixed }

-- as it shows them
abbrev pub areas_shown : Shown → Areas
areas_shown s = areas_with (manager_of Out s) (manager_of In s) s.has_firmware (is_fixed s)

-- where they are, by the usual managers: of a slave whose own a table can't say
abbrev pub usual_areas : Areas → Areas
usual_areas a = areas_with (manager_at a.out_start 2 0x24) (manager_at a.in_start 3 0x20) true a.hardware.is_fixed

-- a table can say it: two different managers of the first four, in the modes of their directions; a mailbox has the first two, and firmware
abbrev pub is_hardware : Option Mailbox → Hardware → Bool
is_hardware mailbox h =
    (nat_le h.out_manager.number 3 && nat_le h.in_manager.number 3)
    && (not (h.out_manager.number == h.in_manager.number)
    && (((h.out_manager.control % 16 == 4) && (h.in_manager.control % 16 == 0))
    && (is_none mailbox || (nat_le 2 h.out_manager.number && (nat_le 2 h.in_manager.number && h.has_firmware)))))

abbrev pub areas_of : Shown → Areas
areas_of s = if is_hardware (usable s.mailbox) (areas_shown s).hardware then areas_shown s else usual_areas (areas_shown s)

-- ---- PDOs

-- an entry without bits is left out, and a gap has no subindex
abbrev pub plain_entry : Entry → Entry
plain_entry e = if e.index == 0 then record e { subindex = 0 } else e

abbrev pub plain_entries : List Entry → List Entry
plain_entries es = map plain_entry (filter (λ (e : Entry). not (e.bits == 0)) es)

abbrev pub plain_pdo : Pdo → Pdo
plain_pdo p = record p { entries = plain_entries p.entries }

-- the entries in words, four each
abbrev pub entries_of : List ℕ → List Entry
entries_of (index ∷ subindex ∷ bits ∷ flags ∷ words) = record { index = index; subindex = subindex % 256; bits = bits / 256 } ∷ entries_of words
entries_of _ = []

-- Those in the words of a category: all of them, or those that the slave exchanges as delivered by a sync manager
abbrev pub pdos_in : (all : Bool) → (manager : ℕ) → List ℕ → List Pdo
pdos_in all manager words = map (λ (r : ReadPdo). plain_pdo r.pdo) (filter (λ (r : ReadPdo). all || (r.manager == manager)) (pdos_read words))

-- one that it exchanges by another. (A controller has at most 16; 0xFF is none.)
abbrev pub is_stray : (manager : ℕ) → ReadPdo → Bool
is_stray manager r = nat_lt r.manager 16 && not (r.manager == manager)

abbrev pub has_stray : (manager : ℕ) → List ℕ → Bool
has_stray manager words = list_any (is_stray manager) (pdos_read words)

abbrev pub has_index : List Pdo → ℕ → Bool
has_index ps index = is_some (pdo_at ps index)

-- those that aren't among others; one without an index is an empty slot of an assignment
abbrev pub others : List Pdo → (known : List Pdo) → List Pdo
others ps known = filter (λ (p : Pdo). not (p.index == 0) && not (has_index known p.index)) ps

-- those of the SII, each with the mapping that CoE has of it; and behind them those that CoE has besides
abbrev pub joined : List Pdo → List Pdo → List Pdo
joined ps qs = map (λ (p : Pdo). unwrap_or (pdo_at qs p.index) p) ps ++ others qs ps

-- the same PDOs, but those that CoE has come first
abbrev pub exchanged_first : List Pdo → List Pdo → List Pdo
exchanged_first ps qs = others qs [] ++ others ps qs

-- All PDOs in the order of the SII; if they are more than a table takes, those that are exchanged come first. If the assignment is fixed,
-- the slave exchanges no others, and a table can't say an empty slot.
abbrev pub merged : (fixed : Bool) → List Pdo → Option (List Pdo) → List Pdo
merged fixed ps None = ps
merged fixed ps (Some qs) = if fixed then qs else (if nat_le (length (joined ps qs)) 16 then joined ps qs else exchanged_first ps qs)

-- a table takes a PDO: it is within the limits, and fewer than 16 others, each with another index, stand before it
abbrev pub is_entry : Entry → Bool
is_entry e = (nat_le 1 e.bits && nat_le e.bits 64) && (not (e.index == 0) || (e.subindex == 0))

abbrev pub is_pdo : ℕ → Pdo → Bool
is_pdo first p = (nat_le first p.index && nat_lt p.index (first + 512)) && (nat_le (length p.entries) 64 && list_all is_entry p.entries)

abbrev pub takes : ℕ → List Pdo → Pdo → Bool
takes first found p = nat_lt (length found) 16 && (is_pdo first p && not (has_index found p.index))

abbrev pub kept_behind : ℕ → List Pdo → List Pdo → List Pdo
kept_behind first found [] = found
kept_behind first found (p ∷ ps) = if takes first found p then kept_behind first (found ++ p ∷ []) ps else kept_behind first found ps

abbrev pub kept : ℕ → List Pdo → List Pdo
kept first ps = kept_behind first [] ps

abbrev pub indices : List Pdo → List ℕ
indices ps = map (λ (p : Pdo). p.index) ps

-- which of its type's PDOs a slave exchanges: all, unless CoE says which
abbrev pub exchanged_of : ℕ → List Pdo → Option (List Pdo) → List ℕ
exchanged_of first ps None = indices ps
exchanged_of first ps (Some qs) = filter (has_index ps) (indices (kept first qs))

-- Those of PDOs, by their indices, that a table can assign together, in order: a PDO is left out if it has an entry, no gap, that one before
-- it has, or one twice. (A table that assigns an entry twice has no plan.)
abbrev pub together_behind : List Pdo → (found rest : List ℕ) → List ℕ
together_behind ps found [] = found
together_behind ps found (i ∷ is) =
    if names_twice (assigned_entries ps (found ++ i ∷ [])) then together_behind ps found is else together_behind ps (found ++ i ∷ []) is

abbrev pub together : List Pdo → List ℕ → List ℕ
together ps is = together_behind ps [] is

abbrev pub assigned_of : ℕ → List Pdo → Option (List Pdo) → List ℕ
assigned_of first ps exchanged = together ps (exchanged_of first ps exchanged)

-- the first that is left out
abbrev pub has : List ℕ → ℕ → Bool
has is i = list_any (λ j. j == i) is

abbrev pub left_out : ℕ → List Pdo → Option (List Pdo) → Option ℕ
left_out first ps exchanged = find (λ i. not (has (assigned_of first ps exchanged) i)) (exchanged_of first ps exchanged)

-- those in front of the first that a table doesn't take, or can't assign beside those before it
abbrev pub front_behind : ℕ → (all found rest : List Pdo) → List Pdo
front_behind first all found [] = found
front_behind first all found (p ∷ ps) =
    if takes first found p && not (names_twice (assigned_entries all (indices found ++ p.index ∷ []))) then front_behind first all (found ++ p ∷ []) ps else found

abbrev pub front : ℕ → List Pdo → List Pdo
front first all = front_behind first all [] all

-- A type lists all of its PDOs that a table takes if a table says which of them a slave exchanges. Else its slaves exchange all that it lists,
-- byte behind byte: where one is left out, those behind it are, too.
abbrev pub listed : (assignable : Bool) → ℕ → List Pdo → List Pdo
listed true first all = kept first all
listed false first all = front first all

-- If CoE doesn't say which are exchanged, they are those that are as delivered, by the manager of the direction.
abbrev pub all_pdos : Direction → Shown → List Pdo
all_pdos d s = merged (is_fixed s) (pdos_in (is_some (said_by d s)) (manager_of d s).number (words_of (category_of d) s)) (said_by d s)

-- a table says which PDOs it exchanges: by CoE it takes them, and its assignment can be written
abbrev pub is_assignable : Shown → Bool
is_assignable s = is_some (usable s.mailbox) && not (is_fixed s)

abbrev pub listed_of : Direction → Shown → List Pdo
listed_of d s = listed (is_assignable s) (first_of d) (all_pdos d s)

-- ---- the type

abbrev pub kind_of : Shown → SlaveKind
kind_of s = record {
  device = device_of s.identity;
  mailbox = usable s.mailbox;
  out_start = other_name (Some (areas_of s).hardware) (areas_of s).out_start;
  in_start = (areas_of s).in_start;
  outputs = listed_of Out s;
  inputs = listed_of In s;
  lrw = has_lrw s;
  face = None;
  hardware = Some (areas_of s).hardware;
  init = [];
}

-- ---- what a table can't say of a direction

-- A second sync manager moves a part of it. (Where CoE says which PDOs are exchanged, what the SII says of their managers doesn't count.)
abbrev pub is_spread : Direction → Shown → Bool
is_spread d s =
    has_second false (usage_of d) (managers_in (words_of 41 s))
    || (not (is_some (said_by d s)) && has_stray (manager_of d s).number (words_of (category_of d) s))

-- A start-up reads or writes by CoE which PDOs are exchanged, and the slave has no object for that.
abbrev pub is_silent : Direction → Shown → Bool
is_silent d s = is_some (usable s.mailbox) && (not (is_some (said_by d s)) && not (length (all_pdos d s) == 0))

-- a table doesn't take all PDOs
abbrev pub lacks : ℕ → List Pdo → Bool
lacks first ps = nat_lt (length (kept first ps)) (length ps)

abbrev pub gaps_of : Direction → Shown → Gaps
gaps_of d s = record {
  is_spread = is_spread d s;
  is_silent = is_silent d s;
  lacks = lacks (first_of d) (all_pdos d s);
  left_out = left_out (first_of d) (kept (first_of d) (all_pdos d s)) (said_by d s);
}

-- The sync manager of a direction has another length, unless that is 0, than all of the PDOs, in bytes. (Of what CoE says a start-up finds
-- out itself.)
abbrev pub is_whole : Gaps → Bool
is_whole g = not g.lacks && is_none g.left_out

abbrev pub has_other_size : Direction → Shown → Bool
has_other_size d s =
    not (is_some (said_by d s))
    && (is_whole (gaps_of d s) && (not ((manager_of d s).long == 0) && not ((manager_of d s).long == bytes_of_bits (pdos_bits (listed_of d s)))))

-- ---- what a table can't say of a slave: its mailbox, its sync managers, and so on of each direction

-- there are mailboxes that it can't say
abbrev pub has_unusable : Shown → Bool
has_unusable s = not (s.mailbox.place.receive_size == 0) && is_none (usable s.mailbox)

-- one thing more, if it is so
abbrev pub noted : List Unsaid → Bool → Unsaid → List Unsaid
noted us is_so u = if is_so then us ++ u ∷ [] else us

-- a PDO that can't be assigned beside others
abbrev pub repeated : List Unsaid → Option ℕ → List Unsaid
repeated us None = us
repeated us (Some i) = us ++ unsaid.Repeats i ∷ []

abbrev pub gaps_noted : List Unsaid → Direction → Gaps → (other_size : Bool) → List Unsaid
gaps_noted us d g other_size =
    repeated (noted (noted (noted (noted us g.is_spread (unsaid.Spread d)) g.is_silent (unsaid.Silent d)) g.lacks (unsaid.Pdos d)) other_size (unsaid.Size d)) g.left_out

abbrev pub unsaid_of : Shown → List Unsaid
unsaid_of s =
    let mailbox = noted [] (has_unusable s) unsaid.Mailbox in
    let managers = noted mailbox (not (is_hardware (usable s.mailbox) (areas_shown s).hardware)) unsaid.Managers in
    gaps_noted (gaps_noted managers Out (gaps_of Out s) (has_other_size Out s)) In (gaps_of In s) (has_other_size In s)

-- what is found of a slave
pub record IsFound (s : Shown) (f : Found) : Type 0 where
  pub kind : f.kind ≡ kind_of s
  pub serial : f.serial ≡ s.identity.serial
  pub outputs : f.outputs ≡ assigned_of first_output_index (kind_of s).outputs s.outputs
  pub inputs : f.inputs ≡ assigned_of first_input_index (kind_of s).inputs s.inputs
  pub unsaid : f.unsaid ≡ unsaid_of s
