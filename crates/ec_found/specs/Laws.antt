-- The slaves of a table are found as its types, and a table of slaves that were found assigns no entry twice.
use Rattle.std.specs.Prelude.{◌≡◌, ◌≢◌, ◌==◌, ℕ, zero, suc, List, [], ◌++◌, ◌∷◌, All, Contains, Bool, false, true, if◌then◌else◌, Some, None, is_some, slice_get}
use Rattle.std.specs.Option.{ForSome}
use Rattle.ec_device.specs.declared.slave_type.Face.{Face}
use Rattle.ec_device.specs.declared.slave_type.Mailbox.{Mailbox}
use Rattle.ec_device.specs.Hardware.{are_pins, usual_inputs, usual_outputs}
use Rattle.ec_device.specs.Objects.{assigned_entries}
use Rattle.ec_device.specs.Types.{SlaveKind, device_of, first_input_index, first_output_index}
use Rattle.ec_table.specs.declared.rows.SlaveRow.{SlaveRow}
use Rattle.ec_table.specs.Contents.{Contents}
use Rattle.ec_table.specs.Objects.{kind_of as kind_in}
use Rattle.ec_table.specs.Sound.{IsSound}
use Rattle.ec_link.specs.Entries.{names_twice}
use Rattle.ec_link.specs.Faults.{compile_fault}
use Rattle.ec_sii.specs.Laws.{FitsKind}
use Rattle.ec_sii.specs.Reading.{area_read}
use Rattle.ec_sii.specs.SiiImage.{image_of}
use Rattle.ec_scan.specs.declared.shown.Shown.{Shown}
use Rattle.ec_scan.specs.Showing.{IsUsable}
use Rattle.ec_found.specs.declared.found.Found.{Found}
use Rattle.ec_found.specs.Founds.{IsFound, exchanged_of, kind_of, unsaid_of}

-- A type as a table with `hardware` has it: the usual managers, firmware, an assignment that can be written, and four FMMUs. Parameters
-- aren't shown; a table without `hardware` has none.
abbrev pub as_hardware : SlaveKind → SlaveKind
as_hardware k = record k {
  face = None;
  hardware = Some (record {
    out_manager = usual_outputs;
    in_manager = usual_inputs;
    has_pins = false;
    has_firmware = true;
    is_fixed = false;
    slow = 0;
    has_emergency = false;
    fmmus = 4;
    any_revision = false;
  });
  init = [];
}

-- words reach the end mark: first so many are passed over
abbrev pub is_ended : (passed : ℕ) → List ℕ → Bool
is_ended zero (number ∷ count ∷ words) = if number == 0xFFFF then true else is_ended count words
is_ended (suc passed) (word ∷ words) = is_ended passed words
is_ended _ _ = false

-- What a full slave of a type shows: by CoE it says the PDOs of its type that it exchanges, or nothing.
pub record ShowsType (k : SlaveKind) (s : Shown) : Type 0 where
  pub identity : device_of s.identity ≡ k.device
  pub mailbox : (m : Mailbox) → k.mailbox ≡ Some m → (s.mailbox.place ≡ m) × (s.mailbox.protocols ≡ 4)
  pub no_mailbox : k.mailbox ≡ None → s.mailbox.place.receive_size ≡ 0
  pub firmware : s.has_firmware ≡ true
  -- the words from 0x40 on, as far as the end mark
  pub categories : (rest : List ℕ) × (s.categories ++ rest ≡ area_read (image_of k s.identity))
  pub ended : is_ended 0 s.categories ≡ true
  pub outputs : ForSome s.outputs (All (Contains k.outputs))
  pub inputs : ForSome s.inputs (All (Contains k.inputs))

-- A slave of a table that was read and has a plan: its row and its type.
pub record IsSlaveOf (c : Contents) (place : ℕ) (row : SlaveRow) (k : SlaveKind) : Type 0 where
  pub sound : IsSound c
  pub planned : compile_fault c ≡ None
  pub there : slice_get c.slaves place ≡ Some row
  pub kind : kind_in c place ≡ Some k

-- what a slave exchanges of its type has no entry twice
pub record ExchangesOnce (k : SlaveKind) (s : Shown) : Type 0 where
  pub outputs : names_twice (assigned_entries k.outputs (exchanged_of first_output_index k.outputs s.outputs)) ≡ false
  pub inputs : names_twice (assigned_entries k.inputs (exchanged_of first_input_index k.inputs s.inputs)) ≡ false

-- if it has a mailbox, it says by CoE which PDOs of a direction it exchanges, unless it has none
pub record SaysExchanged (k : SlaveKind) (s : Shown) : Type 0 where
  pub outputs : (m : Mailbox) → k.mailbox ≡ Some m → k.outputs ≢ [] → is_some s.outputs ≡ true
  pub inputs : (m : Mailbox) → k.mailbox ≡ Some m → k.inputs ≢ [] → is_some s.inputs ≡ true

-- It is found as its type, and a table can say all of it if it exchanges no entry twice. (Its mailboxes lie in the RAM, and its outputs are no
-- pins, as in each table that has a plan.)
abbrev pub FullTypesAreFound : Type 0
FullTypesAreFound =
    (c : Contents) (place : ℕ) (row : SlaveRow) (k : SlaveKind) (face : Face) (s : Shown) → IsSlaveOf c place row k → FitsKind k → k.face ≡ Some face → k.hardware ≡ None
    → ForSome k.mailbox IsUsable → are_pins k.out_start ≡ false → ShowsType k s
    → (kind_of s ≡ as_hardware k) × (ExchangesOnce k s → SaysExchanged k s → unsaid_of s ≡ [])

-- It exchanges none twice if it exchanges what its row assigns: so it is behind a start-up.
abbrev pub RowsExchangeOnce : Type 0
RowsExchangeOnce =
    (c : Contents) (place : ℕ) (row : SlaveRow) (k : SlaveKind) (s : Shown) → IsSlaveOf c place row k
    → exchanged_of first_output_index k.outputs s.outputs ≡ row.outputs → exchanged_of first_input_index k.inputs s.inputs ≡ row.inputs
    → ExchangesOnce k s

-- Whatever a slave shows, a table assigns no entry of it twice: so a scan doesn't end with 20.
abbrev pub FoundAssignsOnce : Type 0
FoundAssignsOnce =
    (s : Shown) (f : Found) → IsFound s f
    → (names_twice (assigned_entries f.kind.outputs f.outputs) ≡ false) × (names_twice (assigned_entries f.kind.inputs f.inputs) ≡ false)
