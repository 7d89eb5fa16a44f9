-- The keys of the tables in a document, in the order in which their values are read.
use Rattle.std.specs.Prelude.{ℕ, Bool, true, false, not, List, [], ◌∷◌, map, codes, get_or, Option, None, is_some, position, if◌then◌else◌}
use Rattle.std.specs.Borrow.{Bor}
use Rattle.std.specs.Str.{bytes_eq}
use Rattle.ec_device.specs.Types.{first_output_index, first_input_index}
use Rattle.ec_table.specs.Fields.{full_format}
use Rattle.ec_table.specs.Pdos.{last_output_index, last_input_index}
use Rattle.ec_table.specs.declared.keys.Rule.{Rule}
use Rattle.ec_table.specs.declared.keys.Rule.TheVariants.{Tables, Name, Number, Mailbox, Manager, Parameters, Indices, Pdos, Index, Entries, Direction, LinkBits, Truth}
use Rattle.ec_table.specs.declared.keys.Shape.{Shape}
use Rattle.ec_table.specs.declared.keys.Shape.TheVariants as shape
use Rattle.ec_table.specs.declared.rows.Format.{Format}
use Rattle.ec_table.specs.declared.rows.Version.{Version}
use Rattle.ec_table.specs.declared.rows.Version.TheVariants as versions

-- a key: its name, what it takes, and whether a table must have it
abbrev pub KeyRow : Type 0
KeyRow = List ℕ × Rule × Bool

abbrev pub key_row : Bor (List ℕ) × Rule × Bool → KeyRow
key_row k = (k.0.now, k.1, k.2)

-- the sync unit of a slave, a key since version 2, and the keys behind it
abbrev pub unit_key : Version → List KeyRow → List KeyRow
unit_key versions.One keys = keys
unit_key versions.Two keys = (codes "unit", Number 0 63, false) ∷ keys

-- the downloads to a slave, a key of a table for hardware
abbrev pub init_key : Bool → List KeyRow
init_key false = []
init_key true = (codes "init", Parameters, false) ∷ []

-- what a type says of real devices, keys of a table for hardware
abbrev pub hardware_keys : Bool → List KeyRow
hardware_keys false = []
hardware_keys true =
    (codes "out_manager", Manager, false)
    ∷ (codes "in_manager", Manager, false)
    ∷ (codes "firmware", Truth, false)
    ∷ (codes "fixed", Truth, false)
    ∷ (codes "init", Parameters, false)
    ∷ (codes "slow", Number 0 100, false)
    ∷ (codes "emergency", Truth, false)
    ∷ (codes "fmmus", Number 2 4, false)
    ∷ []

-- the sign of a variable, a key of a table for hardware
abbrev pub signed_key : Bool → List KeyRow
signed_key false = []
signed_key true = (codes "signed", Truth, false) ∷ []

-- the keys that a table of a shape may have
abbrev pub keys_of : Shape → Format → List KeyRow
keys_of shape.Document f =
    (codes "version", Number 1 2, false)
    ∷ (codes "hardware", Truth, false)
    ∷ (codes "type", Tables, false)
    ∷ (codes "slave", Tables, false)
    ∷ (codes "variable", Tables, false)
    ∷ (codes "link", Tables, false)
    ∷ []
keys_of shape.Type f =
    (codes "name", Name, true)
    ∷ (codes "vendor", Number 0 4294967295, true)
    ∷ (codes "product", Number 0 4294967295, true)
    ∷ (codes "revision", Number 0 4294967295, not f.hardware)
    ∷ (codes "mailbox", Mailbox, false)
    ∷ (codes "out_start", Number 0 65535, not f.hardware)
    ∷ (codes "in_start", Number 0 65535, not f.hardware)
    ∷ (codes "rxpdo", Pdos first_output_index last_output_index, false)
    ∷ (codes "txpdo", Pdos first_input_index last_input_index, false)
    ∷ (codes "lrw", Truth, false)
    ∷ hardware_keys f.hardware
keys_of shape.Pdo f =
    (codes "index", Index, true)
    ∷ (codes "entries", Entries, true)
    ∷ []
keys_of shape.Slave f =
    (codes "name", Name, true)
    ∷ (codes "type", Name, true)
    ∷ (codes "out", Indices first_output_index last_output_index, false)
    ∷ (codes "in", Indices first_input_index last_input_index, false)
    ∷ (codes "serial", Number 0 4294967295, false)
    ∷ unit_key f.version (init_key f.hardware)
keys_of shape.Variable f =
    (codes "name", Name, true)
    ∷ (codes "dir", Direction, true)
    ∷ (codes "bits", Number 1 64, true)
    ∷ signed_key f.hardware
keys_of shape.Link f =
    (codes "var", Name, true)
    ∷ (codes "slave", Name, true)
    ∷ (codes "index", Number 1 65535, true)
    ∷ (codes "sub", Number 0 255, true)
    ∷ (codes "bits", LinkBits, false)
    ∷ []

abbrev pub names_of : Shape → Format → List (List ℕ)
names_of s f = map (λ k. k.0) (keys_of s f)

-- the place of a name among all keys of a shape, if it is a key in this format
abbrev pub place_in : Shape → Format → List ℕ → Option ℕ
place_in s f name = if is_some (position (bytes_eq name) (names_of s f)) then position (bytes_eq name) (names_of s full_format) else None

-- what the key at a place takes; behind the last key `Tables`
abbrev pub rule_at : Shape → ℕ → Rule
rule_at s place = get_or (map (λ k. k.1) (keys_of s full_format)) place Tables

-- the range of the number that a key takes
abbrev pub number_range : Rule → ℕ × ℕ
number_range (Number low high) = (low, high)
number_range _ = (0, 0)

-- the range of the PDO indices that a key takes
abbrev pub index_range : Rule → ℕ × ℕ
index_range (Indices first last) = (first, last)
index_range (Pdos first last) = (first, last)
index_range _ = (0, 0)
