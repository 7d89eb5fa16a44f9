-- The values under the keys of one table.
use Rattle.std.specs.Prelude.{ℕ, ℤ, pos, Bool, true, false, ◌&&◌, ◌||◌, ◌==◌, nat_le, if◌then◌else◌, List, [], ◌∷◌, length, codes, not, Option, Some, None, option_map, option_and_then, is_some, Result, Ok, Err, Vec}
use Rattle.std.specs.List.{list_all, list_any}
use Rattle.std.specs.Option.{ok_or}
use Rattle.std.specs.Char.{is_ascii_alphanumeric}
use Rattle.std.specs.Str.{bytes_eq}
use Rattle.std.specs.Borrow.{Bor}
use Rattle.std.specs.declared.alloc.Global.{Global}
use Rattle.toml.specs.Data.{Data, Members, no_members, member, no_items, item, Items, table, at, get_member, as_integer, as_str, as_bool, as_array}
use Rattle.toml.specs.View.{view, items_view}
use Rattle.toml.specs.declared.value.Value.{Value}
use Rattle.ec_table.specs.declared.fault.Fault.{Fault}
use Rattle.ec_table.specs.declared.fault.Fault.TheVariants.{BadValue}
use Rattle.ec_table.specs.declared.fault.Position.{Position}
use Rattle.ec_table.specs.declared.rows.Direction.{Direction}
use Rattle.ec_table.specs.declared.rows.Direction.TheVariants.{Out, In}
use Rattle.ec_device.specs.declared.slave_type.Mailbox.{Mailbox}
use Rattle.ec_device.specs.declared.hardware.ProcessManager.{ProcessManager}
use Rattle.ec_table.specs.declared.rows.Format.{Format}
use Rattle.ec_table.specs.declared.rows.Version.{Version}
use Rattle.ec_table.specs.declared.rows.Version.TheVariants as versions
use Rattle.ec_table.specs.declared.rows.LinkBits.{LinkBits}
use Rattle.ec_table.specs.declared.keys.Shape.{Shape}
use Rattle.ec_table.specs.declared.keys.Shape.TheVariants as shape

-- a letter, a digit or `_`
abbrev pub is_name_byte : ℕ → Bool
is_name_byte b = is_ascii_alphanumeric b || (b == 95)

-- 1 to 32 of them
abbrev pub is_name : List ℕ → Bool
is_name s = (nat_le 1 (length s) && nat_le (length s) 32) && list_all is_name_byte s

-- the value behind a reference
abbrev pub viewed : Option (Bor Value) → Option Data
viewed o = option_map (λ v. view v.now) o

-- the format that has every key
abbrev pub full_format : Format
full_format = record { version = versions.Two; hardware = true }

-- the keys that a type must have; one for hardware may leave out its revision and its starts
abbrev pub required_of_type : (hardware : Bool) → List (List ℕ)
required_of_type false = codes "in_start" ∷ codes "name" ∷ codes "out_start" ∷ codes "product" ∷ codes "revision" ∷ codes "vendor" ∷ []
required_of_type true = codes "name" ∷ codes "product" ∷ codes "vendor" ∷ []

-- the keys that a table of a shape must have
abbrev pub required : Shape → Format → List (List ℕ)
required shape.Document f = []
required shape.Type f = required_of_type f.hardware
required shape.Pdo f = codes "entries" ∷ codes "index" ∷ []
required shape.Slave f = codes "name" ∷ codes "type" ∷ []
required shape.Variable f = codes "bits" ∷ codes "dir" ∷ codes "name" ∷ []
required shape.Link f = codes "index" ∷ codes "slave" ∷ codes "sub" ∷ codes "var" ∷ []

-- the keys that a type may have besides
abbrev pub optional_of_type : (hardware : Bool) → List (List ℕ)
optional_of_type false = codes "lrw" ∷ codes "mailbox" ∷ codes "rxpdo" ∷ codes "txpdo" ∷ []
optional_of_type true =
    codes "emergency" ∷ codes "firmware" ∷ codes "fixed" ∷ codes "fmmus" ∷ codes "in_manager" ∷ codes "in_start" ∷ codes "init" ∷ codes "lrw"
    ∷ codes "mailbox" ∷ codes "out_manager" ∷ codes "out_start" ∷ codes "revision" ∷ codes "rxpdo" ∷ codes "slow" ∷ codes "txpdo" ∷ []

-- the keys that a slave may have besides: a sync unit since version 2, and downloads in a table for hardware
abbrev pub optional_of_slave : Version → (hardware : Bool) → List (List ℕ)
optional_of_slave versions.One false = codes "in" ∷ codes "out" ∷ codes "serial" ∷ []
optional_of_slave versions.Two false = codes "in" ∷ codes "out" ∷ codes "serial" ∷ codes "unit" ∷ []
optional_of_slave versions.One true = codes "in" ∷ codes "init" ∷ codes "out" ∷ codes "serial" ∷ []
optional_of_slave versions.Two true = codes "in" ∷ codes "init" ∷ codes "out" ∷ codes "serial" ∷ codes "unit" ∷ []

-- the key that a variable may have besides
abbrev pub optional_of_variable : (hardware : Bool) → List (List ℕ)
optional_of_variable false = []
optional_of_variable true = codes "signed" ∷ []

-- the keys that a table of a shape may have besides
abbrev pub optional : Shape → Format → List (List ℕ)
optional shape.Document f = codes "hardware" ∷ codes "link" ∷ codes "slave" ∷ codes "type" ∷ codes "variable" ∷ codes "version" ∷ []
optional shape.Type f = optional_of_type f.hardware
optional shape.Pdo f = []
optional shape.Slave f = optional_of_slave f.version f.hardware
optional shape.Variable f = optional_of_variable f.hardware
optional shape.Link f = codes "bits" ∷ []

abbrev pub is_key : Shape → Format → List ℕ → Bool
is_key s f key = list_any (bytes_eq key) (required s f) || list_any (bytes_eq key) (optional s f)

abbrev pub has_required : Shape → Format → Members → Bool
has_required s f ms = list_all (λ key. is_some (get_member key ms)) (required s f)

-- each key passes a test
abbrev pub each_key : (List ℕ → Bool) → Members → Bool
each_key test no_members = true
each_key test (member key d ms) = test key && each_key test ms

-- no unknown key, and none missing
abbrev pub keys_are : Shape → Format → Members → Bool
keys_are s f ms = each_key (is_key s f) ms && has_required s f ms

abbrev pub in_range : ℕ → ℕ → ℤ → Bool
in_range low high (pos n) = nat_le low n && nat_le n high
in_range low high _ = false

abbrev pub magnitude : ℤ → ℕ
magnitude (pos n) = n
magnitude _ = 0

infixl 10 ◌>>=◌
abbrev pub ◌>>=◌ : {A B : Type 0} → Result A Fault → (A → Result B Fault) → Result B Fault
(Ok x) >>= f = f x
(Err e) >>= f = Err e

-- a whole number from low to high
unfoldable pub number_in : Position → ℕ → ℕ → Option Data → Result ℕ Fault
number_in p low high value = do
  z ← ok_or (option_and_then as_integer value) (BadValue p)
  if in_range low high z then Ok (magnitude z) else Err (BadValue p)

-- a name
unfoldable pub name_in : Position → Option Data → Result (List ℕ) Fault
name_in p value = do
  s ← ok_or (option_and_then as_str value) (BadValue p)
  if is_name s then Ok s else Err (BadValue p)

-- a direction, out or in
unfoldable pub direction_in : Position → Option Data → Result Direction Fault
direction_in p value = do
  s ← ok_or (option_and_then as_str value) (BadValue p)
  if bytes_eq s (codes "out") then Ok Out else if bytes_eq s (codes "in") then Ok In else Err (BadValue p)

-- the version of the format, 1 if it is left out
unfoldable pub version_in : Position → Option Data → Result Version Fault
version_in p None = Ok versions.One
version_in p (Some d) = number_in p 1 2 (Some d) >>= (λ n. Ok (if n == 1 then versions.One else versions.Two))

-- a number up to `most`, 0 if it is left out
abbrev pub number_or_0 : Position → ℕ → Option Data → Result ℕ Fault
number_or_0 p most None = Ok 0
number_or_0 p most (Some d) = number_in p 0 most (Some d)

-- a truth value, with what it is if it is left out
abbrev pub truth_in : Position → (left_out : Bool) → Option Data → Result Bool Fault
truth_in p left_out None = Ok left_out
truth_in p left_out (Some d) = ok_or (as_bool d) (BadValue p)

-- the format of a document, by the values under `version` and `hardware`
unfoldable pub format_in : Position → Option Data → Option Data → Result Format Fault
format_in p version_written hardware_written = do
  version ← version_in p version_written
  hardware ← truth_in p false hardware_written
  Ok (record { version = version; hardware = hardware })

-- a test that must pass
abbrev pub must : Bool → Fault → Result (Unit {0}) Fault
must b f = if b then Ok tt else Err f

-- [receive start, size, send start, size]
unfoldable pub mailbox_of : Position → Data → Result Mailbox Fault
mailbox_of p d = do
  receive_start ← number_in p 0 65535 (at 0 d)
  receive_size ← number_in p 16 1024 (at 1 d)
  send_start ← number_in p 0 65535 (at 2 d)
  send_size ← number_in p 16 1024 (at 3 d)
  _ ← must (not (is_some (at 4 d))) (BadValue p)
  Ok (record { receive_start = receive_start; receive_size = receive_size; send_start = send_start; send_size = send_size })

-- a mailbox, if there is one
unfoldable pub mailbox_in : Position → Option Data → Result (Option Mailbox) Fault
mailbox_in p None = Ok None
mailbox_in p (Some d) = mailbox_of p d >>= (λ m. Ok (Some m))

-- [number, control byte]
unfoldable pub manager_of : Position → Data → Result ProcessManager Fault
manager_of p d = do
  number ← number_in p 0 3 (at 0 d)
  control ← number_in p 0 255 (at 1 d)
  _ ← must (not (is_some (at 2 d))) (BadValue p)
  Ok (record { number = number; control = control })

-- the manager of a direction, the usual one if it is left out
unfoldable pub manager_in : Position → ProcessManager → Option Data → Result ProcessManager Fault
manager_in p usual None = Ok usual
manager_in p usual (Some d) = manager_of p d

-- how many FMMUs there are, 4 if it is left out
abbrev pub fmmus_in : Position → Option Data → Result ℕ Fault
fmmus_in p None = Ok 4
fmmus_in p (Some d) = number_in p 2 4 (Some d)

-- [variable bit, entry bit, count]
unfoldable pub link_bits_of : Position → Data → Result LinkBits Fault
link_bits_of p d = do
  variable_bit ← number_in p 0 63 (at 0 d)
  entry_bit ← number_in p 0 63 (at 1 d)
  count ← number_in p 1 64 (at 2 d)
  _ ← must (not (is_some (at 3 d))) (BadValue p)
  Ok (record { variable_bit = variable_bit; entry_bit = entry_bit; count = count })

-- a link's bits, if they are written
unfoldable pub link_bits_in : Position → Option Data → Result (Option LinkBits) Fault
link_bits_in p None = Ok None
link_bits_in p (Some d) = link_bits_of p d >>= (λ b. Ok (Some b))

abbrev pub is_table : Data → Bool
is_table (table ms) = true
is_table _ = false

abbrev pub are_tables : Items → Bool
are_tables no_items = true
are_tables (item d ds) = is_table d && are_tables ds

-- the elements of a section, none if it is left out
unfoldable pub section_in : Position → Option Data → Result Items Fault
section_in p None = Ok no_items
section_in p (Some d) = do
  ds ← ok_or (as_array d) (BadValue p)
  _ ← must (are_tables ds) (BadValue p)
  Ok ds

abbrev pub result_items : {E : Type 0} → Result (Bor (List Value)) E → Result Items E
result_items (Ok s) = Ok (items_view s.now)
result_items (Err e) = Err e

abbrev pub result_elements : {E : Type 0} → Result (Vec Value Global) E → Result Items E
result_elements (Ok v) = Ok (items_view v.items)
result_elements (Err e) = Err e
