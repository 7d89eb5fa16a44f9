-- Tables that the link compiler accepts: one slave with four outputs, one variable, and one link between them; the same with a real
-- terminal; and two slaves in two sync units with links both ways. So no promise that begins with an accepted table is empty.
use Rattle.std.specs.Prelude.{ℕ, ◌≡◌, [], ◌∷◌, Bool, true, false, Option, Some, None}
use Rattle.ec_device.specs.declared.slave_type.Entry.{Entry}
use Rattle.ec_device.specs.declared.slave_type.Mailbox.{Mailbox}
use Rattle.ec_device.specs.Hardware.{usual_inputs}
use Rattle.ec_table.specs.declared.rows.Version.TheVariants.{One, Two}
use Rattle.ec_table.specs.declared.rows.Direction.TheVariants.{Out, In}
use Rattle.ec_table.specs.declared.rows.Direction.{Direction}
use Rattle.ec_table.specs.declared.rows.TypeRow.{TypeRow}
use Rattle.ec_table.specs.declared.rows.SlaveRow.{SlaveRow}
use Rattle.ec_table.specs.declared.rows.VariableRow.{VariableRow}
use Rattle.ec_table.specs.declared.rows.LinkRow.{LinkRow}
use Rattle.ec_table.specs.Contents.{Contents}
use Rattle.ec_table.specs.Sound as table
use Rattle.ec_link.specs.Faults.{compile_fault}

abbrev pub small_type : TypeRow
small_type = record {
  name = 100 ∷ [];
  device = record { vendor = 1; product = 1; revision = 1 };
  mailbox = None;
  process = record { out_start = 0x1100; in_start = 0x1400; outputs = record { index = 0x1600; entries = record { index = 0x7000; subindex = 1; bits = 4 } ∷ [] } ∷ []; inputs = [] };
  lrw = true;
  hardware = None;
  init = [];
}

abbrev pub small_slave : SlaveRow
small_slave = record { name = 115 ∷ []; type_index = 0; serial = 0; outputs = 0x1600 ∷ []; inputs = []; unit = 0; init = [] }

abbrev pub small_variable : VariableRow
small_variable = record { name = 118 ∷ []; direction = Out; bits = 4; signed = false }

abbrev pub small_link : LinkRow
small_link = record { variable = 0; slave = 0; index = 0x7000; subindex = 1; bits = record { variable_bit = 0; entry_bit = 0; count = 4 } }

abbrev pub small_table : Contents
small_table = record { version = One; hardware = false; types = small_type ∷ []; slaves = small_slave ∷ []; variables = small_variable ∷ []; links = small_link ∷ []; full = false }

abbrev pub AcceptedLaw : Type 0
AcceptedLaw = table.IsSound small_table × (compile_fault small_table ≡ None)

-- the same with a real terminal: its outputs are pins, manager 0 holds them under a watchdog, and it has no firmware
abbrev pub pins_type : TypeRow
pins_type = record {
  name = small_type.name;
  device = record { vendor = 1; product = 1; revision = 0 };
  mailbox = None;
  process = record { out_start = 0x0F00; in_start = 0; outputs = small_type.process.outputs; inputs = [] };
  lrw = true;
  hardware = Some (record {
    out_manager = record { number = 0; control = 0x44 };
    in_manager = usual_inputs;
    has_pins = true;
    has_firmware = false;
    is_fixed = false;
    slow = 0;
    has_emergency = false;
    fmmus = 3;
    any_revision = true;
  });
  init = [];
}

abbrev pub pins_table : Contents
pins_table = record small_table { hardware = true; types = pins_type ∷ [] }

abbrev pub AcceptedPinsLaw : Type 0
AcceptedPinsLaw = table.IsSound pins_table × (compile_fault pins_table ≡ None)

-- ---- two sync units

-- a type with one entry out and one in
abbrev pub two_way : (name product : ℕ) → Option Mailbox → Bool → Entry → Entry → TypeRow
two_way name product mailbox lrw out in_entry = record {
  name = name ∷ [];
  device = record { vendor = 1; product = product; revision = 1 };
  mailbox = mailbox;
  process = record { out_start = 0x1100; in_start = 0x1400; outputs = record { index = 0x1600; entries = out ∷ [] } ∷ []; inputs = record { index = 0x1A00; entries = in_entry ∷ [] } ∷ [] };
  lrw = lrw;
  hardware = None;
  init = [];
}

abbrev pub box : Mailbox
box = record { receive_start = 0x1000; receive_size = 128; send_start = 0x1080; send_size = 128 }

-- without LRW, and without a mailbox: four bits each way
abbrev pub split_type : TypeRow
split_type = two_way 100 1 None false (record { index = 0x7000; subindex = 1; bits = 4 }) (record { index = 0x6000; subindex = 1; bits = 4 })

-- with both: 12 bits out and 16 in
abbrev pub boxed_type : TypeRow
boxed_type = two_way 101 2 (Some box) true (record { index = 0x7010; subindex = 1; bits = 12 }) (record { index = 0x6010; subindex = 1; bits = 16 })

abbrev pub slave_in : (name type_index unit : ℕ) → SlaveRow
slave_in name type_index unit = record { name = name ∷ []; type_index = type_index; serial = 0; outputs = 0x1600 ∷ []; inputs = 0x1A00 ∷ []; unit = unit; init = [] }

abbrev pub variable_of : (name : ℕ) → Direction → (bits : ℕ) → VariableRow
variable_of name direction bits = record { name = name ∷ []; direction = direction; bits = bits; signed = false }

abbrev pub link_to : (variable slave index count : ℕ) → LinkRow
link_to variable slave index count = record { variable = variable; slave = slave; index = index; subindex = 1; bits = record { variable_bit = 0; entry_bit = 0; count = count } }

abbrev pub two_units : Contents
two_units = record {
  version = Two;
  hardware = false;
  types = split_type ∷ boxed_type ∷ [];
  slaves = slave_in 115 0 0 ∷ slave_in 116 1 1 ∷ [];
  variables = variable_of 97 Out 4 ∷ variable_of 98 In 4 ∷ variable_of 99 Out 12 ∷ variable_of 100 In 16 ∷ [];
  links = link_to 0 0 0x7000 4 ∷ link_to 1 0 0x6000 4 ∷ link_to 2 1 0x7010 12 ∷ link_to 3 1 0x6010 16 ∷ [];
  full = false;
}

abbrev pub AcceptedTwoLaw : Type 0
AcceptedTwoLaw = table.IsSound two_units × (compile_fault two_units ≡ None)
