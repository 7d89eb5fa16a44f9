-- The plan of the example's three slaves: 4 output bits; 4 input bits; a mailbox, 12 output bits and 16 input bits.
use Rattle.std.specs.Prelude.{ℕ, List, [], ◌∷◌, true, Option, Some, None}
use Rattle.ec_device.specs.declared.slave_type.Pdo.{Pdo}
use Rattle.ec_device.specs.declared.slave_type.Mailbox.{Mailbox}
use Rattle.ec_device.specs.Types.{SlaveKind}
use Rattle.ec_regs.specs.Managers.{no_settings, area_settings, mailbox_out_control, mailbox_in_control, outputs_control, inputs_control}
use Rattle.ec_regs.specs.Fmmus.{no_fmmu}
use Rattle.ec_link.specs.declared.settings.SlavePlan.{SlavePlan}

abbrev pub kind_of : (product : ℕ) → Option Mailbox → (out_start in_start : ℕ) → (outputs inputs : List Pdo) → SlaveKind
kind_of product mailbox out_start in_start outputs inputs = record {
  device = record { vendor = 0xABCD; product = product; revision = 1 };
  mailbox = mailbox;
  out_start = out_start;
  in_start = in_start;
  outputs = outputs;
  inputs = inputs;
  lrw = true;
  face = None;
  hardware = None;
  init = [];
}

-- a PDO with one entry
abbrev pub pdo_of : (index entry bits : ℕ) → Pdo
pdo_of index entry bits = record { index = index; entries = record { index = entry; subindex = 1; bits = bits } ∷ [] }

abbrev pub four_outputs : SlavePlan
four_outputs = record {
  kind = kind_of 1 None 0x1100 0 (pdo_of 0x1600 0x7000 4 ∷ []) [];
  outputs = 0x1600 ∷ [];
  inputs = [];
  managers = no_settings ∷ no_settings ∷ area_settings 0x1100 1 outputs_control ∷ no_settings ∷ [];
  fmmus = record no_fmmu { logical_start = 0x00010000; length = 1; stop_bit = 3; physical_start = 0x1100; writes = true; active = true } ∷ no_fmmu ∷ no_fmmu ∷ no_fmmu ∷ [];
  from = 0x00080000;
  bits = record { outs = 4; ins = 0 };
  share = record { outs = 4; ins = 0; part = 0 };
}

abbrev pub four_inputs : SlavePlan
four_inputs = record {
  kind = kind_of 2 None 0 0x1100 [] (pdo_of 0x1A00 0x6000 4 ∷ []);
  outputs = [];
  inputs = 0x1A00 ∷ [];
  managers = no_settings ∷ no_settings ∷ no_settings ∷ area_settings 0x1100 1 inputs_control ∷ [];
  fmmus = no_fmmu ∷ record no_fmmu { logical_start = 0x00010000; length = 1; start_bit = 4; stop_bit = 7; physical_start = 0x1100; reads = true; active = true } ∷ no_fmmu ∷ no_fmmu ∷ [];
  from = 0x00080004;
  bits = record { outs = 0; ins = 4 };
  share = record { outs = 0; ins = 4; part = 0 };
}

abbrev pub mixed : SlavePlan
mixed = record {
  kind = kind_of 3 (Some (record { receive_start = 0x1000; receive_size = 128; send_start = 0x1080; send_size = 128 })) 0x1100 0x1400 (pdo_of 0x1600 0x7010 12 ∷ []) (pdo_of 0x1A00 0x6010 16 ∷ []);
  outputs = 0x1600 ∷ [];
  inputs = 0x1A00 ∷ [];
  managers = area_settings 0x1000 128 mailbox_out_control ∷ area_settings 0x1080 128 mailbox_in_control ∷ area_settings 0x1100 2 outputs_control ∷ area_settings 0x1400 2 inputs_control ∷ [];
  fmmus = record no_fmmu { logical_start = 0x00010001; length = 2; stop_bit = 3; physical_start = 0x1100; writes = true; active = true }
      ∷ record no_fmmu { logical_start = 0x00010001; length = 2; stop_bit = 7; physical_start = 0x1400; reads = true; active = true } ∷ no_fmmu ∷ no_fmmu ∷ [];
  from = 0x00080008;
  bits = record { outs = 12; ins = 16 };
  share = record { outs = 12; ins = 16; part = 0 };
}

abbrev pub three_slaves : List SlavePlan
three_slaves = four_outputs ∷ four_inputs ∷ mixed ∷ []
