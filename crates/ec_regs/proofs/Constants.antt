-- The constants of the code are the numbers of the definitions: both compute to one literal.
use Rattle.std.proofs.Common.{refl}
use Rattle.ec_regs.specs.Constants.{ConstantsAreTheRegisters, ConstantsAreTheControls}

pub registers : ConstantsAreTheRegisters
registers = record {
  fmmu_number = refl;
  manager_number = refl;
  size = refl;
  station = refl;
  control = refl;
  status = refl;
  code = refl;
  port = refl;
  word_address = refl;
  word_data = refl;
  first_fmmu = refl;
  fmmu_length = refl;
  fmmus_end = refl;
  first_manager = refl;
  manager_length = refl;
  managers_end = refl;
  from = refl;
  to = refl;
  four_fmmus = refl;
  four_managers = refl;
  kibibytes = refl;
}

pub controls : ConstantsAreTheControls
controls = record { mailbox_out = refl; mailbox_in = refl; outputs = refl; inputs = refl }
