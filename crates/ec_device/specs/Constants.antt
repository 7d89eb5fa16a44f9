-- The constants of the code are the limits of the definitions: a law, and nothing that a definition stands on.
use Rattle.std.specs.Prelude.{◌≡◌}
use Rattle.ec_device.specs.declared.slave_type.TheConstants.{FIRST_OUTPUT_INDEX, FIRST_INPUT_INDEX, PDO_INDICES, MAX_PDOS, MAX_ENTRIES, MAX_ENTRY_BITS, MIN_MAILBOX_SIZE, MAX_MAILBOX_SIZE, MAX_NAME}
use Rattle.ec_device.specs.declared.hardware.TheConstants.{PINS, PINS_INSIDE, PINS_SIZE, PINS_BYTES, MIN_FMMUS, MAX_FMMUS, MAX_SLOW, LAST_MANAGER, OUTPUTS_PLACE, INPUTS_PLACE}
use Rattle.ec_device.specs.declared.parameter.TheConstants.{MAX_PARAMETERS}
use Rattle.ec_device.specs.Types.{first_output_index, first_input_index}
use Rattle.ec_device.specs.Hardware.{pins, pins_inside}

-- the limits of a type
pub record ConstantsAreTheLimits : Type 0 where
  pub outputs : FIRST_OUTPUT_INDEX ≡ first_output_index
  pub inputs : FIRST_INPUT_INDEX ≡ first_input_index
  pub indices : PDO_INDICES ≡ 512
  pub pdos : MAX_PDOS ≡ 16
  pub entries : MAX_ENTRIES ≡ 64
  pub entry_bits : MAX_ENTRY_BITS ≡ 64
  pub smallest_mailbox : MIN_MAILBOX_SIZE ≡ 16
  pub largest_mailbox : MAX_MAILBOX_SIZE ≡ 1024
  pub name : MAX_NAME ≡ 32

-- the register of the pins, and the limits and places of hardware
pub record ConstantsAreTheHardware : Type 0 where
  pub register : PINS ≡ pins
  pub inside : PINS_INSIDE ≡ pins_inside
  pub size : PINS_SIZE ≡ 16
  pub bytes : PINS_BYTES ≡ 4
  pub fewest : MIN_FMMUS ≡ 2
  pub most : MAX_FMMUS ≡ 4
  pub slowest : MAX_SLOW ≡ 100
  pub parameters : MAX_PARAMETERS ≡ 64
  pub last : LAST_MANAGER ≡ 3
  pub outputs : OUTPUTS_PLACE ≡ 2
  pub inputs : INPUTS_PLACE ≡ 3
