-- The constants of the code are the numbers of the definitions: a law, and nothing that a definition stands on.
use Rattle.std.specs.Prelude.{◌≡◌, ◌+◌, ◌*◌}
use Rattle.ec_regs.specs.declared.registers.TheConstants.{NUMBER_OF_FMMUS, NUMBER_OF_SYNC_MANAGERS, RAM_SIZE, STATION_ADDRESS, AL_CONTROL, AL_STATUS, AL_STATUS_CODE, SII_CONTROL, SII_ADDRESS, SII_DATA, FMMUS, FMMUS_END, FMMU_SIZE, SYNC_MANAGERS, SYNC_MANAGERS_END, MANAGER_SIZE, RAM_START, RAM_END, FMMU_COUNT, MANAGER_COUNT, RAM_KIB}
use Rattle.ec_regs.specs.declared.manager.TheConstants.{CONTROL_MAILBOX_OUT, CONTROL_MAILBOX_IN, CONTROL_OUTPUTS, CONTROL_INPUTS}
use Rattle.ec_regs.specs.Memory.{number_of_fmmus, number_of_sync_managers, ram_size, station_address, al_control, al_status, al_status_code, sii_control, sii_address, sii_data, fmmu_start, manager_start, ram_start, ram_end}
use Rattle.ec_regs.specs.Managers.{mailbox_out_control, mailbox_in_control, outputs_control, inputs_control}

-- the places of the registers, and what the first three of them say
pub record ConstantsAreTheRegisters : Type 0 where
  pub fmmu_number : NUMBER_OF_FMMUS ≡ number_of_fmmus
  pub manager_number : NUMBER_OF_SYNC_MANAGERS ≡ number_of_sync_managers
  pub size : RAM_SIZE ≡ ram_size
  pub station : STATION_ADDRESS ≡ station_address
  pub control : AL_CONTROL ≡ al_control
  pub status : AL_STATUS ≡ al_status
  pub code : AL_STATUS_CODE ≡ al_status_code
  pub port : SII_CONTROL ≡ sii_control
  pub word_address : SII_ADDRESS ≡ sii_address
  pub word_data : SII_DATA ≡ sii_data
  pub first_fmmu : FMMUS ≡ fmmu_start 0
  pub fmmu_length : FMMUS + FMMU_SIZE ≡ fmmu_start 1
  pub fmmus_end : FMMUS_END ≡ fmmu_start 4
  pub first_manager : SYNC_MANAGERS ≡ manager_start 0
  pub manager_length : SYNC_MANAGERS + MANAGER_SIZE ≡ manager_start 1
  pub managers_end : SYNC_MANAGERS_END ≡ manager_start 4
  pub from : RAM_START ≡ ram_start
  pub to : RAM_END ≡ ram_end
  pub four_fmmus : FMMU_COUNT ≡ 4
  pub four_managers : MANAGER_COUNT ≡ 4
  pub kibibytes : RAM_START + 1024 * RAM_KIB ≡ ram_end

-- the control bytes of the usual managers
pub record ConstantsAreTheControls : Type 0 where
  pub mailbox_out : CONTROL_MAILBOX_OUT ≡ mailbox_out_control
  pub mailbox_in : CONTROL_MAILBOX_IN ≡ mailbox_in_control
  pub outputs : CONTROL_OUTPUTS ≡ outputs_control
  pub inputs : CONTROL_INPUTS ≡ inputs_control
