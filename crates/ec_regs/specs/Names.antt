-- Addresses as the registers of sync managers and FMMUs have them. Inside a slave, and in a plan, the outputs of a device whose
-- outputs are pins lie in the RAM; its registers have the pins' own address (ec_device's Hardware). Without pins both are the same.
use Rattle.std.specs.Prelude.{◌≡◌, Option}
use Rattle.ec_device.specs.declared.hardware.Hardware.{Hardware}
use Rattle.ec_device.specs.Hardware.{other_name}
use Rattle.ec_regs.specs.declared.manager.SyncManagerSettings.{SyncManagerSettings}
use Rattle.ec_regs.specs.declared.fmmu.FmmuSettings.{FmmuSettings}

-- the settings in the registers of a manager with these settings inside, and as well the other way
abbrev pub shown_manager : Option Hardware → SyncManagerSettings → SyncManagerSettings
shown_manager o m = record m { start = other_name o m.start }

-- and of an FMMU
abbrev pub shown_fmmu : Option Hardware → FmmuSettings → FmmuSettings
shown_fmmu o f = record f { physical_start = other_name o f.physical_start }

-- what is shown of settings says which they are
pub record SettingsGoBack : Type 0 where
  pub manager : (o : Option Hardware) (m : SyncManagerSettings) → shown_manager o (shown_manager o m) ≡ m
  pub fmmu : (o : Option Hardware) (f : FmmuSettings) → shown_fmmu o (shown_fmmu o f) ≡ f
