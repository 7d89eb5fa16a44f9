-- What is shown of settings says which they are.
use Rattle.std.proofs.Common.{ℕ, ap}
use Rattle.ec_device.proofs.Naming.{names_law}
use Rattle.ec_regs.specs.declared.manager.SyncManagerSettings.{SyncManagerSettings}
use Rattle.ec_regs.specs.declared.fmmu.FmmuSettings.{FmmuSettings}
use Rattle.ec_regs.specs.Names.{SettingsGoBack}

abbrev with_start : SyncManagerSettings → ℕ → SyncManagerSettings
with_start m a = record m { start = a }

abbrev with_physical : FmmuSettings → ℕ → FmmuSettings
with_physical f a = record f { physical_start = a }

pub settings_back : SettingsGoBack
settings_back = record {
  manager = λ o m. ap (with_start m) (names_law o m.start);
  fmmu = λ o f. ap (with_physical f) (names_law o f.physical_start);
}
