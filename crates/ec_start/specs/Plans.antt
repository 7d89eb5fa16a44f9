-- Settings by their number.
use Rattle.std.specs.Prelude.{ℕ, List, get_or}
use Rattle.ec_regs.specs.declared.manager.SyncManagerSettings.{SyncManagerSettings}
use Rattle.ec_regs.specs.declared.fmmu.FmmuSettings.{FmmuSettings}
use Rattle.ec_regs.specs.Managers.{no_settings}
use Rattle.ec_regs.specs.Fmmus.{no_fmmu}

abbrev pub settings_at : List SyncManagerSettings → ℕ → SyncManagerSettings
settings_at ms n = get_or ms n no_settings

abbrev pub fmmu_at : List FmmuSettings → ℕ → FmmuSettings
fmmu_at fs n = get_or fs n no_fmmu
