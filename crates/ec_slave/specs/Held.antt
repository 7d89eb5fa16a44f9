-- What holds of what a slave keeps.
use Rattle.std.specs.Prelude.{ℕ, ◌≡◌, List, length}
use Rattle.ec_regs.specs.declared.fmmu.FmmuSettings.{FmmuSettings}
use Rattle.ec_device.specs.declared.slave_type.Identity.{Identity}
use Rattle.ec_regs.specs.Memory.{ram_end}
use Rattle.ec_device.specs.Types.{SlaveKind}
use Rattle.ec_sync.specs.SyncManager.{SyncManager}
use Rattle.ec_sii.specs.SiiImage.{image_of}
use Rattle.ec_sii.specs.Port.{Sii}
use Rattle.ec_slave.specs.State.{fmmus_of}

-- The memory has all its addresses, there are four managers, the FMMUs are decoded as the registers stand, and the SII shows
-- the slave's identity, its type's mailbox and the categories of a full slave.
pub record IsHeld (kind : SlaveKind) (identity : Identity) (memory : List ℕ) (managers : List SyncManager) (fmmus : List FmmuSettings) (sii : Sii) : Type 0 where
  pub room : length memory ≡ ram_end
  pub four : length managers ≡ 4
  pub decoded : fmmus ≡ fmmus_of kind.hardware memory
  pub image : sii.image ≡ image_of kind identity
