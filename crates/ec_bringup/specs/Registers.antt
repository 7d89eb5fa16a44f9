-- What the registers of a slave read at Ready: the plan.
use Rattle.std.specs.Prelude.{ℕ, ◌+◌, ◌*◌, ◌<◌, ◌≡◌, ◌≢◌, ◌⊎◌, List, length, get_or, true, slice_index}
use Rattle.ec_device.specs.Hardware.{AreNumbered, manager_number}
use Rattle.ec_regs.specs.Memory.{station_address, manager_start, fmmu_start}
use Rattle.ec_regs.specs.Managers.{manager_bytes}
use Rattle.ec_regs.specs.Fmmus.{fmmu_bytes}
use Rattle.ec_regs.specs.Names.{shown_manager, shown_fmmu}
use Rattle.ec_slave.specs.State.{SlaveState, power_on}
use Rattle.ec_slave.specs.Physical.{byte_at}
use Rattle.ec_link.specs.declared.settings.SlavePlan.{SlavePlan}
use Rattle.ec_start.specs.Actions.{station}
use Rattle.ec_start.specs.Plans.{settings_at, fmmu_at}
use Rattle.ec_start.specs.declared.action.Feed.{Feed}
use Rattle.ec_start.specs.declared.phase.Phase.TheVariants.{Ready}
use Rattle.ec_bringup.specs.Fed.{AreFeedsOf}
use Rattle.ec_bringup.specs.Starting.{Starting, slave_at, trouble_at, no_plan}
use Rattle.ec_bringup.specs.Runs.{AreStartable, IsNew, Runs, HoldsAll}

-- The registers of slave i read what its plan sets (ETG.1000.4, "Station address", "Sync manager", "FMMU"). The plan has managers by their
-- roles, and addresses as they are inside; the registers have the numbers and the addresses of the type's devices. Of a manager's eight
-- bytes, 5 is its status and 7 the slave's side: no plan sets these.
pub record ReadsPlan (i : ℕ) (p : SlavePlan) (s : SlaveState) : Type 0 where
  pub station_is : byte_at s station_address + 256 * byte_at s (station_address + 1) ≡ station i
  pub managers : (place k : ℕ) → place < 4 → k < 8 → k ≢ 5 → k ≢ 7
      → byte_at s (manager_start (manager_number p.kind.hardware place) + k) ≡ slice_index (manager_bytes (shown_manager p.kind.hardware (settings_at p.managers place))) k
  pub fmmus : (n k : ℕ) → n < 4 → k < 16 → byte_at s (fmmu_start n + k) ≡ slice_index (fmmu_bytes (shown_fmmu p.kind.hardware (fmmu_at p.fmmus n))) k

-- A slave of the plan's type that holds all that the plan sets reads it.
abbrev pub HeldIsRead : Type 0
HeldIsRead = (i : ℕ) (p : SlavePlan) (s : SlaveState) → AreNumbered p.kind.hardware → s.kind ≡ p.kind → HoldsAll i p s → ReadsPlan i p s

-- So does each slave after every run of a new segment that makes it ready (`StartUpLaw`), but one that was reset since the first frame
-- of that start-up was sent.
abbrev pub ReadyIsRead : Type 0
ReadyIsRead =
    (ps : List SlavePlan) (fs : List Feed) → AreStartable ps → AreFeedsOf ps fs → (w v : Starting) → IsNew ps fs w → Runs w v → v.start.phase ≡ Ready → (i : ℕ) → i < length ps
    → let s : SlaveState = slave_at v.slaves i in
    ReadsPlan i (get_or ps i no_plan) s ⊎ ((trouble_at v.troubles i ≡ true) × (s ≡ power_on s.kind s.identity))
