-- The parts of the process data that a start-up feeds with zeros (a table with `hardware`), and what such a frame brings to a
-- slave. It leaves each slave as it was, but that the slave's outputs are awaited no more.
use Rattle.std.specs.Prelude.{ℕ, ◌+◌, ◌-◌, ◌*◌, ◌^◌, ◌<◌, ◌≤◌, ◌≡◌, ◌≢◌, ◌⊎◌, List, [], ◌∷◌, length, set, slice_get, get_or, true, false, if◌then◌else◌, Some}
use Rattle.std.specs.Option.{ForSome}
use Rattle.ec_bits.specs.Bits.{bit}
use Rattle.ec_device.specs.Hardware.{IsHardware}
use Rattle.ec_frame.specs.Datagram.{Datagram}
use Rattle.ec_fmmu.specs.Applied.{LogicalSpan}
use Rattle.ec_fmmu.specs.Areas.{Area, Spans}
use Rattle.ec_slave.specs.State.{SlaveState, manager_at, with_memory}
use Rattle.ec_sync.specs.SyncManager.{awaiting}
use Rattle.ec_link.specs.declared.settings.SlavePlan.{SlavePlan}
use Rattle.ec_link.specs.Interface.{AreListed}
use Rattle.ec_link.specs.Meaning.{area_of, no_slave}
use Rattle.ec_link.specs.Plan.{PlanState}
use Rattle.ec_link.specs.Shares.{lwr_count, lrw_count, whole_share}
use Rattle.ec_link.specs.Usable.{IsUsable}
use Rattle.ec_start.specs.declared.action.Feed.{Feed}
use Rattle.ec_start.specs.declared.action.Action.TheVariants.{FeedPart}
use Rattle.ec_start.specs.Actions.{datagram_of}
use Rattle.ec_start.specs.Planned.{IsFmmu, IsStartable}
use Rattle.ec_start.specs.Plans.{fmmu_at}
use Rattle.ec_start.specs.Feeding.{feeds_of}
use Rattle.ec_start.specs.Scripts.{is_hardware}

abbrev pub planned : List SlavePlan → ℕ → SlavePlan
planned ps i = get_or ps i no_slave

-- ---- which parts can be fed

-- the logical bits of a part
abbrev pub span_of_feed : Feed → LogicalSpan
span_of_feed f = record { from = 8 * f.address; bits = 8 * f.bytes }

-- no bit of the area lies there
pub record IsAway (p : LogicalSpan) (a : Area) : Type 0 where
  pub outs : (o k : ℕ) → o < a.outs → k < p.bits → a.out_at + o ≢ p.from + k
  pub ins : (o k : ℕ) → o < a.ins → k < p.bits → a.in_at + o ≢ p.from + k

-- What a part that is fed must be to the slaves of a plan: it has a slave's area as a whole or not at all, and no output of a
-- slave has the logical bit of another slave's input.
pub record IsFeedOf (ps : List SlavePlan) (f : Feed) : Type 0 where
  pub few : f.bytes ≤ 1422
  pub addresses : f.address + f.bytes < 2 ^ 32
  pub areas : (i : ℕ) → i < length ps → Spans (span_of_feed f) (area_of (planned ps i)) ⊎ IsAway (span_of_feed f) (area_of (planned ps i))
  pub listed : (i : ℕ) → i < length ps → AreListed (planned ps i)
  pub hardware : (i : ℕ) → i < length ps → ForSome (planned ps i).kind.hardware (IsHardware (planned ps i).kind.mailbox)
  pub readable : (i : ℕ) → i < length ps → (n : ℕ) → n < 4 → IsFmmu (fmmu_at (planned ps i).fmmus n)
  pub apart : (i j o k : ℕ) → i ≢ j → o < (area_of (planned ps i)).ins → k < (area_of (planned ps j)).outs
      → (area_of (planned ps i)).in_at + o ≢ (area_of (planned ps j)).out_at + k

pub record AreFeedsOf (ps : List SlavePlan) (fs : List Feed) : Type 0 where
  pub each : (k : ℕ) (f : Feed) → slice_get fs k ≡ Some f → IsFeedOf ps f

-- The parts of a plan that is usable, and can be started up, are such.
abbrev pub PartsCanBeFed : Type 0
PartsCanBeFed = (p : PlanState) → IsUsable p → ((i : ℕ) → i < length p.slaves → IsStartable (planned p.slaves i)) → AreFeedsOf p.slaves (feeds_of p)

-- ---- the frame

-- the datagram that feeds a part, as it comes to slave j: the outputs of the slaves from j on are still zeros
pub record IsFeedAt (ps : List SlavePlan) (f : Feed) (number j : ℕ) (d : Datagram) : Type 0 where
  pub command : d.command ≡ (datagram_of (FeedPart f) number).command
  pub address : d.address ≡ f.address
  pub data_length : length d.data_bytes ≡ f.bytes
  pub zeros : (i o : ℕ) → j ≤ i → i < length ps → Spans (span_of_feed f) (area_of (planned ps i)) → o < (area_of (planned ps i)).outs
      → bit d.data_bytes ((area_of (planned ps i)).out_at + o - 8 * f.address) ≡ false

-- the slave with nothing awaited of its outputs
abbrev pub with_outputs_written : SlaveState → SlaveState
with_outputs_written s = with_memory s s.memory (set s.managers 2 (awaiting (manager_at s.managers 2) false))

-- a slave that met it
abbrev pub IsLeft : SlaveState → SlaveState → Type 0
IsLeft s t = (t ≡ s) ⊎ (t ≡ with_outputs_written s)

-- ---- how it counts

-- the part has the slave's area as a whole: each slave in it writes its outputs and reads its inputs
pub data IsCountedIn (f : Feed) (x : SlavePlan) (share : ℕ) : Type 0 where
  Within : Spans (span_of_feed f) (area_of x) → (f.split ≡ false → x.kind.lrw ≡ true)
      → share ≡ (if f.split then lwr_count (whole_share x.share) else lrw_count (whole_share x.share)) → IsCountedIn f x share
  Outside : IsAway (span_of_feed f) (area_of x) → share ≡ 0 → IsCountedIn f x share

abbrev pub sum_up : List ℕ → ℕ
sum_up [] = 0
sum_up (n ∷ ns) = n + sum_up ns

-- the counter that is expected is the sum of these
pub record IsPredicted (ps : List SlavePlan) (f : Feed) : Type 0 where
  pub shares : List ℕ
  pub as_many : length shares ≡ length ps
  pub each : (i : ℕ) → i < length ps → IsCountedIn f (planned ps i) (get_or shares i 0)
  pub sum : f.counter ≡ sum_up shares

-- each slave that has outputs is in one of the parts
pub record ArePredicted (ps : List SlavePlan) (fs : List Feed) : Type 0 where
  pub each : (k : ℕ) (f : Feed) → slice_get fs k ≡ Some f → IsPredicted ps f
  pub all : (i : ℕ) → i < length ps → is_hardware ps ≡ true → 0 < (planned ps i).share.outs
      → (k : ℕ) × (f : Feed) × (slice_get fs k ≡ Some f) × Spans (span_of_feed f) (area_of (planned ps i))

abbrev pub PartsArePredicted : Type 0
PartsArePredicted = (p : PlanState) → IsUsable p → ArePredicted p.slaves (feeds_of p)
