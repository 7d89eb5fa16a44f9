-- What holds at every instant of a world that starts up: how far it is, and what each slave stands at.
use Rattle.std.specs.Prelude.{ℕ, ◌<◌, ◌≤◌, ◌≡◌, List, [], ◌∷◌, length, drop, Bool, true, false, Some, None}
use Rattle.ec_device.specs.Types.{SlaveKind}
use Rattle.ec_frame.specs.Datagram.{Datagram, IsDatagram}
use Rattle.ec_slave.specs.State.{SlaveState}
use Rattle.ec_slave.specs.Meeting.{slave_met, datagram_met}
use Rattle.ec_link.specs.declared.settings.SlavePlan.{SlavePlan}
use Rattle.ec_start.specs.declared.action.Action.{Action}
use Rattle.ec_start.specs.Scripts.{script}
use Rattle.ec_start.specs.declared.error.StartError.{StartError}
use Rattle.ec_start.specs.declared.aside.Heard.{Heard}
use Rattle.ec_start.specs.declared.verdict.Verdict.TheVariants.{Next, Word, Fed, Again, Aside}
use Rattle.ec_device.specs.declared.slave_type.Device.{Device}
use Rattle.ec_start.specs.Verdicts.{verdict}
use Rattle.ec_start.specs.declared.action.Feed.{Feed}
use Rattle.ec_start.specs.declared.action.Action.TheVariants.{FeedPart}
use Rattle.ec_start.specs.Running.{step_of, action_of, type_of}
use Rattle.ec_start.specs.declared.phase.Phase.TheVariants.{Idle, Sent, Ready, Failed}
use Rattle.ec_bringup.specs.Fed.{IsFeedAt, AreFeedsOf}
use Rattle.ec_bringup.specs.Stages.{Claim, no_claim, Config, Stage, Up, Fits, IsNamed, after}
use Rattle.ec_bringup.specs.Standing.{IsOfKind, Stands}
use Rattle.ec_bringup.specs.Frames.{Arrives, MayRepeat, MayEnd, Met}
use Rattle.ec_bringup.specs.Starting.{Carried, Starting, slave_at, trouble_at, kind_at, AreSlaves}

-- the actions ahead fit one after another, and bring the slave to a stage
abbrev pub Leads : ℕ → Stage → List Action → Stage → Type 0
Leads i st [] end = st ≡ end
Leads i st (a ∷ rest) end = Fits i st a × Leads i (after i st a) rest end

-- and each goes by the names of the slave's registers
abbrev pub AreNamed : SlaveKind → ℕ → List Action → Type 0
AreNamed kind i [] = Unit {0}
AreNamed kind i (a ∷ rest) = IsNamed kind i a × AreNamed kind i rest

-- what a whole start-up brings a slave to
abbrev pub claim_of : List ℕ → Bool → Claim
claim_of indices false = no_claim
claim_of indices true = record { count = Some (length indices); slots = indices }

-- ---- the parts of the invariant

-- `ends i` is the configuration that the whole script leaves slave i in
pub record AreAhead (ps : List SlavePlan) (rest : List Action) (ends : ℕ → Config) (stages : ℕ → Stage) : Type 0 where
  pub each : (i : ℕ) → i < length ps → Leads i (stages i) rest (Up (ends i))
  pub named : (i : ℕ) → i < length ps → AreNamed (kind_at ps i) i rest

pub record AllStand (ps : List SlavePlan) (stages : ℕ → Stage) (ts : List Bool) (ss : List SlaveState) : Type 0 where
  pub each : (i : ℕ) → i < length ps → Stands (kind_at ps i) i (stages i) (trouble_at ts i) (slave_at ss i)

-- of a frame that has passed j slaves
pub record AllMet (ps : List SlavePlan) (stages : ℕ → Stage) (ts : List Bool) (ss : List SlaveState) (a : Action) (j : ℕ) (d : Datagram) : Type 0 where
  pub passed : (i : ℕ) → i < j → Met (kind_at ps i) i (stages i) (trouble_at ts i) a d (slave_at ss i)
  pub to_come : (i : ℕ) → j ≤ i → i < length ps → Stands (kind_at ps i) i (stages i) (trouble_at ts i) (slave_at ss i)

-- no frame is outstanding
pub record IsBetween (ends : ℕ → Config) (w : Starting) : Type 0 where
  pub idle : w.start.phase ≡ Idle
  pub empty : w.slot ≡ None
  pub inside : w.start.place < length (script w.start.plan)
  pub stages : ℕ → Stage
  pub ahead : AreAhead w.start.plan (drop w.start.place (script w.start.plan)) ends stages
  pub stand : AllStand w.start.plan stages w.troubles w.slaves

-- the outstanding frame, of a step's own action, is on its way, or back
pub record IsUnderWay (ends : ℕ → Config) (w : Starting) : Type 0 where
  pub acts : action_of w.start ≡ step_of w.start
  pub carried : Carried
  pub sent : w.start.phase ≡ Sent carried.number
  pub full : w.slot ≡ Some carried
  pub inside : w.start.place < length (script w.start.plan)
  pub few : carried.passed ≤ length w.start.plan
  pub stages : ℕ → Stage
  pub ahead : AreAhead w.start.plan (drop w.start.place (script w.start.plan)) ends stages
  pub good : IsDatagram carried.datagram
  pub arrives : Arrives (step_of w.start) carried.number carried.passed carried.datagram
  pub met : AllMet w.start.plan stages w.troubles w.slaves (step_of w.start) carried.passed carried.datagram

-- the outstanding frame, which feeds a part, is on its way, or back: each slave stands where it stood
pub record IsFeeding (ends : ℕ → Config) (w : Starting) : Type 0 where
  pub feed : Feed
  pub feeds : action_of w.start ≡ FeedPart feed
  pub carried : Carried
  pub sent : w.start.phase ≡ Sent carried.number
  pub full : w.slot ≡ Some carried
  pub inside : w.start.place < length (script w.start.plan)
  pub few : carried.passed ≤ length w.start.plan
  pub stages : ℕ → Stage
  pub ahead : AreAhead w.start.plan (drop w.start.place (script w.start.plan)) ends stages
  pub good : IsDatagram carried.datagram
  pub arrives : IsFeedAt w.start.plan feed carried.number carried.passed carried.datagram
  pub stand : AllStand w.start.plan stages w.troubles w.slaves

-- the outstanding frame is lost
pub record IsAdrift (w : Starting) : Type 0 where
  pub number : ℕ
  pub sent : w.start.phase ≡ Sent number
  pub empty : w.slot ≡ None

pub record IsOver (w : Starting) : Type 0 where
  pub failure : StartError
  pub failed : w.start.phase ≡ Failed failure

-- each slave stands at the end of the script
pub record IsUp (ends : ℕ → Config) (w : Starting) : Type 0 where
  pub ready : w.start.phase ≡ Ready
  pub empty : w.slot ≡ None
  pub stand : AllStand w.start.plan (λ i. Up (ends i)) w.troubles w.slaves

pub data Instant (ends : ℕ → Config) (w : Starting) : Type 0 where
  Between : IsBetween ends w → Instant ends w
  UnderWay : IsUnderWay ends w → Instant ends w
  Feeding : IsFeeding ends w → Instant ends w
  Adrift : IsAdrift w → Instant ends w
  Over : IsOver w → Instant ends w
  IsReady : IsUp ends w → Instant ends w

pub record Starts (ends : ℕ → Config) (w : Starting) : Type 0 where
  pub slaves : AreSlaves w
  pub feeds : AreFeedsOf w.start.plan w.start.feeds
  pub instant : Instant ends w

-- ---- what a slave has to keep: the laws of ec_start

-- a slave that was passed, when the frame passes a later one
abbrev pub LaterLaw : Type 0
LaterLaw =
    (kind : SlaveKind) (i : ℕ) (st : Stage) (trouble : Bool) (other : SlaveKind) (j : ℕ) (at : Stage) (had : Bool) (a : Action) (number : ℕ) (d : Datagram) (s t : SlaveState)
    → i < j → j < 64 → Fits j at a → IsDatagram d → Arrives a number j d → Stands other j at had t
    → Met kind i st trouble a d s → Met kind i st trouble a (datagram_met t d) s

abbrev pub TakeLaw : Type 0
TakeLaw =
    (n step : ℕ) (seen : Device) (ps : List SlavePlan) (a : Action) (d : Datagram)
    → (verdict n step seen (type_of ps) a d ≡ Next → MayEnd a d)
    × ((value : ℕ) → verdict n step seen (type_of ps) a d ≡ Word value → MayEnd a d)
    × (verdict n step seen (type_of ps) a d ≡ Again → MayRepeat a d)
    × ((heard : Heard) → verdict n step seen (type_of ps) a d ≡ Aside heard → MayRepeat a d)

-- a part that is fed is no step's own action
abbrev pub FedLaw : Type 0
FedLaw = (n step : ℕ) (seen : Device) (ps : List SlavePlan) (a : Action) (d : Datagram) → verdict n step seen (type_of ps) a d ≡ Fed → (f : Feed) × (a ≡ FeedPart f)

-- what a device of a type is, after any datagram at all
abbrev pub SlaveLaw : Type 0
SlaveLaw = (kind : SlaveKind) (s : SlaveState) (d : Datagram) → IsOfKind kind s → IsOfKind kind (slave_met s d)
