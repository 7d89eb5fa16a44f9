-- A start-up that nothing disturbs ends Ready.
use Rattle.std.specs.Prelude.{ℕ, ◌+◌, ◌*◌, ◌<◌, ◌≤◌, ◌≡◌, List, [], length, true, false, None}
use Rattle.ec_slave.specs.State.{SlaveState}
use Rattle.ec_coe.specs.Objects.{has_some}
use Rattle.ec_table.specs.Contents.{Contents}
use Rattle.ec_table.specs.Sound as table
use Rattle.ec_link.specs.Faults.{compile_fault}
use Rattle.ec_link.specs.Plan.{plan_of}
use Rattle.ec_link.specs.declared.settings.SlavePlan.{SlavePlan}
use Rattle.ec_start.specs.declared.action.Feed.{Feed}
use Rattle.ec_start.specs.Feeding.{feeds_of}
use Rattle.ec_start.specs.Scripts.{is_hardware, script}
use Rattle.ec_start.specs.declared.phase.Phase.TheVariants.{Idle, Ready}
use Rattle.ec_start.specs.Running.{begun}
use Rattle.ec_frame.specs.Datagram.{IsDatagram}
use Rattle.ec_bringup.specs.Undisturbed.{Rising, frame_at, turns, plan_at, slave_of, IsOfType, ArePlans, ArePlansWith, AreDevices}
use Rattle.ec_device.specs.Types.{SlaveKind}
use Rattle.ec_bringup.specs.Starting.{Starting}
use Rattle.ec_bringup.specs.Fed.{AreFeedsOf}
use Rattle.ec_bringup.specs.Runs.{Works, IsNew, Runs}
use Rattle.ec_bringup.specs.Dictionaries.{ParametersAgree}
use Rattle.ec_bringup.specs.Counting.{frames_up}

-- it ended Ready, with every slave working as the plan says
pub record IsUpAndWorks (ps : List SlavePlan) (number : ℕ) (r : Rising) : Type 0 where
  pub ready : r.start.phase ≡ Ready
  pub next_number : r.start.next ≡ number
  pub count : length r.slaves ≡ length ps
  pub work : (i : ℕ) → i < length ps → Works i (plan_at ps i) (slave_of r.slaves i)

-- it hasn't ended, each frame so far took one number, and the next one can be sent
pub record IsOnItsWay (number : ℕ) (r : Rising) : Type 0 where
  pub idle : r.start.phase ≡ Idle
  pub next_number : r.start.next ≡ number
  pub good : IsDatagram (frame_at r)

-- the parameters of each slave that has any agree with what the plan assigns
pub record AllAgree (ps : List SlavePlan) : Type 0 where
  pub each : (i : ℕ) → i < length ps → has_some (plan_at ps i).kind.init ≡ true → ParametersAgree (plan_at ps i)

-- A start-up of any plan, over devices of its types in any state: if each frame passes all slaves, each slave serves once and the
-- frame comes back, the start-up is Ready after `frames_up` frames, and not before.
abbrev pub ComesUpLaw : Type 0
ComesUpLaw =
    (ps : List SlavePlan) (fs : List Feed) → ArePlansWith ps fs → AllAgree ps → (from : ℕ) (ss : List SlaveState) → AreDevices ps ss
    → let r : Rising = record { start = begun ps fs from; slaves = ss } in
    IsUpAndWorks ps (from + frames_up ps fs ss) (turns (frames_up ps fs ss) r)
    × ((k : ℕ) → k < frames_up ps fs ss → IsOnItsWay (from + k) (turns k r))

-- Of a plan without `hardware` these are as many frames as its script has actions.
abbrev pub PlainUpLaw : Type 0
PlainUpLaw =
    (ps : List SlavePlan) → ArePlans ps → is_hardware ps ≡ false → (from : ℕ) (ss : List SlaveState) → AreDevices ps ss
    → let r : Rising = record { start = begun ps [] from; slaves = ss } in
    IsUpAndWorks ps (from + length (script ps)) (turns (length (script ps)) r)
    × ((k : ℕ) → k < length (script ps) → IsOnItsWay (from + k) (turns k r))

-- Whatever state the slaves are in, these are few: no wait comes near its last poll. There is one at least, that which counts them.
abbrev pub FramesAreFew : Type 0
FramesAreFew =
    (ps : List SlavePlan) (fs : List Feed) → ArePlans ps → (ss : List SlaveState)
    → (0 < frames_up ps fs ss) × (frames_up ps fs ss ≤ 103 * (length fs + 1) * length (script ps))

-- The plan of a table that `compile` accepts is one.
abbrev pub CompiledPlansLaw : Type 0
CompiledPlansLaw = (t : Contents) → table.IsSound t → compile_fault t ≡ None → ArePlansWith (plan_of t).slaves (feeds_of (plan_of t))

-- So an undisturbed start-up of it ends Ready too.
abbrev pub CompiledUpLaw : Type 0
CompiledUpLaw =
    (t : Contents) → table.IsSound t → compile_fault t ≡ None → AllAgree (plan_of t).slaves → (from : ℕ) (ss : List SlaveState) → AreDevices (plan_of t).slaves ss
    → let ps : List SlavePlan = (plan_of t).slaves in
    let fs : List Feed = feeds_of (plan_of t) in
    let r : Rising = record { start = begun ps fs from; slaves = ss } in
    IsUpAndWorks ps (from + frames_up ps fs ss) (turns (frames_up ps fs ss) r)
    × ((k : ℕ) → k < frames_up ps fs ss → IsOnItsWay (from + k) (turns k r))

-- ---- whatever happened before

-- its SII has its own identity, and that is one of the type
pub record IsTrue (kind : SlaveKind) (s : SlaveState) : Type 0 where
  pub image : s.sii.image.identity ≡ s.identity
  pub own : IsOfType kind s.identity

pub record AreTrue (w : Starting) : Type 0 where
  pub each : (i : ℕ) → i < length w.start.plan → IsTrue (plan_at w.start.plan i).kind (slave_of w.slaves i)

-- After any run of a new segment (`Starting`), disturbed or not, its slaves are devices, so a start-up can bring them up again.
abbrev pub AgainLaw : Type 0
AgainLaw = (ps : List SlavePlan) (fs : List Feed) → ArePlans ps → AreFeedsOf ps fs → (w v : Starting) → IsNew ps fs w → AreTrue w → Runs w v → AreDevices ps v.slaves
