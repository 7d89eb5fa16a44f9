-- What the turns of an undisturbed start-up lead to, in words of stages.
use Rattle.std.specs.Prelude.{ℕ, ◌+◌, ◌<◌, ◌≡◌, List, length, false}
use Rattle.ec_slave.specs.State.{SlaveState}
use Rattle.ec_link.specs.declared.settings.SlavePlan.{SlavePlan}
use Rattle.ec_start.specs.declared.action.Feed.{Feed}
use Rattle.ec_start.specs.Running.{begun}
use Rattle.ec_start.specs.declared.phase.Phase.TheVariants.{Ready}
use Rattle.ec_bringup.specs.Stages.{Up, end_of}
use Rattle.ec_bringup.specs.Standing.{Stands}
use Rattle.ec_bringup.specs.Undisturbed.{Rising, plan_at, slave_of, ArePlansWith, AreDevices}
use Rattle.ec_bringup.specs.BringUp.{rising}
use Rattle.ec_bringup.specs.Applied.{TurnsTo}
use Rattle.ec_bringup.specs.ComesUp.{AllAgree, IsOnItsWay}
use Rattle.ec_bringup.specs.Counting.{frames_up}

-- Ready, with every slave at the end of the script
pub record IsBroughtUp (ps : List SlavePlan) (number : ℕ) (r : Rising) : Type 0 where
  pub ready : r.start.phase ≡ Ready
  pub numbers : r.start.next ≡ number
  pub count : length r.slaves ≡ length ps
  pub slaves : (i : ℕ) → i < length ps → Stands (plan_at ps i).kind i (Up (end_of (plan_at ps i))) false (slave_of r.slaves i)

-- Each wait has as many polls as it takes, whatever applications do between the frames.
abbrev pub StandsUpLaw : Type 0
StandsUpLaw =
    (ps : List SlavePlan) (fs : List Feed) → ArePlansWith ps fs → AllAgree ps → (from : ℕ) (ss : List SlaveState) → AreDevices ps ss → (k : ℕ) (e : Rising) → TurnsTo k (rising (begun ps fs from) ss) e
    → (k < frames_up ps fs ss → IsOnItsWay (from + k) e) × (k ≡ frames_up ps fs ss → IsBroughtUp ps (from + k) e)
