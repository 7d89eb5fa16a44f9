-- What a start-up holds beside its value: its place in the script, which isn't stored.
use Rattle.std.specs.Prelude.{ℕ, ◌^◌, ◌<◌, ◌≤◌, ◌≡◌, List, drop, slice_get, All, true, false, Some}
use Rattle.ec_link.specs.declared.settings.SlavePlan.{SlavePlan}
use Rattle.ec_start.specs.declared.action.Action.TheVariants.{CountSlaves}
use Rattle.ec_start.specs.declared.phase.Phase.{Phase}
use Rattle.ec_start.specs.declared.script.Stretch.TheVariants.{Opening}
use Rattle.ec_start.specs.declared.script.Step.{Step}
use Rattle.ec_start.specs.Planned.{HasFewAssigned}
use Rattle.ec_start.specs.Doable.{IsDoable}
use Rattle.ec_start.specs.Scripts.{script}
use Rattle.ec_start.specs.Running.{is_ended, is_sent, max_polls}
use Rattle.ec_start.specs.Ahead.{share_at, ahead}

abbrev pub first_step : Step
first_step = record { cursor = record { stretch = Opening; slave = 0; place = 0 }; action = CountSlaves }

-- the step is that of the place
pub record IsAtStep (ps : List SlavePlan) (place : ℕ) (s : Step) : Type 0 where
  pub ahead_is : ahead ps s.cursor ≡ drop place (script ps)
  pub here : slice_get (share_at s.cursor.stretch ps s.cursor.slave) s.cursor.place ≡ Some s.action
  pub doable : IsDoable s.action
  pub low : s.cursor.slave ≤ 64
  pub small : s.cursor.place ≤ place

pub record IsHeld (ps : List SlavePlan) (next place fed polls : ℕ) (phase : Phase) (s : Step) : Type 0 where
  pub assigned : All HasFewAssigned ps
  -- each place took a number, and each part that was fed
  pub numbers : place ≤ next
  pub fed_numbers : fed ≤ next
  pub fits : next < 2 ^ 64
  pub sent : is_sent phase ≡ true → place < next
  pub fed_sent : is_sent phase ≡ true → fed < next
  pub polls_left : polls < max_polls
  pub at_step : is_ended phase ≡ false → IsAtStep ps place s
