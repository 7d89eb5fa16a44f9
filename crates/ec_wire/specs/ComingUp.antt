-- A start-up over a wire that carries each frame past all slaves and back.
use Rattle.std.specs.Prelude.{ℕ, ◌+◌, ◌≤◌, ◌≡◌, List, true, false}
use Rattle.ec_slave.specs.State.{SlaveState}
use Rattle.ec_link.specs.declared.settings.SlavePlan.{SlavePlan}
use Rattle.ec_start.specs.declared.action.Feed.{Feed}
use Rattle.ec_start.specs.Running.{StartState, begun, last_number}
use Rattle.ec_bringup.specs.Undisturbed.{ArePlansWith, AreDevices}
use Rattle.ec_bringup.specs.BringUp.{rising}
use Rattle.ec_bringup.specs.ComesUp.{AllAgree, IsUpAndWorks}
use Rattle.ec_bringup.specs.Counting.{frames_up}
use Rattle.ec_wire.specs.Wires.{WireState, Carries, is_fault, has_payloads}
use Rattle.ec_wire.specs.Segments.{AreTreated}

-- an application that may make any inputs
abbrev pub AnyInputs : List ℕ → List ℕ → Type 0
AnyInputs outputs inputs = Unit {0}

-- The wire's state has each payload that it carried, and no call was a fault. At the other end, a segment treated each sent payload,
-- in order. A frame passed all slaves, each of which then served and let its application step. The answers are what was received.
pub record IsCarriedPast (old new : WireState) (before after : List SlaveState) : Type 0 where
  pub sent_is_known : has_payloads old.sent ≡ true
  pub received_is_known : has_payloads old.received ≡ true
  pub fine : is_fault old new ≡ false
  pub sent : List (List ℕ)
  pub received : List (List ℕ)
  pub carried : Carries old new sent received
  pub treated : AreTreated AnyInputs before sent after received

-- Over such a wire, with devices of its types in any state at the other end, a new start-up of a complete plan ends Ready, if the
-- types' parameters agree with it. It sends `frames_up` frames, and then every slave works as planned.
abbrev pub ComesUpOver : (s e : StartState) (old new : WireState) → Type 0
ComesUpOver s e old new =
    (ps : List SlavePlan) (fs : List Feed) (from : ℕ) (before after : List SlaveState) → ArePlansWith ps fs → AllAgree ps → s ≡ begun ps fs from → AreDevices ps before → from + frames_up ps fs before ≤ last_number
    → IsCarriedPast old new before after → IsUpAndWorks ps (from + frames_up ps fs before) (rising e after)
