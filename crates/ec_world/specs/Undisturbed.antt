-- A cycle that nothing disturbs; and how each cause that the headline names keeps a unit from being taken.
use Rattle.std.specs.Prelude.{ℕ, zero, suc, ◌+◌, ◌<◌, ◌≡◌, List, [], ◌∷◌, ◌++◌, length, replicate, true, false, Some, None}
use Rattle.ec_device.specs.declared.slave_type.Identity.{Identity}
use Rattle.ec_table.specs.declared.rows.Direction.TheVariants.{In}
use Rattle.ec_table.specs.Contents.{Contents}
use Rattle.ec_link.specs.LinkRuns.{IsLinked}
use Rattle.ec_link.specs.Plan.{plan_of}
use Rattle.ec_cycle.specs.Closing.{ReportState}
use Rattle.ec_cycle.specs.Master.{cycle_limit}
use Rattle.ec_world.specs.declared.event.Event.{Event}
use Rattle.ec_world.specs.declared.event.Event.TheVariants.{Begin, Pass, Lose, Return, Close, Fault}
use Rattle.ec_world.specs.World.{WorldState, flight_at, is_up}
use Rattle.ec_world.specs.Laws.{IsRun}
use Rattle.ec_world.specs.Whole.{IsNew}
use Rattle.ec_world.specs.Headline.{variable_bit, input_bit, IsInOp, unit_of, unit_of_part, output_bits, ShowsLinked, Says}

-- ---- the events of a cycle

-- the frame in slot k passes n slaves, and comes back
abbrev pub round_of : (n k : ℕ) → List Event
round_of n k = replicate n (Pass k) ++ (Return k ∷ [])

-- one frame after another, the first in slot k
abbrev pub rounds_of : (n k count : ℕ) → List Event
rounds_of n k zero = []
rounds_of n k (suc count) = round_of n k ++ rounds_of n (k + 1) count

-- a cycle: its frames go into the lowest slots, one for each part of the plan
abbrev pub cycle_of : Contents → List Event
cycle_of t = Begin ∷ (rounds_of (length t.slaves) 0 (length (plan_of t).parts) ++ (Close ∷ []))

-- no cycle is open, no frame on its way, there are numbers left, and each slave is in OP
pub record IsAtRest (t : Contents) (w : WorldState) : Type 0 where
  pub no_cycle : w.master.cycle ≡ None
  pub no_frame : (k : ℕ) → flight_at w k ≡ None
  pub numbers : w.master.next < cycle_limit
  pub in_op : (s : ℕ) → s < length t.slaves → IsInOp w s

-- A new world of a table that `compile` accepts came by some events to w, which is Ready and at rest.
pub record Rests (t : Contents) (identities : List Identity) (w : WorldState) : Type 0 where
  pub old : WorldState
  pub new : IsNew t identities old
  pub events : List Event
  pub made : ℕ
  pub reached : IsRun old events w made
  pub up : is_up w.start ≡ true
  pub at_rest : IsAtRest t w

-- ---- it is taken

-- All events were made, and every unit was taken. Each slave shows exactly its linked output bits, as the variables were before
-- the cycle, and each linked input bit is the one that its slave had published.
pub record IsExchanged (t : Contents) (w v : WorldState) (made : ℕ) : Type 0 where
  pub all_made : made ≡ length (cycle_of t)
  pub report : ReportState
  pub reported : v.report ≡ Some report
  pub taken : (u : ℕ) → Says report u true
  pub outputs : (s : ℕ) → s < length t.slaves → ShowsLinked t w v s
  pub inputs : (x b s o : ℕ) → IsLinked t In x b s o → variable_bit v x b ≡ input_bit w s o

abbrev pub UndisturbedLaw : Type 0
UndisturbedLaw =
    (t : Contents) (identities : List Identity) (w : WorldState) → Rests t identities w
    → (v : WorldState) (count : ℕ) → IsRun w (cycle_of t) v count → IsExchanged t w v count

-- ---- and each cause occurs

-- all of so many events were made, and unit u was not taken
pub record IsSpoiled (v : WorldState) (u made count : ℕ) : Type 0 where
  pub all_made : made ≡ count
  pub report : ReportState
  pub reported : v.report ≡ Some report
  pub missed : Says report u false

-- the frame of part k is lost: its unit is not taken
abbrev pub LossLaw : Type 0
LossLaw =
    (t : Contents) (identities : List Identity) (w : WorldState) → Rests t identities w → (k : ℕ) → k < length (plan_of t).parts
    → (v : WorldState) (made : ℕ) → IsRun w (Begin ∷ Lose k ∷ Close ∷ []) v made → IsSpoiled v (unit_of_part t k) made 3

-- the cycle is closed before the frame of part k is back
abbrev pub EarlyLaw : Type 0
EarlyLaw =
    (t : Contents) (identities : List Identity) (w : WorldState) → Rests t identities w → (k : ℕ) → k < length (plan_of t).parts
    → (v : WorldState) (made : ℕ) → IsRun w (Begin ∷ Close ∷ []) v made → IsSpoiled v (unit_of_part t k) made 2

-- slave s, which has outputs, has a fault: the frames of the cycle all come back, and its unit is not taken
abbrev pub ShortLaw : Type 0
ShortLaw =
    (t : Contents) (identities : List Identity) (w : WorldState) → Rests t identities w → (s : ℕ) → s < length t.slaves → 0 < output_bits t s
    → (v : WorldState) (made : ℕ) → IsRun w (Fault s ∷ cycle_of t) v made → IsSpoiled v (unit_of t s) made (1 + length (cycle_of t))
