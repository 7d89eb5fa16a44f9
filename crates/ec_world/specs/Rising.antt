-- What holds of a world that starts up: the start-up's own invariant, its frame in the lowest slot, and a master that waits.
use Rattle.std.specs.Prelude.{ℕ, ◌<◌, ◌≡◌, ◌≢◌, List, length, get_or, Bool, Option, Some, None, true}
use Rattle.ec_start.specs.Feeding.{feeds_of}
use Rattle.ec_bringup.specs.Starting.{Starting, Carried}
use Rattle.ec_bringup.specs.Instants.{Starts}
use Rattle.ec_bringup.specs.Slots.{IsCarried}
use Rattle.ec_bringup.specs.Runs.{ends_of}
use Rattle.ec_cycle.specs.Closing.{ReportState}
use Rattle.ec_world.specs.Refines.{CountersPredicted}
use Rattle.ec_world.specs.World.{WorldState, Flight, is_up, slave_of}
use Rattle.ec_slave.specs.State.{SlaveState}
use Rattle.ec_slave.specs.Interface.{AreWhole}
use Rattle.ec_slave.specs.HardwareLaws.{AwaitsOutsideOp}

-- one frame in the lowest slot, or none in any
pub record IsInSlot (slots : List (Option Flight)) (c : Carried) : Type 0 where
  pub flight : Flight
  pub first : get_or slots 0 None ≡ Some flight
  pub others : (k : ℕ) → k ≢ 0 → get_or slots k None ≡ None
  pub number : flight.number ≡ c.number
  pub part : flight.part ≡ 0
  pub passed : flight.passed ≡ c.passed
  pub carried : IsCarried flight.bytes c

abbrev pub SlotsHold : List (Option Flight) → Option Carried → Type 0
SlotsHold slots None = (k : ℕ) → get_or slots k None ≡ None
SlotsHold slots (Some c) = IsInSlot slots c

-- the values of a slave's managers are as long as their settings say, and in OP no outputs are awaited
pub record IsFit (s : SlaveState) : Type 0 where
  pub whole : AreWhole s
  pub awaits : AwaitsOutsideOp s

-- what the start-up's invariant sees of a world
abbrev pub starting_of : WorldState → List Bool → Option Carried → Starting
starting_of w flags slot = record { start = w.start; slaves = w.slaves; troubles = flags; slot = slot }

pub record Rising (flags : List Bool) (w : WorldState) : Type 0 where
  pub same_plan : w.start.plan ≡ w.plan.slaves
  pub same_feeds : w.start.feeds ≡ feeds_of w.plan
  pub slot : Option Carried
  pub starts : Starts (ends_of w.plan.slaves) (starting_of w flags slot)
  pub slots : SlotsHold w.slots slot
  pub some_slots : 0 < length w.slots
  pub fit : (i : ℕ) → IsFit (slave_of w i)
  pub master_plan : w.master.plan ≡ w.plan
  pub no_cycle : w.master.cycle ≡ None
  pub master_ready : is_up w.start ≡ true → w.master.is_ready ≡ true
  -- the report of the last cycle before a stop
  pub reported : (r : ReportState) → w.report ≡ Some r → CountersPredicted w.plan r
