-- Which slots are in use; and a slot and a ring of slaves, as a frame passes its next slave.
use Rattle.std.specs.Prelude.{ℕ, ◌+◌, ◌-◌, ◌^◌, ◌≡◌, ◌≤◌, List, Option, Some, None, get_or, if◌then◌else◌, length, min, set, slice_get, take, true}
use Rattle.ec_frame.specs.Frame.{Payload, IsFrame}
use Rattle.ec_slave.specs.State.{SlaveState}
use Rattle.ec_ring.specs.Rings.{IsPassedAt}
use Rattle.ec_world.specs.declared.progress.Progress.{Progress}
use Rattle.ec_world.specs.Plain.{is_older}
use Rattle.ec_world.specs.World.{Flight, flight_progress}

-- all slots with number k or more are free
pub record AreFreeFrom (slots : List (Option Flight)) (k : ℕ) : Type 0 where
  pub within : k ≤ length slots
  pub free : (i : ℕ) → k ≤ i → get_or slots i None ≡ None

-- the first of the slots; all behind them are free
pub record AreInUse (slots used : List (Option Flight)) : Type 0 where
  pub is : used ≡ take (length used) slots
  pub behind : AreFreeFrom slots (length used)

-- more slaves than there can be
abbrev pub no_end : ℕ
no_end = 2 ^ 64 - 1

-- `far` slaves, but no more than an older frame has passed
abbrev pub clearance_behind : Progress → ℕ → Option Progress → ℕ
clearance_behind f far None = far
clearance_behind f far (Some g) = if is_older g f then min far g.passed else far

-- every frame that is older than the one in slot k has passed at least `until` slaves
abbrev pub HasClearance : List (Option Flight) → ℕ → ℕ → Type 0
HasClearance slots k until =
    (i : ℕ) (f g : Flight) → get_or slots k None ≡ Some f → get_or slots i None ≡ Some g → is_older (flight_progress g) (flight_progress f) ≡ true
    → until ≤ g.passed

-- what slots keep true: those with number `used` or more are free, and the frame in slot k has its clearance
pub record AreHeld (slots : List (Option Flight)) (used k until : ℕ) : Type 0 where
  pub free : AreFreeFrom slots used
  pub clearance : HasClearance slots k until

-- what is in a slot is a frame of datagrams
abbrev pub HoldsFrame : Option Progress → List ℕ → Type 0
HoldsFrame None bytes = Unit {0}
HoldsFrame (Some progress) bytes = (p : Payload) × IsFrame bytes p

-- the slaves and the frame, before and after
pub record HasPassed (slaves : List SlaveState) (f : Flight) (after : List SlaveState) (slot : Option Flight) : Type 0 where
  pub bytes : List ℕ
  pub met : (s : SlaveState) → slice_get slaves f.passed ≡ Some s → IsPassedAt slaves f.passed s f.bytes after bytes
  pub is : slot ≡ Some (record f { bytes = bytes; passed = f.passed + 1 })

-- as above for the frame in slot k; the other slots stay
pub record HavePassed (slaves : List SlaveState) (slots : List (Option Flight)) (k : ℕ) (f : Flight) (after : List SlaveState) (slots_after : List (Option Flight)) : Type 0 where
  pub slot : Option Flight
  pub passed : HasPassed slaves f after slot
  pub is : slots_after ≡ set slots k slot
