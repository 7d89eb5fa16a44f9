-- What is captured of the frames of a world, event by event (this project's profile). Interface 0 is the master's, and interface
-- s + 1 is behind slave s. The time is the number of the event among those that were made, counted from 1.
use Rattle.std.specs.Prelude.{ℕ, zero, suc, ◌+◌, ◌-◌, ◌^◌, ◌≡◌, List, [], ◌∷◌, ◌++◌, length, min, Bool, true, false, nat_lt, Option, None, Some, codes}
use Rattle.ec_capture.specs.Captures.{Captured}
use Rattle.ec_capture.specs.Recordings.{Notes, Recording}
use Rattle.ec_world.specs.declared.event.Event.{Event}
use Rattle.ec_world.specs.declared.event.Event.TheVariants.{StartNext, Set, Begin, Pass, Lose, Return, Close, Serve, AppPut, AppGet, Fault, Reset, Stop}
use Rattle.ec_world.specs.Watching.{sent_of}
use Rattle.ec_world.specs.World.{Flight, IsStep, WorldState, can_happen, flight_at}

-- ---- frames

-- a frame where it is: at the master before it has passed a slave, else behind the slave that it passed last
abbrev pub captured_at : ℕ → Option (List ℕ) → Flight → Captured
captured_at time comment f = record { interface = f.passed; time = time; passed = nat_lt 0 f.passed; payload = f.bytes; comment = comment }

-- the frame in a slot, if there is one
abbrev pub captured_if : ℕ → Option (List ℕ) → Option Flight → List Captured
captured_if time comment None = []
captured_if time comment (Some f) = captured_at time comment f ∷ []

-- a frame that comes back to the master
abbrev pub captured_back : ℕ → Option Flight → List Captured
captured_back time None = []
captured_back time (Some f) = record { interface = 0; time = time; passed = nat_lt 0 f.passed; payload = f.bytes; comment = None } ∷ []

-- a frame that the master sends
abbrev pub captured_sent : ℕ → Option (List ℕ) → List Captured
captured_sent time None = []
captured_sent time (Some bytes) = record { interface = 0; time = time; passed = false; payload = bytes; comment = None } ∷ []

-- the frames of the first n parts of the open cycle
abbrev pub captured_parts : ℕ → WorldState → ℕ → List Captured
captured_parts time w zero = []
captured_parts time w (suc n) = captured_parts time w n ++ captured_sent time (sent_of w n)

-- ---- events

-- the comment on a frame that is lost
abbrev pub lost_here : List ℕ
lost_here = codes "lost here"

abbrev pub comment_if : Bool → Option (List ℕ)
comment_if true = Some lost_here
comment_if false = None

-- what is captured of a frame before it leaves: it is lost where it is, or comes back
abbrev pub captured_before : ℕ → WorldState → Event → List Captured
captured_before time w (Lose k) = captured_if time (Some lost_here) (flight_at w k)
captured_before time w (Return k) = captured_back time (flight_at w k)
captured_before time w StartNext = []
captured_before time w (Set v x) = []
captured_before time w Begin = []
captured_before time w (Pass k) = []
captured_before time w Close = []
captured_before time w (Serve s) = []
captured_before time w (AppPut s i x) = []
captured_before time w (AppGet s i) = []
captured_before time w (Fault s) = []
captured_before time w (Reset s) = []
captured_before time w Stop = []

-- what is captured of frames that an event has sent, or of the frame behind the slave that it has passed by it
abbrev pub captured_after : ℕ → Event → WorldState → List Captured
captured_after time StartNext w = captured_if time None (flight_at w 0)
captured_after time Begin w = captured_parts time w (length w.master.plan.parts)
captured_after time (Pass k) w = captured_if time None (flight_at w k)
captured_after time (Lose k) w = []
captured_after time (Return k) w = []
captured_after time (Set v x) w = []
captured_after time Close w = []
captured_after time (Serve s) w = []
captured_after time (AppPut s i x) w = []
captured_after time (AppGet s i) w = []
captured_after time (Fault s) w = []
captured_after time (Reset s) w = []
captured_after time Stop w = []

-- what is captured of an event that was made
abbrev pub captured_of : ℕ → WorldState → Event → WorldState → List Captured
captured_of time old event new = captured_before time old event ++ captured_after time event new

-- ---- a capture of it

-- What is known of a capture of a world: what was noted, and how many events were made.
pub record Watched : Type 0 where
  pub capture : Recording
  pub events : ℕ

-- the number of the next event, up to the last value of the count
abbrev pub next_event : ℕ → ℕ
next_event n = min (n + 1) (2 ^ 64 - 1)

-- An event was made, and exactly what is captured of it is noted.
pub record CapturesEvent (a : Watched) (old : WorldState) (event : Event) (new : WorldState) (b : Watched) : Type 0 where
  pub events : b.events ≡ next_event a.events
  pub notes : Notes (captured_of (next_event a.events) old event new) a.capture b.capture

-- Events one after another. Each is made if it can be made. Exactly what is captured of those that were made is noted, in order.
abbrev pub CapturesRun : Watched → WorldState → List Event → WorldState → Watched → Type 0
CapturesRun a w [] v b = (v ≡ w) × (b ≡ a)
CapturesRun a w (e ∷ es) v b =
    (x : WorldState) × (c : Watched) × (made : Bool) × IsStep w e x made × (made ≡ true → CapturesEvent a w e x c) × (made ≡ false → c ≡ a) × CapturesRun c x es v b

-- whether an event can be made and lets a frame leave the world
abbrev pub leaves : WorldState → Event → Bool
leaves w (Lose k) = can_happen w (Lose k)
leaves w (Return k) = can_happen w (Return k)
leaves w StartNext = false
leaves w (Set v x) = false
leaves w Begin = false
leaves w (Pass k) = false
leaves w Close = false
leaves w (Serve s) = false
leaves w (AppPut s i x) = false
leaves w (AppGet s i) = false
leaves w (Fault s) = false
leaves w (Reset s) = false
leaves w Stop = false
