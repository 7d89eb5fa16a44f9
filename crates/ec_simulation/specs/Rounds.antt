-- The events by which frames go round the slaves.
use Rattle.std.specs.Prelude.{ℕ, ◌+◌, ◌==◌, List, [], ◌∷◌, ◌++◌, length, replicate, max, Bool, false, if◌then◌else◌, Option, Some, None}
use Rattle.ec_world.specs.declared.event.Event.{Event}
use Rattle.ec_world.specs.declared.event.Event.TheVariants.{Pass, Return}
use Rattle.ec_world.specs.NewWorld.{servings}
use Rattle.ec_world.specs.World.{Flight, WorldState}

-- the greatest number of the frames in these slots; 0 without one
abbrev pub greatest : List (Option Flight) → ℕ
greatest [] = 0
greatest (None ∷ slots) = greatest slots
greatest (Some f ∷ slots) = max f.number (greatest slots)

abbrev pub has_number : ℕ → Option Flight → Bool
has_number n None = false
has_number n (Some f) = f.number == n

-- the slots that hold a frame with this number, rising; the first slot is k
abbrev pub slots_with : ℕ → ℕ → List (Option Flight) → List ℕ
slots_with n k [] = []
slots_with n k (slot ∷ slots) = if has_number n slot then k ∷ slots_with n (k + 1) slots else slots_with n (k + 1) slots

-- the frame in slot k passes n slaves, which then each serve once if they are to, and comes back
abbrev pub round_events : ℕ → Bool → ℕ → List Event
round_events n serving k = replicate n (Pass k) ++ ((if serving then servings 0 n else []) ++ (Return k ∷ []))

-- frame after frame
abbrev pub rounds : ℕ → Bool → List ℕ → List Event
rounds n serving [] = []
rounds n serving (k ∷ ks) = round_events n serving k ++ rounds n serving ks

-- the newest frames of a world go round
abbrev pub rounds_found : Bool → WorldState → List Event
rounds_found serving w = rounds (length w.slaves) serving (slots_with (greatest w.slots) 0 w.slots)
