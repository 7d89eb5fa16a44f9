-- What a capture holds of lines that were run (this project's profile).
use Rattle.std.specs.Prelude.{ℕ, ◌≡◌, List, [], ◌∷◌, ◌++◌, true}
use Rattle.ec_capture.specs.Captures.{Captured}
use Rattle.ec_capture.specs.Recordings.{Notes}
use Rattle.ec_world.specs.declared.event.Event.{Event}
use Rattle.ec_world.specs.World.{WorldState, IsStep}
use Rattle.cmd_sim.specs.CapturedEvents.{Watched, next_event, captured_of}

-- what is captured of events that were all made, one after another, behind n others
abbrev pub RunIsCaptured : ℕ → WorldState → List Event → WorldState → List Captured → Type 0
RunIsCaptured n w [] v seen = (v ≡ w) × (seen ≡ [])
RunIsCaptured n w (e ∷ es) v seen = (x : WorldState) × (rest : List Captured) × IsStep w e x true × RunIsCaptured (next_event n) x es v rest
    × (seen ≡ captured_of (next_event n) w e x ++ rest)

-- Lines were run from one world to another, and a capture notes it. Events that were all made lead from the one to the other. All that
-- is captured of them is noted, in order, and nothing else.
pub record NotesRun (a : Watched) (w v : WorldState) (b : Watched) : Type 0 where
  pub events : List Event
  pub seen : List Captured
  pub shows : RunIsCaptured a.events w events v seen
  pub notes : Notes seen a.capture b.capture
