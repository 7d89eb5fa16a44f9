-- What a watcher saw of a run is noted.
use Rattle.std.proofs.Common.{ℕ, refl, sym, subst, List, [], ◌∷◌, ◌++◌}
use Rattle.ec_capture.specs.Captures.{Captured}
use Rattle.ec_capture.specs.Recordings.{Notes}
use Rattle.ec_capture.proofs.Noting.{notes_nothing, notes_then}
use Rattle.ec_world.specs.declared.event.Event.{Event}
use Rattle.ec_world.specs.World.{WorldState}
use Rattle.ec_simulation.specs.Observing.{ObservedAll, Observes}
use Rattle.cmd_sim.specs.CapturedEvents.{CapturesEvent, Watched, next_event, captured_of}
use Rattle.cmd_sim.specs.Capturing.{NotesRun, RunIsCaptured}

-- the same of these events
pub record IsShown (es : List Event) (a : Watched) (w v : WorldState) (b : Watched) : Type 0 where
  pub seen : List Captured
  pub shows : RunIsCaptured a.events w es v seen
  pub notes : Notes seen a.capture b.capture

all_shown : (es : List Event) (a b : Watched) (w v : WorldState) → ObservedAll CapturesEvent a w es v b → IsShown es a w v b
all_shown [] a b w v (same, kept) = record {
  seen = [];
  shows = (same, refl);
  notes = subst (λ (c : Watched). Notes [] a.capture c.capture) (sym kept) (notes_nothing a.capture);
}
all_shown (e ∷ es) a b w v (x, c, step, observed, rest) =
    let more : IsShown es c x v b = all_shown es c b x v rest in
    record {
      seen = captured_of (next_event a.events) w e x ++ more.seen;
      shows = (x, more.seen, step, subst (λ (n : ℕ). RunIsCaptured n x es v more.seen) observed.events more.shows, refl);
      notes = notes_then (captured_of (next_event a.events) w e x) more.seen a.capture c.capture b.capture observed.notes more.notes;
    }

pub run_noted : (a b : Watched) (w v : WorldState) → Observes CapturesEvent a w v b → NotesRun a w v b
run_noted a b w v sees =
    let all : IsShown sees.events a w v b = all_shown sees.events a b w v sees.observed_all in
    record { events = sees.events; seen = all.seen; shows = all.shows; notes = all.notes }
