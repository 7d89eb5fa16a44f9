-- What a watcher keeps of the events of a line.
use Rattle.std.specs.Prelude.{◌≡◌, List, [], ◌∷◌, true}
use Rattle.ec_world.specs.declared.event.Event.{Event}
use Rattle.ec_world.specs.World.{WorldState, IsStep}

-- events one after another, each of which was made and seen
abbrev pub ObservedAll : {S : Type 0} → (S → WorldState → Event → WorldState → S → Type 0) → S → WorldState → List Event → WorldState → S → Type 0
ObservedAll {S} observed a w [] v b = (v ≡ w) × (b ≡ a)
ObservedAll {S} observed a w (e ∷ es) v b = (x : WorldState) × (c : S) × IsStep w e x true × observed a w e x c × ObservedAll observed c x es v b

-- A watcher saw each event of a run from one world to another, and nothing else.
pub record Observes {S : Type 0} (observed : S → WorldState → Event → WorldState → S → Type 0) (a : S) (w v : WorldState) (b : S) : Type 0 where
  pub events : List Event
  pub observed_all : ObservedAll observed a w events v b
