-- Frames of another master: they pass the slaves of a world whose own master rests.
use Rattle.std.specs.Prelude.{◌≡◌, List, ℕ, map}
use Rattle.ec_slave.specs.State.{SlaveState}
use Rattle.ec_slave.specs.Serving.{served}
use Rattle.ec_ring.specs.Rings.{HasPassedRing, IsNoFrame}
use Rattle.ec_world.specs.World.{WorldState}

-- A frame from outside passes all slaves, and then each makes a firmware step. The answer is the frame as it is behind the last slave.
-- Nothing else changes.
pub record IsCarried (old : WorldState) (payload : List ℕ) (new : WorldState) (answer : List ℕ) : Type 0 where
  pub is_frame : IsNoFrame payload → ⊥
  pub passed : List SlaveState
  pub ring : HasPassedRing old.slaves payload passed answer
  pub is : new ≡ record old { slaves = map served passed }
