-- AL states that a master reads by frames, beside those of the world.
use Rattle.std.specs.Prelude.{◌≡◌, ◌≢◌, ◌<◌, ℕ, length}
use Rattle.ec_slave.specs.State.{station_of}
use Rattle.ec_ring.specs.Rings.{passes_ring}
use Rattle.ec_start.specs.Actions.{station}
use Rattle.ec_asking.specs.declared.question.Question.TheVariants.{Status}
use Rattle.ec_asking.specs.Questions.{question_frame, told_in}
use Rattle.ec_world.specs.World.{WorldState, slave_of}
use Rattle.ec_simulation.specs.Statuses.{status_of}

-- The frame that reads the AL status of slave s passes all slaves of a world, no other of which has this slave's station address. It brings
-- back what the world says.
abbrev pub StatusesAreRead : Type 0
StatusesAreRead =
    (w : WorldState) (s count : ℕ) → s < length w.slaves → s < 64 → ((j : ℕ) → j < length w.slaves → j ≢ s → station s ≢ station_of (slave_of w j))
    → told_in (passes_ring w.slaves (question_frame (Status s) count)).datagrams ≡ status_of w s
