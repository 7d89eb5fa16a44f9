-- A start-up that is brought up over a ring, whatever its slaves are: turn after turn, until it has ended.
use Rattle.std.specs.Prelude.{◌≡◌, ◌≢◌, List, true}
use Rattle.ec_start.specs.declared.phase.Phase.TheVariants.{Idle, Failed}
use Rattle.ec_start.specs.declared.error.StartError.TheVariants.{NumbersSpent}
use Rattle.ec_slave.specs.State.{SlaveState}
use Rattle.ec_start.specs.Running.{StartState, is_ended, last_number}
use Rattle.ec_bringup.specs.Undisturbed.{Rising, turned}

abbrev pub rising : StartState → List SlaveState → Rising
rising start slaves = record { start = start; slaves = slaves }

-- Where it leads: an ended start-up rests, one without a number left fails, and any other makes a turn and goes on.
pub data IsBroughtTo : Rising → Rising → Type 0 where
  Rests : (r : Rising) → is_ended r.start.phase ≡ true → IsBroughtTo r r
  RunsOut : (r : Rising) → r.start.phase ≡ Idle → r.start.next ≡ last_number → IsBroughtTo r (record r { start = record r.start { phase = Failed NumbersSpent } })
  Turns : (r e : Rising) → r.start.phase ≡ Idle → r.start.next ≢ last_number → IsBroughtTo (turned r) e → IsBroughtTo r e
