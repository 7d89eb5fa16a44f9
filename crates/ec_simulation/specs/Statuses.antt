-- The AL states of a world's slaves, as a master reads them (ETG.1000.6, "AL status"). `ec_losses` says that a frame reads them so.
use Rattle.std.specs.Prelude.{ℕ, zero, suc, ◌+◌, ◌*◌, ◌==◌, ◌&&◌, List, [], ◌∷◌, length, if◌then◌else◌, Option, Some, None}
use Rattle.ec_start.specs.Actions.{station}
use Rattle.ec_slave.specs.State.{station_of}
use Rattle.ec_world.specs.World.{WorldState, is_slave, slave_of}
use Rattle.ec_asking.specs.declared.answer.AlStatus.{AlStatus}
use Rattle.ec_script.specs.declared.output.LineOutput.{LineOutput}
use Rattle.ec_script.specs.declared.output.LineOutput.TheVariants.{States}
use Rattle.ec_simulation.specs.Inputs.{slave_byte}

-- the word at an address of slave s
abbrev pub register_word : WorldState → ℕ → ℕ → ℕ
register_word w s a = slave_byte w s a + 256 * slave_byte w s (a + 1)

-- AL status (0x0130) and its code (0x0134), if the slave has its station address
abbrev pub status_of : WorldState → ℕ → Option AlStatus
status_of w s = if is_slave w s && (station_of (slave_of w s) == station s) then Some (record { word = register_word w s 0x0130; code = register_word w s 0x0134 }) else None

-- of n slaves from number s on
abbrev pub statuses_from : WorldState → ℕ → ℕ → List (Option AlStatus)
statuses_from w s zero = []
statuses_from w s (suc n) = status_of w s ∷ statuses_from w (s + 1) n

-- of all slaves
abbrev pub statuses : WorldState → List (Option AlStatus)
statuses w = statuses_from w 0 (length w.slaves)

-- no other output prints them
abbrev pub states_for : WorldState → LineOutput → List (Option AlStatus)
states_for w States = statuses w
states_for w _ = []
