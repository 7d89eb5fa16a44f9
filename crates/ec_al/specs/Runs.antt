-- What happens to a slave's AL state machine, one event after another.
use Rattle.std.specs.Prelude.{ℕ, List, [], ◌∷◌}
use Rattle.ec_al.specs.Al.{Al, power_on, requesting, stepped, waiting, faulted}
use Rattle.ec_al.specs.declared.transition.Checks.{Checks}

pub data Event : Type 0 where
  -- the master writes the AL control word
  Request : Event
  -- a firmware step, with the control word and the configuration as they then stand
  Step : ℕ → Checks → Event
  -- a firmware step of a slow device, which lets the request wait
  Wait : Event
  -- the application has a fault
  Fault : Event
  -- the power goes off and on
  Reset : Event

abbrev pub after : Al → Event → Al
after al Request = requesting al
after al (Step control checks) = stepped al control checks
after al Wait = waiting al
after al Fault = faulted al
after al Reset = power_on

-- after all of a list of events, in order
abbrev pub after_all : Al → List Event → Al
after_all al [] = al
after_all al (event ∷ events) = after_all (after al event) events
