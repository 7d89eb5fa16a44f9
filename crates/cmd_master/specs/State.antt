-- The state of a master over a wire that lines move.
use Rattle.std.specs.Prelude.{List, Option}
use Rattle.ec_asking.specs.declared.answer.AlStatus.{AlStatus}
use Rattle.ec_session.specs.Sessions.{SessionState}
use Rattle.ec_wire.specs.Wires.{WireState}
use Rattle.ec_console.specs.declared.wanted.Manner.{Manner}

-- its session, its wire, whether it prints reasons, and what the slaves said of their AL states when they were read last
pub record MasteredState : Type 0 where
  pub session : SessionState
  pub wire : WireState
  pub manner : Manner
  pub states : List (Option AlStatus)
