use Rattle.std.proofs.Common.{◌≡◌, length, take}
use Rattle.ec_session.specs.Asking.{AreRead}
use Rattle.ec_session.proofs.session.Session.read_states.Given as goal

abbrev pub invariant-loop-slave : goal.invariant-loop-slave
invariant-loop-slave g l = record {
  read : AreRead 0 l.initial.self (g.W.Wire.state l.initial.wire) (take l.slave l.states) l.self (g.W.Wire.state l.wire);
  end : l.slave-end ≡ length l.states;
}
