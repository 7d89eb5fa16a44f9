use Rattle.ec_frame.specs.Frame.{Payload, IsFrame}
use Rattle.ec_cycle.proofs.CursorSteps.{IsComparing}
use Rattle.ec_cycle.proofs.matching.answers.Given as goal

abbrev pub invariant-loop-n : goal.invariant-loop-n
invariant-loop-n l = (p : Payload) (q : Payload) → IsFrame l.payload p → IsFrame l.sent q → IsComparing l.payload l.sent p.datagrams q.datagrams l.n l.places l.sent_places
