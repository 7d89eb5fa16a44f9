use Rattle.std.proofs.Common.{◌-◌}
use Rattle.ec_frame.specs.Frame.{Payload, IsFrame}
use Rattle.ec_frame.proofs.Numbers.{IsBytes}
use Rattle.ec_frame.proofs.Steps.{Progress}
use Rattle.ec_frame.proofs.walk.pass.Given as goal

abbrev pub invariant-loop-span : goal.invariant-loop-span
invariant-loop-span g l = record {
  bytes : IsBytes l.frame;
  progress : (p : Payload) → IsFrame l.fn.frame p → Progress g.H.Handler.handled g.H.Handler.after l.fn.handler p.reserved p.datagrams p.rest l.handler l.frame l.places;
}

abbrev pub decreases-loop-span : goal.decreases-loop-span
decreases-loop-span g l = l.places.end - l.places.at
