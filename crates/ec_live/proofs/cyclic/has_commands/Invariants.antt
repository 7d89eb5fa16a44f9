use Rattle.ec_frame.specs.Frame.{IsFrame, Payload}
use Rattle.ec_live.proofs.Commands.{IsOver}
use Rattle.ec_live.proofs.cyclic.has_commands.Given as goal

abbrev pub invariant-loop-command : goal.invariant-loop-command
invariant-loop-command l = (p : Payload) → IsFrame l.payload p → IsOver l.payload l.places l.commands l.command-index p.datagrams
