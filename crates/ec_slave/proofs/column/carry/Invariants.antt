use Rattle.ec_slave.specs.Carried.{carrying}
use Rattle.ec_slave.proofs.Commands.Columns.{IsAlong}
use Rattle.ec_slave.proofs.column.carry.Given as goal

abbrev pub invariant-loop-index : goal.invariant-loop-index
invariant-loop-index l = IsAlong l.initial.slaves (carrying l.command l.initial.carried l.initial.bytes) l.index l.slaves (carrying l.command l.carried l.bytes)
