use Rattle.std.proofs.Common.{◌≤◌, length}
use Rattle.ec_slave.proofs.Commands.Columns.{along_none, along_one, along_all}
use Rattle.ec_slave.proofs.column.carry.Goals as goal

pub loop-index-init : goal.loop-index-init
loop-index-init c = along_none _ _

pub loop-index-preserved : goal.loop-index-preserved
loop-index-preserved c = along_one _ _ _ _ _ c.index-slaves-index.result _ _ c.loop-index.invariant c.loop-index-test.true c.meet-carried.ensures.slave c.meet-carried.ensures.datagram

pub returns : goal.returns
returns c =
    let l : length c.args.slaves.now ≤ c.loop-index.index = c.loop-index-test.false in
    let end = along_all _ _ _ _ _ c.loop-index.invariant l in
    record { slaves = end.0; datagram = end.1 }
