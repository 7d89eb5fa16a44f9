use Rattle.std.proofs.Common.{◌≤◌, ◌+◌, length, sym, arith}
use Rattle.ec_slave.specs.Physical.{Window}
use Rattle.ec_slave.proofs.Memory.BroadcastLaw.{managers-write}
use Rattle.ec_slave.proofs.physical.write_managers.Goals as goal

pub returns-else-from-bytes-gt-SYNC_MANAGERS : goal.returns-else-from-bytes-gt-SYNC_MANAGERS
returns-else-from-bytes-gt-SYNC_MANAGERS c =
    let w : Window = record { from = c.args.from; bytes = c.args.bytes.now } in
    let low : w.from + length w.bytes ≤ 2048 = omega arith in
    sym (managers-write _ _ _ c.args.reads w 0 low)
