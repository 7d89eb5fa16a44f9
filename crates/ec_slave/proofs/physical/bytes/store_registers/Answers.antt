use Rattle.std.proofs.Common.{arith}
use Rattle.ec_slave.specs.Physical.{Window}
use Rattle.ec_slave.proofs.Memory.WindowBytes.{none-kept, manager-unkept}
use Rattle.ec_slave.proofs.physical.bytes.store_registers.Goals as goal

pub returns-else-from-bytes-gt-SYNC_MANAGERS_END : goal.returns-else-from-bytes-gt-SYNC_MANAGERS_END
returns-else-from-bytes-gt-SYNC_MANAGERS_END c = λ ms.
    let w : Window = record { from = c.args.from; bytes = c.args.bytes.now } in
    none-kept ms w c.args.memory.now (λ a l h. manager-unkept ms a (omega arith) (omega arith))
