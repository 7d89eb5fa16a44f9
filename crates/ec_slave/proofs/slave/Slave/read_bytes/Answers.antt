use Rattle.std.proofs.Common.{◌∙◌, length, ap}
use Rattle.ec_slave.proofs.Memory.SlaveIdle.{slave_reach}
use Rattle.ec_slave.specs.Keeping.{length-updated}
use Rattle.ec_slave.proofs.slave.Slave.read_bytes.Goals as goal

pub returns-clause-slave : goal.returns-clause-slave
returns-clause-slave c = c.after_read.ensures ∙ slave_reach c.args.self.now c.args.from _ _ (ap length c.read_physical-is_read.ensures.bytes ∙ length-updated 0 c.args.bytes.now _)
