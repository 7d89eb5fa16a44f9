use Rattle.std.proofs.Common.{rules}
use Rattle.ec_slave.specs.Serving.{served}
use Rattle.ec_slave.proofs.slave.Slave.serve.Goals as goal

pub returns : goal.returns
unfolding served
returns c = search rules
