use Rattle.std.proofs.Common.{length, arith}
use Rattle.ec_simulation.proofs.InputPuts.{read_all}
use Rattle.ec_simulation.proofs.inputs.read_bytes.Goals as goal
use Rattle.std.proofs.Common.{rules}

pub returns : goal.returns
returns c =
    read_all c.args.world.now c.args.slave c.args.start (length c.args.bytes.now) c.loop-offset.bytes c.loop-offset.auto.bytes (λ k lt. c.loop-offset.invariant k (omega arith))

pub loop-offset-preserved : goal.loop-offset-preserved
loop-offset-preserved c = search rules
