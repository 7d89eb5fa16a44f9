use Rattle.std.proofs.Common.{rules}
use Rattle.std.proofs.lemmas.List.{replicate-append-replicate}
use Rattle.ec_app.specs.Passing.{plain_slave}
use Rattle.ec_app.proofs.pass.plain_ring.Goals as goal

pub loop-preserved : goal.loop-preserved
loop-preserved c = rw (← replicate-append-replicate c.loop.counter 1 plain_slave) (search rules)
