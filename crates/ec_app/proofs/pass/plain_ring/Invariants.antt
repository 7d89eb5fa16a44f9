use Rattle.std.proofs.Common.{◌≡◌, replicate}
use Rattle.ec_app.specs.Passing.{plain_slave}
use Rattle.ec_app.proofs.pass.plain_ring.Given as goal

-- the slaves made so far
abbrev pub invariant-loop : goal.invariant-loop
invariant-loop l = l.ring.items ≡ replicate l.counter plain_slave
