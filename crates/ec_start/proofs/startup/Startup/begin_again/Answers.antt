use Rattle.std.proofs.Common.{rules}
use Rattle.ec_start.specs.Running.{begun}
use Rattle.ec_start.proofs.startup.Startup.begin_again.Goals as goal

pub invariant_of-self : goal.invariant_of-self
invariant_of-self c = search rules

pub returns : goal.returns
unfolding begun
returns c = search rules
