use Rattle.std.proofs.Common.{rules}
use Rattle.ec_start.proofs.startup.Startup.poll.Goals as goal

pub invariant_of-self-else-self-eq-MAX_POLLS : goal.invariant_of-self-else-self-eq-MAX_POLLS
invariant_of-self-else-self-eq-MAX_POLLS c = search rules

pub returns-else-self-eq-MAX_POLLS : goal.returns-else-self-eq-MAX_POLLS
returns-else-self-eq-MAX_POLLS c = search rules
