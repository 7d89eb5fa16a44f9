use Rattle.std.proofs.Common.{rules}
use Rattle.ec_coe.specs.Refusals.{refusal_bytes}
use Rattle.ec_coe.proofs.refusal.refuse.Goals as goal

pub returns-in-8 : goal.returns-in-8
unfolding refusal_bytes
returns-in-8 c = search rules

pub returns-in-2 : goal.returns-in-2
unfolding refusal_bytes
returns-in-2 c = search rules

pub returns-in-2-2 : goal.returns-in-2-2
unfolding refusal_bytes
returns-in-2-2 c = search rules

pub returns-in_default : goal.returns-in_default
unfolding refusal_bytes
returns-in_default c = search rules
