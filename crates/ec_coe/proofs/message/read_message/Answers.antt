use Rattle.std.proofs.Common.{arith}
use Rattle.std.proofs.lemmas.Grind.{common_steps}
use Rattle.ec_coe.specs.Messages.{message_read}
use Rattle.ec_coe.proofs.message.read_message.Goals as goal

pub returns : goal.returns
unfolding message_read
returns c = grind (arith, common_steps)
