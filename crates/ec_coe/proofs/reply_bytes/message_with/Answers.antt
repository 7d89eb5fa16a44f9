use Rattle.std.proofs.Common.{rules}
use Rattle.ec_coe.proofs.reply_bytes.message_with.Goals as goal

pub returns : goal.returns
returns c = search rules
