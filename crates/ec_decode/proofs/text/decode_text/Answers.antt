use Rattle.std.proofs.Common.{rules}
use Rattle.ec_decode.proofs.text.decode_text.Goals as goal

pub returns : goal.returns
returns c = search rules
