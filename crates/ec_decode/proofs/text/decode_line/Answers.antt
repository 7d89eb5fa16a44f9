use Rattle.std.proofs.Common.{rules}
use Rattle.ec_decode.proofs.text.decode_line.Goals as goal

pub returns-in-Err : goal.returns-in-Err
returns-in-Err c = search rules
