use Rattle.std.proofs.Common.{rules}
use Rattle.ec_decode.proofs.reader.Reader.read_line.Goals as goal

pub returns : goal.returns
returns c = search rules
