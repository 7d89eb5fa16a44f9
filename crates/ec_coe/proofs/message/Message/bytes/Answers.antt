use Rattle.std.proofs.Common.{arith}
use Rattle.ec_coe.proofs.Spelling.{spelled}
use Rattle.ec_coe.proofs.message.Message.bytes.Goals as goal

pub returns : goal.returns
returns c =
    rw (c.number.ensures, c.number-2.ensures, c.to_le_bytes.ensures, c.to_le_bytes-2.ensures)
    (spelled c.args.self.now (omega arith) (omega arith))
