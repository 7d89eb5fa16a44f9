use Rattle.std.proofs.Common.{refl}
use Rattle.ec_frame.proofs.Writes.{counter_read}
use Rattle.ec_frame.proofs.datagram.read_counter.Goals as goal

pub returns : goal.returns
returns c = λ more d good e. counter_read c.args.part.now more d _ c.read_u16.result good e refl c.read_u16.ensures
