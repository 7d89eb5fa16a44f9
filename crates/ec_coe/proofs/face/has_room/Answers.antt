use Rattle.std.proofs.Common.{rules}
use Rattle.ec_coe.proofs.face.has_room.Goals as goal

pub returns : goal.returns
returns c = search rules
