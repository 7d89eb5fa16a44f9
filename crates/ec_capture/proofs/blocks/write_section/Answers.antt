use Rattle.std.proofs.Common.{refl}
use Rattle.ec_capture.specs.Blocks.{half, number}
use Rattle.ec_capture.proofs.AppendedBytes.{writes_same}
use Rattle.ec_capture.proofs.blocks.write_section.Goals as goal

pub returns : goal.returns
unfolding half number
returns g c = writes_same _ _ _ _ _ refl c.write_bytes.ensures
