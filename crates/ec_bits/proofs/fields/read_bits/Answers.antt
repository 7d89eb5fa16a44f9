use Rattle.std.proofs.Common.{arith}
use Rattle.ec_bits.proofs.Slices.{number_of_copy}
use Rattle.ec_bits.proofs.fields.read_bits.Goals as goal

pub returns : goal.returns
returns c = grind (arith, number_of_copy)
