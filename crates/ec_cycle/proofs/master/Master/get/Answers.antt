use Rattle.std.proofs.Common.{arith}
use Rattle.std.proofs.lemmas.Grind.{common_steps}
use Rattle.ec_cycle.proofs.master.Master.get.Goals as goal

pub read_bits-requires-clause-inside : goal.read_bits-requires-clause-inside
read_bits-requires-clause-inside c = grind (arith, common_steps)
