use Rattle.std.proofs.Common.{rules}
use Rattle.ec_fmmu.proofs.writing.count_alike_bits.Goals as goal

pub returns-clause-alike : goal.returns-clause-alike
returns-clause-alike g c = search rules
