use Rattle.std.proofs.Common.{rules}
use Rattle.ec_fmmu.proofs.mapping.Fmmu.bit_count.Goals as goal

pub returns-clause-value : goal.returns-clause-value
returns-clause-value c = search rules
