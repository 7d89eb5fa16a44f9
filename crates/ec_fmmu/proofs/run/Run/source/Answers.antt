use Rattle.std.proofs.Common.{rules}
use Rattle.ec_fmmu.proofs.run.Run.source.Goals as goal

pub returns-clause-inside : goal.returns-clause-inside
returns-clause-inside c = search rules

pub returns-clause-pairs : goal.returns-clause-pairs
returns-clause-pairs c = search rules
