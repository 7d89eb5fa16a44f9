use Rattle.std.proofs.Common.{rules}
use Rattle.ec_fmmu.proofs.area.run_of.Goals as goal

pub returns-clause-run : goal.returns-clause-run
returns-clause-run c = search rules
