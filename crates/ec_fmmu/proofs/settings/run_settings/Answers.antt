use Rattle.std.proofs.Common.{rules}
use Rattle.ec_fmmu.specs.Runs.{run_settings}
use Rattle.ec_fmmu.proofs.settings.run_settings.Goals as goal

pub returns : goal.returns
unfolding run_settings
returns c = search rules
