use Rattle.ec_cycle.proofs.Runs.{refreshed}
use Rattle.ec_cycle.proofs.renewing.refresh.Goals as goal

pub returns : goal.returns
returns c = refreshed _ _ _ _ _ _ c.requires.usable c.requires.runs c.requires.made c.copy_runs.ensures
