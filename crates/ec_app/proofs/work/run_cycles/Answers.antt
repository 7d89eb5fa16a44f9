use Rattle.ec_app.proofs.RunLemmas.{from_nothing}
use Rattle.ec_app.proofs.work.run_cycles.Goals as goal

pub returns-clause-loops : goal.returns-clause-loops
returns-clause-loops g c = from_nothing _ _ _ _ _ c.run_loopback.new.loopback _ _ c.new-loopback.ensures c.run_loopback.ensures.loops
