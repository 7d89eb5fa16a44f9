use Rattle.ec_session.proofs.Wiring.{lossy_runs_keep_the_rest, runs_keep_the_rest}
use Rattle.ec_session.proofs.laws.runs_keep_the_rest.Goals as goal

pub returns-clause-whole : goal.returns-clause-whole
returns-clause-whole c = runs_keep_the_rest

pub returns-clause-lossy : goal.returns-clause-lossy
returns-clause-lossy c = lossy_runs_keep_the_rest
