use Rattle.ec_session.proofs.Asked.{reads_keep_the_rest, status_reads_keep_the_rest}
use Rattle.ec_session.proofs.laws.reads_keep_the_rest.Goals as goal

pub returns-clause-one : goal.returns-clause-one
returns-clause-one c = status_reads_keep_the_rest

pub returns-clause-all : goal.returns-clause-all
returns-clause-all c = reads_keep_the_rest
