use Rattle.ec_slave.proofs.Always.ReadsShowTheRun.{reads_show_the_run}
use Rattle.ec_slave.proofs.laws.reads_show_the_run.Goals as goal

pub returns : goal.returns
returns c = reads_show_the_run
