use Rattle.ec_slave.proofs.Always.ReadsShowTheRun.{slaves_show_whole_values}
use Rattle.ec_slave.proofs.laws.slaves_show_whole_values.Goals as goal

pub returns : goal.returns
returns c = slaves_show_whole_values
