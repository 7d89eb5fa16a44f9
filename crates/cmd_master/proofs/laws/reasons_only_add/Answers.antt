use Rattle.cmd_master.proofs.Reasoned.{reasons_only_add}
use Rattle.cmd_master.proofs.laws.reasons_only_add.Goals as goal

pub returns : goal.returns
returns c = reasons_only_add
