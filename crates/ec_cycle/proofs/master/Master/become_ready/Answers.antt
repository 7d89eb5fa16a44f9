use Rattle.std.proofs.Common.{rules}
use Rattle.ec_cycle.proofs.master.Master.become_ready.Goals as goal

pub returns : goal.returns
returns c = search rules
