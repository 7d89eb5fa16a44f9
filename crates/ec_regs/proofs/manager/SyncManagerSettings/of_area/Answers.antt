use Rattle.std.proofs.Common.{rules}
use Rattle.ec_regs.proofs.manager.SyncManagerSettings.of_area.Goals as goal

pub returns : goal.returns
returns c = search rules
