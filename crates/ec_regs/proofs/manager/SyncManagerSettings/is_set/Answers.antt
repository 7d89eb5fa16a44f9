use Rattle.std.proofs.Common.{rules}
use Rattle.ec_regs.specs.Managers.{is_set}
use Rattle.ec_regs.proofs.manager.SyncManagerSettings.is_set.Goals as goal

pub returns-then-self-ge-RAM_START : goal.returns-then-self-ge-RAM_START
unfolding is_set
returns-then-self-ge-RAM_START c = search rules
