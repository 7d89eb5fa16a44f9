use Rattle.std.proofs.Common.{refl}
use Rattle.cmd_master.proofs.Doing.{expected_here}
use Rattle.cmd_master.proofs.mastered.Mastered.expect.Goals as goal

pub returns-in_default : goal.returns-in_default
returns-in_default g c = expected_here c.args.expected c.args.self.now c.args.self.now c.expect_here.result c.in_default.not-State refl c.expect_here.ensures
