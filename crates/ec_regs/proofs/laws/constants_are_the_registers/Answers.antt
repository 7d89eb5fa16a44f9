use Rattle.std.proofs.Common.{rules}
use Rattle.ec_regs.proofs.laws.constants_are_the_registers.Goals as goal

pub returns : goal.returns
returns c = search rules
