use Rattle.std.proofs.Common.{ap, arith, length}
use Rattle.ec_cycle.proofs.Variables.{holds_there}
use Rattle.ec_cycle.proofs.master.write_variable.Goals as goal

pub bounds-variables-variable : goal.bounds-variables-variable
bounds-variables-variable c =
    let there = holds_there c.args.plan.now.variables c.args.variable c.args.value c.requires.holds in
    let same = ap length c.variables.ensures in
    omega arith
