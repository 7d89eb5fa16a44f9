use Rattle.std.proofs.Common.{arith}
use Rattle.ec_slave.proofs.Memory.GovernorRuns.{governor_alike}
use Rattle.ec_slave.proofs.LogicalAccess.ReadViews.{governor-below, governor-has}
use Rattle.ec_slave.proofs.runs.end_of_alike.Goals as goal

pub returns-clause-governor : goal.returns-clause-governor
returns-clause-governor c = λ a lo hi.
    governor_alike c.args.managers.now a c.args.start (λ j l. c.loop-manager.invariant.spans j (omega arith) a lo hi)

pub returns-clause-front : goal.returns-clause-front
returns-clause-front c = λ n a g lo hi.
    let ms = c.args.managers.now in
    let l = governor-below ms c.args.start n g in
    c.loop-manager.invariant.front n (omega (arith, l)) (governor-has ms c.args.start n g) a lo hi
