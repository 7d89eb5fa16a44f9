use Rattle.std.proofs.Common.{arith}
use Rattle.ec_scan.proofs.KeptLemmas.{counted_as}
use Rattle.ec_scan.proofs.course.scan_all.Goals as goal

pub returns-clause-counted : goal.returns-clause-counted
returns-clause-counted g c =
    let long = c.loop-slave-2.invariant.long in
    let few = c.if-count-gt-MAX_SLAVES.false in
    let e = c.len.ensures in
    counted_as _ _ _ _ c.in_ok-ask_counted.ensures (omega (arith, long, few, e))
