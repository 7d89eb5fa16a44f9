use Rattle.std.proofs.Common.{◌≤◌, length, length-drop, ap, arith}
use Rattle.ec_found.proofs.FirstWords.{category_here, category_passed}
use Rattle.ec_found.proofs.reading.category_in.Goals as goal

pub returns-then-rest-wanted : goal.returns-then-rest-wanted
returns-then-rest-wanted c =
    let l : 2 ≤ length c.loop.rest.now = omega arith in
    let e = category_here c.args.wanted c.loop.rest.now l c.if-rest.false c.if-rest-wanted.true in
    cc

pub loop-preserved : goal.loop-preserved
loop-preserved c =
    let l : 2 ≤ length c.loop.rest.now = omega arith in
    let e = category_passed c.args.wanted c.loop.rest.now l c.if-rest.false c.if-rest-wanted.false in
    let few = c.loop.invariant.few in
    let n = ap length c.behind-next.ensures in
    let m = length-drop c.min-size.result c.behind-body.result.now in
    let b = ap length c.behind-body.ensures in
    let d = length-drop 2 c.loop.rest.now in
    record { same = cc; few = omega (arith, n, m, b, d, few, l) }
