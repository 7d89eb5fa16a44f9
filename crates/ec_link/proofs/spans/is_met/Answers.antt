use Rattle.std.proofs.Common.{arith}
use Rattle.std.proofs.lemmas.Bool.Decides.{nat_tests}
use Rattle.ec_link.proofs.SpanMaps.{none_past, last_is}
use Rattle.ec_link.proofs.spans.is_met.Goals as goal

pub returns-in-Some-clause-miss : goal.returns-in-Some-clause-miss
returns-in-Some-clause-miss c far =
    let h = c.range.ensures.in_range tt in
    none_past c.args.ends.now c.args.from c.args.end _ _ c.requires (h.3 _ _ c.in-Some.ensures.steps).1 (grind (arith, nat_tests, far))
    (last_is c.args.ends.now c.args.end _ (h.4 _ _ c.in-Some.ensures.steps))
