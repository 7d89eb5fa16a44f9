use Rattle.std.proofs.Common.{refl, sym}
use Rattle.ec_link.proofs.SpanMaps.{spanned_hit, spanned_more}
use Rattle.ec_link.proofs.spans.first_met.Goals as goal

pub returns-then-is_met : goal.returns-then-is_met
returns-then-is_met c =
    sym (spanned_hit c.args.link_runs.now c.loop-place.ends c.loop-place.place _ _ c.span_from-from.result _ c.loop-place-test.true refl
    c.requires c.span_from-from.ensures.value refl (c.is_met.ensures.hit c.if-is_met.true) c.loop-place.invariant)

pub loop-place-preserved : goal.loop-place-preserved
loop-place-preserved c =
    spanned_more c.args.link_runs.now c.loop-place.ends c.insert.new.self c.loop-place.place _ _ c.span_from-from.result _ c.loop-place-test.true refl
    c.requires c.span_from-from.ensures.value refl (c.is_met.ensures.miss c.if-is_met.false) c.in_ok-insert.ensures.updates c.loop-place.invariant
