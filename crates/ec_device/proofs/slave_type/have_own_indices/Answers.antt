use Rattle.std.proofs.Common.{◌≡◌, true, ◌+◌}
use Rattle.std.proofs.lemmas.List.{take_rest}
use Rattle.ec_device.proofs.Limits.{own_more, free_from_own}
use Rattle.ec_device.proofs.slave_type.have_own_indices.Goals as goal

pub returns-then-not-is_free : goal.returns-then-not-is_free
returns-then-not-is_free c = (
  (λ h. cc),
  λ own. let free : c.is_free.result ≡ true = c.is_free.ensures.1 (rw (take_rest c.args.pdos.now (c.loop-i.i + 1)) (free_from_own _ c.loop-i.i c.index-pdos-i.result c.loop-i-test.true c.index-pdos-i.is own)) in cc,
)

pub loop-i-preserved : goal.loop-i-preserved
loop-i-preserved c =
    own_more _ c.loop-i.i c.index-pdos-i.result c.loop-i-test.true c.index-pdos-i.is
    (rw (take_rest c.args.pdos.now (c.loop-i.i + 1)) at (c.is_free.ensures.0 c.if-not-is_free.false)) c.loop-i.invariant
