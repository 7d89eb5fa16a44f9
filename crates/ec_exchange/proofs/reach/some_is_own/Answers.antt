use Rattle.std.proofs.Common.{◌+◌, ◌&&◌, sym, ◌∙◌, arith}
use Rattle.ec_bits.proofs.AnyLaws.{any_below_from, any_below_none}
use Rattle.ec_exchange.proofs.Managers.{none_more}
use Rattle.ec_exchange.specs.Access.{is_ungoverned}
use Rattle.ec_exchange.proofs.reach.some_is_own.Goals as goal

pub loop-k-init : goal.loop-k-init
loop-k-init g c =
    any_below_none 0 (λ k. g.T.Touching.touched c.args.access.now (c.args.start + k) && is_ungoverned c.args.lower.now (c.args.start + k)) (λ i l. absurd (omega arith))

pub loop-k-preserved : goal.loop-k-preserved
loop-k-preserved g c =
    none_more (c.loop-k.k) (λ k. g.T.Touching.touched c.args.access.now (c.args.start + k) && is_ungoverned c.args.lower.now (c.args.start + k))
    (sym c.is_own.ensures ∙ c.if-is_own.false) c.loop-k.invariant

pub returns-then-is_own : goal.returns-then-is_own
returns-then-is_own g c =
    sym (any_below_from c.args.len (λ k. g.T.Touching.touched c.args.access.now (c.args.start + k) && is_ungoverned c.args.lower.now (c.args.start + k)) (c.loop-k.k) (omega arith)
    (sym c.is_own.ensures ∙ c.if-is_own.true))
