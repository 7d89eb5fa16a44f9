use Rattle.std.proofs.Common.{◌≡◌, ◌+◌, ◌&&◌, false}
use Rattle.ec_bits.specs.Bits.{any_below}
use Rattle.ec_exchange.specs.Access.{is_ungoverned}
use Rattle.ec_exchange.proofs.reach.some_is_own.Given as goal

abbrev pub invariant-loop-k : goal.invariant-loop-k
invariant-loop-k g l = any_below l.k (λ k. g.T.Touching.touched l.access (l.start + k) && is_ungoverned l.lower (l.start + k)) ≡ false
