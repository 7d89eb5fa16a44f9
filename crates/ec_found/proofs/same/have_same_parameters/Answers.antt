use Rattle.std.proofs.Common.{ℕ, ◌≡◌, length, take, true, refl, subst, arith}
use Rattle.ec_found.proofs.SameTypes.{here_same, items_same, next_same}
use Rattle.ec_found.proofs.same.have_same_parameters.Goals as goal

pub returns-then-not-is_same_parameter : goal.returns-then-not-is_same_parameter
returns-then-not-is_same_parameter c = (
  (λ h. cc),
  λ same.
      let yes : c.is_same_parameter.result ≡ true =
      c.is_same_parameter.ensures.1 (here_same c.args.one.now c.args.other.now c.loop-place.place _ _ c.loop-place-test.true same) in
      cc,
)

pub loop-place-preserved : goal.loop-place-preserved
loop-place-preserved c =
    next_same c.args.one.now c.args.other.now c.loop-place.place _ _ c.loop-place-test.true c.if-one-other.false
    (c.is_same_parameter.ensures.0 c.if-not-is_same_parameter.false) c.loop-place.invariant

pub returns : goal.returns
returns c =
    let n : c.loop-place.place ≡ length c.args.one.now = omega arith in (
      (λ h. items_same c.args.one.now c.args.other.now c.if-one-other.false (subst (λ (k : ℕ). take k c.args.one.now ≡ take k c.args.other.now) n c.loop-place.invariant)),
      λ h. refl,
    )
