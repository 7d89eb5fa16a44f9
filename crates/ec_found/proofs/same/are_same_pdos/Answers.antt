use Rattle.std.proofs.Common.{ℕ, ◌≡◌, length, take, true, refl, subst, arith}
use Rattle.ec_found.proofs.SameTypes.{items_differ, items_more, items_same}
use Rattle.ec_found.proofs.same.are_same_pdos.Goals as goal

pub returns-then-not-is_same_pdo : goal.returns-then-not-is_same_pdo
returns-then-not-is_same_pdo c = (
  (λ h. cc),
  λ same.
      let yes : c.is_same_pdo.result ≡ true =
      c.is_same_pdo.ensures.1 (items_differ c.args.one.now c.args.other.now c.loop-place.place c.index-one-place.result c.index-other-place.result c.loop-place-test.true c.index-one-place.is c.index-other-place.is same) in
      cc,
)

pub loop-place-preserved : goal.loop-place-preserved
loop-place-preserved c =
    items_more c.args.one.now c.args.other.now c.loop-place.place c.index-one-place.result c.index-other-place.result c.loop-place-test.true c.if-one-other.false
    c.index-one-place.is c.index-other-place.is (c.is_same_pdo.ensures.0 c.if-not-is_same_pdo.false) c.loop-place.invariant

pub returns : goal.returns
returns c =
    let n : c.loop-place.place ≡ length c.args.one.now = omega arith in (
      (λ h. items_same c.args.one.now c.args.other.now c.if-one-other.false (subst (λ (k : ℕ). take k c.args.one.now ≡ take k c.args.other.now) n c.loop-place.invariant)),
      λ h. refl,
    )
