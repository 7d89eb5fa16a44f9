use Rattle.std.proofs.Common.{◌<◌, length, drop, subst, List, ℕ}
use Rattle.ec_script.specs.Halves.{Begins}
use Rattle.ec_script.proofs.Halving.{cut_before, cut_behind}
use Rattle.ec_script.proofs.halves.split_script.Goals as goal
use Rattle.std.proofs.Common.{rules}

pub range-requires-clause-end_boundary : goal.range-requires-clause-end_boundary
range-requires-clause-end_boundary c =
    let lt : c.loop-place.place < length c.args.text.now = subst (λ (bs : List ℕ). c.loop-place.place < length bs) c.as_bytes-bytes.ensures.value c.loop-place-test.true in
    let begins = subst (λ (bs : List ℕ). Begins (drop c.loop-place.place bs) c.in-Some.count) c.as_bytes-bytes.ensures.value c.in-Some.ensures.begins in
    cut_before c.args.text.now c.loop-place.place c.in-Some.count lt begins

pub range_from-requires : goal.range_from-requires
range_from-requires c = λ some.
    let lt : c.loop-place.place < length c.args.text.now = subst (λ (bs : List ℕ). c.loop-place.place < length bs) c.as_bytes-bytes.ensures.value c.loop-place-test.true in
    let begins = subst (λ (bs : List ℕ). Begins (drop c.loop-place.place bs) c.in-Some.count) c.as_bytes-bytes.ensures.value c.in-Some.ensures.begins in
    cut_behind c.args.text.now c.loop-place.place c.in-Some.count c.utf8.text lt begins

pub returns : goal.returns
returns c = search rules
