use Rattle.std.proofs.Common.{◌≡◌, ℕ, List, Option, Some, length, bit_or, get_or, slice_index, refl, ◌∙◌, ap, sym, arith, inr}
use Rattle.ec_slave.proofs.Memory.UpdatedAlong.{updated_along, told-none, told-step0, updated-whole, get-updated_outside}
use Rattle.ec_slave.proofs.physical.bytes.join_slice.Goals as goal

pub loop-k-init : goal.loop-k-init
loop-k-init c = told-none _ _ _

pub loop-k-preserved : goal.loop-k-preserved
loop-k-preserved c =
    let xs : List ℕ = c.args.bytes.now in
    let ys : List ℕ = c.args.visible.now in
    let k : ℕ = c.loop-k.k in
    let f : ℕ → Option ℕ = λ i. Some (bit_or (slice_index xs i) (slice_index ys i)) in
    let own : get_or c.loop-k.bytes k 0 ≡ get_or xs k 0 = ap (λ zs. get_or zs k 0) c.loop-k.invariant ∙ get-updated_outside k 0 xs f k (inr (omega arith)) in
    told-step0 k xs f c.loop-k.bytes _ _ c.loop-k.invariant (ap (λ x. Some (bit_or x (slice_index ys k))) (sym own)) refl

pub returns : goal.returns
returns c =
    let xs : List ℕ = c.args.bytes.now in
    let ys : List ℕ = c.args.visible.now in
    let f : ℕ → Option ℕ = λ i. Some (bit_or (slice_index xs i) (slice_index ys i)) in
    let e : c.loop-k.k ≡ length xs = omega arith in
    c.loop-k.invariant ∙ (ap (λ n. updated_along n 0 xs f) e ∙ updated-whole xs f)
