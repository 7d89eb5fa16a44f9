use Rattle.std.proofs.Common.{rules, ℕ, ◌+◌, ◌-◌, ◌≡◌, ◌∙◌, ap, sym, arith, inl, inr, length, slice_index, Option, Some, None, if◌then◌else◌}
use borrow.Rule.Slice.PartMut.{put_mid}
use Rattle.ec_bits.specs.Bits.{within}
use Rattle.ec_bits.proofs.AnyLaws.{if_true, if_false, within_true, within_below, within_above}
use Rattle.ec_slave.proofs.Memory.UpdatedAlong.{slice-updated}
use Rattle.ec_slave.proofs.physical.bytes.store_slice.Goals as goal

pub returns : goal.returns
returns c =
    let xs = c.args.memory.now in
    let bytes = c.args.bytes.now in
    let a = c.args.start in
    let n : ℕ = length bytes in
    let ys = c.copy_from_slice.new.self in
    let f : ℕ → Option ℕ = λ i. if within a n i then Some (slice_index bytes (i - a)) else None in
    let e : a + n - a ≡ n = omega arith in
    let same : ys ≡ bytes = search rules in
    ap (λ (k : ℕ). put_mid a k xs ys) e
    ∙ slice-updated xs ys a n f c.requires (ap length same)
    (λ i l h. if_true (within a n i) (Some (slice_index bytes (i - a))) None (within_true a n i l h) ∙ ap (λ zs. Some (slice_index zs (i - a))) (sym same))
    (λ i h. if_false (within a n i) (Some (slice_index bytes (i - a))) None (elim h [ inl x ↦ within_below a n i x | inr y ↦ within_above a n i y ]))
