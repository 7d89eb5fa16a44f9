use Rattle.std.proofs.Common.{ℕ, ◌≡◌, ◌+◌, ◌*◌, ◌<◌, ◌∙◌, ap, sym, refl, arith, length, slice_index, length-set}
use Rattle.std.specs.Int.{from_bool}
use Rattle.ec_bits.specs.Bits.{bit}
use Rattle.ec_bits.proofs.Copies.{copied_none, next_byte, set_small, two_bytes}
use Rattle.ec_bits.proofs.copying.shift_bytes.Goals as goal

pub loop-k-init : goal.loop-k-init
loop-k-init c = (sym (copied_none c.args.dst.now (8 * c.args.at) c.args.src.now (8 * c.args.start + c.args.shift)), refl, refl, λ i. omega (arith, c.type_inv.dst i))

pub loop-k-preserved : goal.loop-k-preserved
loop-k-preserved c =
    let src = c.args.src.now in
    let at = c.args.at in
    let k = c.loop-k.k in
    let b = c.args.start + k in
    let s = c.args.shift in
    let v = c.shifted.result in
    let inv = c.loop-k.invariant in
    let len : length c.loop-k.dst ≡ length c.args.dst.now = inv.2 in
    let small : v < 256 = omega arith in
    let low : slice_index src b < 256 = omega (arith, c.type_inv.src b) in (
      next_byte c.args.dst.now c.loop-k.dst at k src (8 * c.args.start + s) v inv.0 (omega arith) (omega arith) (inv.3 (at + k))
          (λ j l.
          let e : 8 * b + s + j ≡ 8 * c.args.start + s + 8 * k + j = omega arith in
          c.shifted.ensures j l ∙ (two_bytes src b s j low (omega arith) ∙ ap (λ (n : ℕ). from_bool (bit src n)) e)),
      (let t = inv.1 in omega arith),
      length-set c.loop-k.dst (at + k) v ∙ len,
      set_small c.loop-k.dst (at + k) v (omega arith) small inv.3,
    )
