use Rattle.std.proofs.Common.{◌≡◌, ◌+◌, ◌*◌, ◌<◌, ◌∙◌, sym, refl, arith, length, slice_index, length-set}
use Rattle.ec_bits.proofs.Copies.{copied_none, next_byte, set_small}
use Rattle.ec_bits.proofs.BitLaws.{bit_number}
use Rattle.ec_bits.proofs.copying.copy_bytes.Goals as goal

pub loop-k-init : goal.loop-k-init
loop-k-init c = (sym (copied_none c.args.dst.now (8 * c.args.at) c.args.src.now (8 * c.args.start)), refl, refl, λ i. omega (arith, c.type_inv.dst i))

pub loop-k-preserved : goal.loop-k-preserved
loop-k-preserved c =
    let src = c.args.src.now in
    let at = c.args.at in
    let k = c.loop-k.k in
    let b = c.args.start + k in
    let v = slice_index src b in
    let inv = c.loop-k.invariant in
    let len : length c.loop-k.dst ≡ length c.args.dst.now = inv.2 in
    let small : v < 256 = omega (arith, c.type_inv.src b) in (
      next_byte c.args.dst.now c.loop-k.dst at k src (8 * c.args.start) v inv.0 (omega arith) (omega (arith, c.type_inv.src b)) (inv.3 (at + k))
          (λ j l. bit_number src (8 * c.args.start + 8 * k + j) b j (omega arith) (omega arith)),
      (let t = inv.1 in omega arith),
      length-set c.loop-k.dst (at + k) v ∙ len,
      set_small c.loop-k.dst (at + k) v (omega arith) small inv.3,
    )
