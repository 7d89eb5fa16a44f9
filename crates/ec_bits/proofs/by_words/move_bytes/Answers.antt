use Rattle.std.proofs.Common.{ℕ, ◌≡◌, ◌*◌, ◌∙◌, ap, sym, arith}
use Rattle.ec_bits.specs.Bits.{copied}
use Rattle.ec_bits.proofs.Copies.{copied_none}
use Rattle.ec_bits.proofs.by_words.move_bytes.Goals as goal

pub returns-else-count-gt0 : goal.returns-else-count-gt0
returns-else-count-gt0 c =
    let z : c.args.count ≡ 0 = omega (arith, c.if-count-gt0.false) in
    sym (ap (λ (n : ℕ). copied c.args.dst.now (8 * c.args.at) c.args.src.now c.args.from (8 * n)) z
    ∙ copied_none c.args.dst.now (8 * c.args.at) c.args.src.now c.args.from)
