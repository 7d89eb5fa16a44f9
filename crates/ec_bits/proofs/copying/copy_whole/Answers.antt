use Rattle.std.proofs.Common.{ℕ, ◌≡◌, ◌*◌, ◌∙◌, ap, sym}
use Rattle.ec_bits.specs.Bits.{copied}
use Rattle.ec_bits.proofs.Copies.{copied_none}
use Rattle.ec_bits.proofs.copying.copy_whole.Goals as goal

pub returns-then-count-eq0-clause-bits : goal.returns-then-count-eq0-clause-bits
returns-then-count-eq0-clause-bits c =
    let z : c.args.count ≡ 0 = c.if-count-eq0.true in
    sym (ap (λ (n : ℕ). copied c.args.dst.now (8 * c.args.at) c.args.src.now c.args.from (8 * n)) z
    ∙ copied_none c.args.dst.now (8 * c.args.at) c.args.src.now c.args.from)
