use Rattle.std.proofs.Common.{◌≡◌, ◌∙◌, ap, sym}
use Rattle.ec_bits.specs.Bits.{copied}
use Rattle.ec_bits.proofs.Copies.{copied_none}
use Rattle.ec_bits.proofs.copying.copy_part.Goals as goal

pub returns-then-count-eq0-clause-bits : goal.returns-then-count-eq0-clause-bits
returns-then-count-eq0-clause-bits c =
    let z : c.args.count ≡ 0 = c.if-count-eq0.true in
    sym (ap (copied c.args.dst.now c.args.to c.args.src.now c.args.from) z ∙ copied_none c.args.dst.now c.args.to c.args.src.now c.args.from)
