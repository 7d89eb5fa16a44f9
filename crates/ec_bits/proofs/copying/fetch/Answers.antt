use Rattle.std.proofs.Common.{◌≡◌, ◌+◌, ◌/◌, ◌∙◌, sym, arith, get_or}
use Rattle.std.proofs.lemmas.List.{get_or_past}
use Rattle.ec_bits.proofs.Shifts.{fetch_is}
use Rattle.ec_bits.proofs.copying.fetch.Goals as goal
use Rattle.ec_bits.proofs.copying.fetch.Goals.{then-from-bytes, else-from-bytes}

pub returns : goal.returns
returns c = λ j l.
    let high : c.if-from-bytes.high ≡ get_or c.args.bytes.now (c.args.from / 8 + 1) 0
    = elim c.if-from-bytes.branch [
      | then-from-bytes w ↦ w.high-is ∙ w.from-high.ensures
      | else-from-bytes w ↦ w.high-is ∙ sym (get_or_past c.args.bytes.now (c.args.from / 8 + 1) 0 (omega arith))
    ] in
    fetch_is c.args.bytes.now c.args.from (c.from-low.result) (c.if-from-bytes.high) j c.from-low.ensures high (omega arith) l
