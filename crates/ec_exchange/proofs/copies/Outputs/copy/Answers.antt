use Rattle.std.proofs.Common.{ℕ, ◌≡◌, ◌+◌, ◌*◌, ◌∙◌, List, length, ap, arith}
use Rattle.ec_bits.specs.Bits.{copied, zeros}
use Rattle.ec_exchange.proofs.CopiedBits.{copied_from, wholly_from}
use Rattle.ec_exchange.proofs.copies.Outputs.copy.Goals as goal
use Rattle.ec_exchange.proofs.copies.Outputs.copy.Goals.{then-count-bits, else-count-bits}

pub returns : goal.returns
returns c =
    let me = c.args.self.now in
    let bytes : List ℕ = me.bytes.now in
    let xs : List ℕ = c.args.value.now in
    let n : ℕ = c.min-count.result in
    let at : ℕ = me.at + c.args.skipped in
    let least = c.min-count.ensures in
    let whole = c.fits-self.1 in
    let inside = c.requires.inside in
    let some = c.requires.some in
    c.copy_by_words.ensures
    ∙ elim c.if-count-bits.branch [
      | then-count-bits w ↦
          let fewer = w.if-count-bits.true in
          let zero : c.if-count-bits.value ≡ zeros (length xs) = w.value-is ∙ w.fill.ensures.after (λ y e. e) in
          ap (λ (ys : List ℕ). copied ys 0 bytes at n) zero
          ∙ copied_from bytes me.at me.count c.args.skipped (length xs) n (omega (arith, least, fewer)) (omega (arith, whole, inside, some))
      | else-count-bits w ↦
          let all = w.if-count-bits.false in
          let e : n ≡ 8 * length xs = omega (arith, least, all) in
          ap (λ (ys : List ℕ). copied ys 0 bytes at n) w.value-is
          ∙ (ap (copied xs 0 bytes at) e
          ∙ wholly_from bytes xs me.at me.count c.args.skipped c.requires.small (omega (arith, least, all, whole, inside, some)))
    ]
