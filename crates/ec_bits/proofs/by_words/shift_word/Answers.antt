use Rattle.std.proofs.Common.{ℕ, ◌≡◌, ◌+◌, ◌-◌, ◌*◌, ◌∙◌, ap, arith, inl, inr, nat_lt}
use Rattle.std.specs.Int.{bit_at, from_bool}
use Rattle.std.proofs.lemmas.Bool.{cases_lt, lt-ltb, le-ltb}
use Rattle.ec_bits.specs.Bits.{bit}
use Rattle.ec_bits.proofs.AnyLaws.{if_true, if_false}
use Rattle.ec_bits.proofs.Slices.{word_copied}
use Rattle.ec_bits.proofs.by_words.shift_word.Goals as goal

pub returns : goal.returns
returns c =
    let src = c.args.src.now in
    let b = c.args.start in
    let s = c.args.shift in
    let low = c.word_at-low.result in
    let high = c.word_at-high.result in
    c.put_word.ensures
    ∙ word_copied c.args.dst.now c.args.at c.shifted_word.result src (8 * b + s)
    (λ i l. c.shifted_word.ensures i l ∙ elim (cases_lt i (64 - s)) [
      | inl x ↦
          let e : 8 * b + (s + i) ≡ 8 * b + s + i = omega arith in
          if_true (nat_lt i (64 - s)) (bit_at low (s + i)) (bit_at high (s + i - 8)) (lt-ltb i (64 - s) x)
          ∙ (c.word_at-low.ensures (s + i) (omega arith) ∙ ap (λ (n : ℕ). from_bool (bit src n)) e)
      | inr x ↦
          let e : 8 * (b + 1) + (s + i - 8) ≡ 8 * b + s + i = omega arith in
          if_false (nat_lt i (64 - s)) (bit_at low (s + i)) (bit_at high (s + i - 8)) (le-ltb i (64 - s) x)
          ∙ (c.word_at-high.ensures (s + i - 8) (omega arith) ∙ ap (λ (n : ℕ). from_bool (bit src n)) e)
    ])
