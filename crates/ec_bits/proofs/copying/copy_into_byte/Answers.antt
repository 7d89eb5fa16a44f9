use Rattle.std.proofs.Common.{ℕ, ap, ◌+◌, ◌-◌, ◌*◌, ◌/◌, ◌%◌, ◌<◌, ◌≤◌, ◌≡◌, ◌∙◌, sym, arith, Some, None, Option, Bool, inl, inr, true, false, if◌then◌else◌, get_or, unwrap_or}
use Rattle.std.specs.Int.{bit_at, from_bool}
use Rattle.std.proofs.lemmas.Bool.{cases_lt}
use Rattle.ec_bits.specs.Bits.{bit, within}
use Rattle.ec_bits.proofs.AnyLaws.{if_true, if_false, within_true, within_below, within_above}
use Rattle.ec_bits.specs.Bits.{run_updates}
use Rattle.ec_bits.proofs.BitLaws.{bit_number}
use Rattle.ec_bits.proofs.Overlays.{byte_is_overlay}
use Rattle.ec_bits.proofs.copying.copy_into_byte.Goals as goal

pub returns : goal.returns
returns c =
    let dst = c.args.dst.now in
    let src = c.args.src.now in
    let to = c.args.to in
    let n = c.args.count in
    let from = c.args.from in
    let k = to / 8 in
    let s = to % 8 in
    let g = run_updates to src from n in
    byte_is_overlay dst g k (c.merge.result) (omega arith) (omega arith) (omega arith)
    (λ j l.
    let goes : bit_at (c.merge.result) j ≡ (if within s n j then bit_at (c.fetch-value.result) (j - s) else bit_at (get_or dst k 0) j) = c.merge.ensures j l in
    let old : bit_at (get_or dst k 0) j ≡ from_bool (bit dst (8 * k + j)) = bit_number dst (8 * k + j) k j (omega arith) (omega arith) in
    let here : within s n j ≡ true → j < s + n → s ≤ j → bit_at (c.merge.result) j ≡ from_bool (unwrap_or (g (8 * k + j)) (bit dst (8 * k + j)))
    = λ e a b.
    let at : from + (j - s) ≡ from + (8 * k + j - to) = omega arith in
    goes ∙ (if_true _ _ _ e ∙ (c.fetch-value.ensures (j - s) (omega arith) ∙ (ap (λ (i : ℕ). from_bool (bit src i)) at
    ∙ ap (λ (o : Option Bool). from_bool (unwrap_or o (bit dst (8 * k + j)))) (sym (if_true (within to n (8 * k + j)) (Some (bit src (from + (8 * k + j - to)))) None (within_true to n (8 * k + j) (omega arith) (omega arith))))))) in
    let there : within s n j ≡ false → within to n (8 * k + j) ≡ false → bit_at (c.merge.result) j ≡ from_bool (unwrap_or (g (8 * k + j)) (bit dst (8 * k + j)))
    = λ e f. goes ∙ (if_false _ _ _ e ∙ (old ∙ ap (λ (o : Option Bool). from_bool (unwrap_or o (bit dst (8 * k + j)))) (sym (if_false (within to n (8 * k + j)) (Some (bit src (from + (8 * k + j - to)))) None f)))) in
    elim (cases_lt j s) [
      | inl x ↦ there (within_below s n j x) (within_below to n (8 * k + j) (omega arith))
      | inr x ↦ elim (cases_lt j (s + n)) [
        | inl y ↦ here (within_true s n j x y) y x
        | inr y ↦ there (within_above s n j y) (within_above to n (8 * k + j) (omega arith))
      ]
    ])
    (λ i ne. if_false _ _ _ (elim (cases_lt i to) [
      | inl x ↦ within_below to n i x
      | inr x ↦ elim (cases_lt i (to + n)) [
        | inl y ↦ absurd (ne (omega arith))
        | inr y ↦ within_above to n i y
      ]
    ]))
