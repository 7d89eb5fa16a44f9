use Rattle.std.proofs.Common.{ℕ, List, ◌≡◌, ◌⊎◌, ◌+◌, ◌-◌, ◌*◌, ◌/◌, ◌%◌, ◌∙◌, ap, inl, inr, arith, min, rules}
use Rattle.std.proofs.lemmas.Bool.{cases_eq}
use Rattle.ec_bits.specs.Bits.{copied}
use Rattle.ec_bits.proofs.Copies.{copied_thrice}
use Rattle.ec_bits.proofs.copying.copy_bits.Goals as goal

pub returns-clause-bits : goal.returns-clause-bits
returns-clause-bits c =
    let to = c.args.to in
    let from = c.args.from in
    let n = c.args.count in
    let src = c.args.src.now in
    let h = c.min-head.result in
    let head : h ≡ min ((8 - to % 8) % 8) n = c.min-head.ensures in
    let w = (n - h) / 8 in
    let t = n - (h + 8 * w) in
    let at = (to + h) / 8 in
    let place : (8 * w ≡ 0) ⊎ (8 * at ≡ to + h) = elim (cases_eq w 0) [
      | inl z ↦ inl (omega arith)
      | inr ne ↦ inr (omega arith)
    ] in
    let all : h + 8 * w + t ≡ n = omega arith in
    c.copy_part-last.ensures.bits
    ∙ (ap (λ (ys : List ℕ). copied ys (to + (h + 8 * w)) src (from + (h + 8 * w)) t)
    (c.copy_whole-middle.ensures.bits ∙ ap (λ (ys : List ℕ). copied ys (8 * at) src (from + h) (8 * w)) c.copy_part-first.ensures.bits)
    ∙ (copied_thrice c.args.dst.now to src from h (8 * at) (8 * w) t place ∙ ap (copied c.args.dst.now to src from) all))

pub returns-clause-turns : goal.returns-clause-turns
returns-clause-turns c = search rules
