use Rattle.std.proofs.Common.{rules, ℕ, List, ◌≡◌, ◌+◌, ◌-◌, ◌*◌, ◌∙◌, ap, arith, length, take, drop}
use Rattle.std.proofs.lemmas.List.{places}
use borrow.Rule.Slice.PartMut.{put_mid}
use Rattle.ec_bits.specs.Bits.{copied}
use Rattle.ec_bits.proofs.Slices.{part_copied}
use Rattle.ec_bits.proofs.by_words.shift_run.Goals as goal

pub returns : goal.returns
returns c =
    let xs = c.args.dst.now in
    let ys = c.shift_over.new.dst in
    let src = c.args.src.now in
    let a = c.args.at in
    let b = c.args.start in
    let n = c.args.count in
    let s = c.args.shift in
    let e : a + n - a ≡ n = omega arith in
    let mid : List ℕ = take (a + n - a) (drop a xs) in
    let part : List ℕ = take (length src - b) (drop b src) in
    let lm : length mid ≡ n = search (rules, places, c.requires.inside) in
    let bits : 8 * length mid ≡ 8 * n = ap (λ (k : ℕ). 8 * k) lm in
    ap (λ (k : ℕ). put_mid a k xs ys) e
    ∙ part_copied xs ys mid src part a b n s c.requires.inside lm
    (λ k l. search (rules, places))
    (λ k. search (rules, places))
    (c.shift_over.ensures ∙ ap (copied mid 0 part s) bits)
