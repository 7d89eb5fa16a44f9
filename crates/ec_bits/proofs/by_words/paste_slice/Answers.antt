use Rattle.std.proofs.Common.{rules, ℕ, ◌+◌, ◌-◌, ◌≡◌, ◌∙◌, ap, arith}
use Rattle.std.proofs.lemmas.List.{places}
use borrow.Rule.Slice.PartMut.{put_mid}
use Rattle.ec_bits.proofs.Slices.{slice_copied}
use Rattle.ec_bits.proofs.by_words.paste_slice.Goals as goal

pub returns : goal.returns
returns c =
    let xs = c.args.dst.now in
    let n = c.args.count in
    let ys = c.copy_from_slice.new.self in
    let e : c.args.at + n - c.args.at ≡ n = omega arith in
    ap (λ (k : ℕ). put_mid c.args.at k xs ys) e
    ∙ slice_copied xs ys c.args.src.now c.args.at c.args.start n c.requires.inside
    (search rules)
    (λ k l. search (rules, places))
    c.requires.small (λ k. omega (arith, c.type_inv.src k))
