use Rattle.std.proofs.Common.{ℕ, List, ◌+◌, ◌-◌, ◌<◌, ◌≡◌, ◌∙◌, ap, arith, subst, sym, slice_index}
use borrow.Rule.Slice.PartMut.{put_mid}
use Rattle.ec_bits.proofs.Slices.{word_written}
use Rattle.ec_bits.proofs.Numerals.{bytes_small}
use Rattle.ec_bits.proofs.by_words.set_word.Goals as goal

pub returns : goal.returns
returns c =
    let xs = c.args.dst.now in
    let ys = c.copy_from_slice.new.self in
    let e : c.args.at + 8 - c.args.at ≡ 8 = omega arith in
    let bytes = c.copy_from_slice.ensures.after ∙ c.to_le_bytes.ensures in
    ap (λ (k : ℕ). put_mid c.args.at k xs ys) e
    ∙ word_written xs ys c.args.at c.args.word c.requires.inside bytes c.requires.small (λ k. subst (λ (zs : List ℕ). slice_index zs k < 256) (sym bytes) (bytes_small 0 8 c.args.word k))
