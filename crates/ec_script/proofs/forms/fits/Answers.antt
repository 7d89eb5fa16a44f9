use Rattle.std.proofs.Common.{◌≡◌, ◌∙◌, ◌&&◌, Bool, true, false, sym, lit<, refl}
use Rattle.std.proofs.lemmas.Iterator.Consumers.{count_from_yields_List}
use Rattle.std.proofs.lemmas.Iterator.Splits.{YieldsList-from_str_split}
use Rattle.std.proofs.lemmas.List.{length-map}
use Rattle.ec_script.proofs.forms.fits.Goals as goal

and_true : (a b : Bool) → b ≡ true → a ≡ a && b
and_true true b h = sym h
and_true false b h = refl

and_false : (a b : Bool) → b ≡ false → b ≡ a && b
and_false true b h = refl
and_false false b h = h

pub returns-then-agree : goal.returns-then-agree
returns-then-agree c =
    let split = YieldsList-from_str_split 32 c.args.form.now (lit< tt) c.split.ensures.text c.split.ensures.has_more c.split.ensures.pattern in
    let count = count_from_yields_List _ c.count.result c.count.ensures.ran split in
    rw (count, length-map c.args.words.now (λ x. x.now)) (and_true _ _ (sym c.agree.ensures ∙ c.if-agree.true))

pub returns-else-agree : goal.returns-else-agree
returns-else-agree c = c.agree.ensures ∙ and_false _ _ (sym c.agree.ensures ∙ c.if-agree.false)
