use Rattle.std.proofs.Common.{◌≡◌, ◌∙◌, ◌&&◌, List, [], ◌∷◌, Bor, rules, ap, lit<, map, refl}
use Rattle.std.specs.List.{list_all, zip}
use Rattle.std.specs.Str.Iter.{split_has_more, split_pattern, split_text}
use Rattle.std.proofs.lemmas.Iterator.{YieldsList-from_slice, YieldsList-from_zip}
use Rattle.std.proofs.lemmas.Iterator.Search.{all_from_yields_List}
use Rattle.std.proofs.lemmas.Iterator.Splits.{YieldsList-from_str_split}
use Rattle.ec_script.specs.Forms.{agree, stands_for}
use Rattle.ec_script.specs.Words.{Text, words_of}
use Rattle.ec_script.proofs.forms.agree.Goals as goal

words_now : (parts : List Text) (words : List (Bor Text)) → list_all (λ p. stands_for p.0 p.1.now) (zip parts words) ≡ agree (map (λ x. x.now) words) parts
words_now [] words = refl
words_now (part ∷ parts) [] = refl
words_now (part ∷ parts) (word ∷ words) = ap (λ b. stands_for part word.now && b) (words_now parts words)

pub returns : goal.returns
returns c =
    let first = c.zip.ensures.first in
    all_from_yields_List (λ p. stands_for p.0 p.1.now) c.all.new.self _ c.all.result c.all.ensures.ran
    (YieldsList-from_zip
    (YieldsList-from_str_split 32 c.args.form.now (lit< tt) (ap split_text first ∙ c.split.ensures.text) (ap split_has_more first ∙ c.split.ensures.has_more)
    (ap split_pattern first ∙ c.split.ensures.pattern))
    (YieldsList-from_slice c.args.words.now c.zip.ensures.second.0)) (λ x b q k. search rules)
    ∙ words_now (words_of c.args.form.now) c.args.words.now
