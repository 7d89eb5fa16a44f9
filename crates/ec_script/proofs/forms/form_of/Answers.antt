use Rattle.std.proofs.Common.{◌≡◌, ◌∙◌, List, [], ◌∷◌, Bool, Bor, true, false, cond, Option, Some, None, option_map, rules, sym, ap, map, refl}
use Rattle.std.specs.List.{find}
use Rattle.std.proofs.lemmas.Iterator.{YieldsList, YieldsList-from_slice}
use Rattle.std.proofs.lemmas.Iterator.Search.{find_from_yields_List}
use Rattle.ec_script.specs.declared.forms.Form.{Form}
use Rattle.ec_script.specs.Forms.{fits, form_of}
use Rattle.ec_script.specs.Words.{Text}
use Rattle.ec_script.proofs.forms.form_of.Goals as goal

abbrev Row : Type 0
Row = Form × Bor Text

abbrev text_now : Row → Form × Text
text_now r = (r.0, r.1.now)

abbrev first_now : List Text → List Row → Option Row
first_now words rows = find (λ (r : Row). fits words r.1.now) rows

abbrev first : List Text → List (Form × Text) → Option Form
first words rows = option_map (λ (f : Form × Text). f.0) (find (λ (f : Form × Text). fits words f.1) rows)

-- a row that fits, or one of those behind it
step : (fit : Bool) (r : Row) (now : Option Row) (rest : Option (Form × Text)) → option_map (λ (f : Row). f.0) now ≡ option_map (λ (f : Form × Text). f.0) rest
    → option_map (λ (f : Row). f.0) (cond fit (Some r) now) ≡ option_map (λ (f : Form × Text). f.0) (cond fit (Some (text_now r)) rest)
step true r now rest e = refl
step false r now rest e = e

rows_now : (words : List Text) (rows : List Row) → option_map (λ (f : Row). f.0) (first_now words rows) ≡ first words (map text_now rows)
rows_now words [] = refl
rows_now words (r ∷ rows) = step (fits words r.1.now) r _ _ (rows_now words rows)

found : {S : Type 0} {steps : S → Option (Bor Row) → S → Type 0} {s : S} {rows : List Row} (words : List Text) (r : Option (Bor Row)) → YieldsList steps (λ x. x.now) s rows
    → option_map (λ x. x.now) r ≡ first_now words rows → option_map (λ (x : Bor Row). x.now.0) r ≡ first words (map text_now rows)
found {rows = rows} words None yields h = ap (option_map (λ (f : Row). f.0)) h ∙ rows_now words rows
found {rows = rows} words (Some x) yields h = ap (option_map (λ (f : Row). f.0)) h ∙ rows_now words rows

pub returns-in_err-form : goal.returns-in_err-form
unfolding form_of
returns-in_err-form c =
    let words : List Text = map (λ x. x.now) c.args.words.now in
    let yields = YieldsList-from_slice _ c.iter.ensures.rest in
    let ran = find_from_yields_List (λ (r : Row). fits words r.1.now) _ _ c.find.result c.find.ensures.ran yields (λ x b q k. search rules) in
    c.from_residual.ensures ∙ (sym (ap (option_map (λ (x : Bor Row). x.now.0)) c.in_err-form.was) ∙ found words c.find.result yields ran)

pub returns : goal.returns
unfolding form_of
returns c =
    let words : List Text = map (λ x. x.now) c.args.words.now in
    let yields = YieldsList-from_slice _ c.iter.ensures.rest in
    let ran = find_from_yields_List (λ (r : Row). fits words r.1.now) _ _ c.find.result c.find.ensures.ran yields (λ x b q k. search rules) in
    sym (ap (option_map (λ (x : Bor Row). x.now.0)) c.in_ok-form.was) ∙ found words c.find.result yields ran
