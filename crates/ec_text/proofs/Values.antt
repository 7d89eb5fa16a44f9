-- One value of a list whose texts are added one after another, and the end.
use Rattle.std.proofs.Common.{◌≡◌, ◌∙◌, ℕ, ◌+◌, ◌<◌, ◌≤◌, List, [], ◌∷◌, ◌++◌, length, get_or, drop, sym, ap, append_assoc, append-nil}
use Rattle.std.proofs.lemmas.List.{drop_more, drop_all}
use Rattle.std.specs.Fmt.{decimal}
use Rattle.ec_text.specs.RefusalText.{values_text}

pub values_more : (values done more whole : List ℕ) (i value : ℕ) → i < length values → value ≡ get_or values i value → more ≡ done ++ 32 ∷ decimal value
    → done ++ values_text (drop i values) ≡ whole → more ++ values_text (drop (i + 1) values) ≡ whole
values_more values done more whole i value h is em e =
    let d : drop i values ≡ value ∷ drop (i + 1) values = drop_more values i value h ∙ ap (λ w. w ∷ drop (i + 1) values) (sym is) in
    rw (em, append_assoc) (sym (ap (λ rest. done ++ values_text rest) d) ∙ e)

pub values_all : (values done whole : List ℕ) (i : ℕ) → length values ≤ i → done ++ values_text (drop i values) ≡ whole → done ≡ whole
values_all values done whole i h e = let d : drop i values ≡ [] = drop_all i values h in sym (append-nil done) ∙ (rw d at e)

pub ruleset value_steps = (values_more, values_all)
