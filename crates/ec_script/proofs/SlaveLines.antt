-- The lines of slaves, one after another.
use Rattle.std.proofs.Common.{◌≡◌, ◌∙◌, ℕ, ◌+◌, ◌<◌, ◌≤◌, List, [], ◌∷◌, ◌++◌, length, drop, get_or, Option, None, sym, ap, append_assoc, append-nil}
use Rattle.std.proofs.lemmas.List.{drop_all, drop_more}
use Rattle.ec_asking.specs.declared.answer.AlStatus.{AlStatus}
use Rattle.ec_table.specs.declared.rows.SlaveRow.{SlaveRow}
use Rattle.ec_text.specs.PlanText.{lines_from}
use Rattle.ec_script.specs.States.{line_text, state_line}

pub slaves_more : (states : List (Option AlStatus)) (rows : List SlaveRow) (done more whole : List ℕ) (i : ℕ) (x : SlaveRow) → i < length rows → x ≡ get_or rows i x
    → more ≡ done ++ line_text i x.name (get_or states i None) → done ++ lines_from (state_line states) i (drop i rows) ≡ whole
    → more ++ lines_from (state_line states) (i + 1) (drop (i + 1) rows) ≡ whole
slaves_more states rows done more whole i x h is em e =
    let d : drop i rows ≡ x ∷ drop (i + 1) rows = drop_more rows i x h ∙ ap (λ (w : SlaveRow). w ∷ drop (i + 1) rows) (sym is) in
    rw (em, append_assoc) (sym (ap (λ (ys : List SlaveRow). done ++ lines_from (state_line states) i ys) d) ∙ e)

pub slaves_all : (states : List (Option AlStatus)) (rows : List SlaveRow) (done whole : List ℕ) (i : ℕ) → length rows ≤ i → done ++ lines_from (state_line states) i (drop i rows) ≡ whole → done ≡ whole
slaves_all states rows done whole i h e = let d : drop i rows ≡ [] = drop_all i rows h in sym (append-nil done) ∙ (rw d at e)

pub ruleset slave_steps = (slaves_more, slaves_all)
