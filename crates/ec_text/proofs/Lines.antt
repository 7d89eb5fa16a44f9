-- One element of a list whose texts stand one after another, and the end.
use Rattle.std.proofs.Common.{◌≡◌, ℕ, ◌+◌, ◌<◌, ◌≤◌, Bool, true, if◌then◌else◌, Option, Result, OnOk, List, [], ◌∷◌, ◌++◌, length, get_or, drop, codes, refl, sym, ap, subst, ◌∙◌, append_assoc, append-nil}
use Rattle.std.proofs.lemmas.List.{at_drop_more, drop_more, drop_all}
use Rattle.ec_device.specs.declared.hardware.Hardware.{Hardware}
use Rattle.ec_link.specs.declared.image.Variable.{Variable}
use Rattle.ec_regs.specs.declared.fmmu.FmmuSettings.{FmmuSettings}
use Rattle.ec_regs.specs.Fmmus.{fmmu_bytes}
use Rattle.ec_regs.specs.Names.{shown_fmmu}
use Rattle.ec_table.specs.declared.rows.VariableRow.{VariableRow}
use Rattle.ec_text.specs.HeaderText.{count_line, end, head, header_text, variable_lines}
use Rattle.ec_text.specs.PlanText.{fmmu_line, lines_from, record_line}

pub lines_more : {X : Type 0} (f : ℕ → X → List ℕ) (xs : List X) (done more whole : List ℕ) (i : ℕ) (x : X) → i < length xs → x ≡ get_or xs i x → more ≡ done ++ f i x
    → done ++ lines_from f i (drop i xs) ≡ whole → more ++ lines_from f (i + 1) (drop (i + 1) xs) ≡ whole
lines_more f xs done more whole i x h is em e =
    let d : drop i xs ≡ x ∷ drop (i + 1) xs = drop_more xs i x h ∙ ap (λ w. w ∷ drop (i + 1) xs) (sym is) in
    rw (em, append_assoc) (sym (ap (λ ys. done ++ lines_from f i ys) d) ∙ e)

pub lines_all : {X : Type 0} (f : ℕ → X → List ℕ) (xs : List X) (done whole : List ℕ) (i : ℕ) → length xs ≤ i → done ++ lines_from f i (drop i xs) ≡ whole → done ≡ whole
lines_all f xs done whole i h e = let d : drop i xs ≡ [] = drop_all i xs h in sym (append-nil done) ∙ (rw d at e)

pub ruleset line_steps = (lines_more, lines_all)

-- the same of the element that a loop is at
pub lines_at : {X : Type 0} (f : ℕ → X → List ℕ) (xs : List X) (done more whole : List ℕ) (i : ℕ) (d : X) → i < length xs → more ≡ done ++ f i (get_or xs i d)
    → done ++ lines_from f i (drop i xs) ≡ whole → more ++ lines_from f (i + 1) (drop (i + 1) xs) ≡ whole
lines_at f xs done more whole i d h em e = rw (em, append_assoc) (sym (at_drop_more (λ ys. done ++ lines_from f i ys) xs i d h) ∙ e)

-- ---- texts that are added one after another

pub nothing_added : (text : List ℕ) → text ≡ text ++ []
nothing_added text = sym (append-nil text)

-- an FMMU that is active
pub fmmu_added : {X E : Type 0} (result : Result X E) (o : Option Hardware) (n : ℕ) (f g : FmmuSettings) (bytes old new : List ℕ) → f.active ≡ true → g ≡ shown_fmmu o f
    → bytes ≡ fmmu_bytes g → OnOk result (new ≡ old ++ record_line (codes "fmmu") n bytes) → OnOk result (new ≡ old ++ fmmu_line o n f)
fmmu_added result o n f g bytes old new on shown are last =
    let whole : List ℕ = record_line (codes "fmmu") n (fmmu_bytes (shown_fmmu o f)) in
    let chosen : whole ≡ fmmu_line o n f = subst (λ (b : Bool). whole ≡ (if b then whole else [])) (sym on) refl in
    let line : record_line (codes "fmmu") n bytes ≡ fmmu_line o n f = ap (λ bs. record_line (codes "fmmu") n bs) (are ∙ ap (λ s. fmmu_bytes s) shown) ∙ chosen in
    subst (λ (l : List ℕ). OnOk result (new ≡ old ++ l)) line last

pub added : (old text more x y : List ℕ) → more ≡ text ++ y → text ≡ old ++ x → more ≡ old ++ (x ++ y)
added old text more x y last first = last ∙ (ap (λ t. t ++ y) first ∙ append_assoc old x y)

pub three_added : (old one two three a b c : List ℕ) → one ≡ old ++ a → two ≡ one ++ b → three ≡ two ++ c → three ≡ old ++ (a ++ b ++ c)
three_added old one two three a b c first second third =
    third ∙ ap (λ t. t ++ c) (second ∙ ap (λ t. t ++ b) first) ∙ ap (λ t. t ++ c) (append_assoc old a b) ∙ append_assoc old (a ++ b) c

pub header_added : (prefix : List ℕ) (variables : List VariableRow) (places : List Variable) (none one two three four : List ℕ) → none ≡ [] → one ≡ none ++ head prefix
    → two ≡ one ++ lines_from (variable_lines prefix places) 0 variables → three ≡ two ++ count_line prefix (length variables) → four ≡ three ++ end → four ≡ header_text prefix variables places
header_added prefix variables places none one two three four empty first second third last =
    let lines = lines_from (variable_lines prefix places) 0 variables in
    let begun : one ≡ head prefix = first ∙ ap (λ t. t ++ head prefix) empty in
    last ∙ ap (λ t. t ++ end) (third ∙ ap (λ t. t ++ count_line prefix (length variables)) (second ∙ ap (λ t. t ++ lines) begun))
