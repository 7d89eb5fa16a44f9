-- The words of a line, one group after another.
use Rattle.std.proofs.Common.{◌≡◌, ◌∙◌, ℕ, ◌+◌, ◌*◌, ◌/◌, ◌%◌, ◌<◌, ◌≤◌, List, [], ◌∷◌, ◌++◌, length, drop, get_or, map, Bor, Option, Some, None, option_and_then, codes, refl, sym, ap, arith, append_assoc, append-nil}
use Rattle.std.proofs.lemmas.List.{drop_all, drop_more}
use Rattle.ec_table.specs.Contents.{Contents}
use Rattle.ec_script.specs.declared.line.LineAction.{LineAction}
use Rattle.ec_script.specs.Actions.{action_of_words}
use Rattle.ec_script.specs.Tasks.{blanked, each_name, each_setting}
use Rattle.ec_script.specs.Words.{Text}

abbrev Words : Type 0
Words = List (Bor Text)

-- the texts of words
abbrev pub texts : Words → List Text
texts words = map (λ x. x.now) words

-- actions, and those of what follows
abbrev pub behind : List LineAction → Option (List LineAction) → Option (List LineAction)
behind done None = None
behind done (Some more) = Some (done ++ more)

pub behind_none : (o : Option (List LineAction)) → behind [] o ≡ o
behind_none None = refl
behind_none (Some more) = refl

behind_one : (done : List LineAction) (a : LineAction) (o : Option (List LineAction)) → behind (done ++ (a ∷ [])) o ≡ behind done (option_and_then (λ more. Some (a ∷ more)) o)
behind_one done a None = refl
behind_one done a (Some more) = ap Some (append_assoc done (a ∷ []) more)

abbrev with_first : Option (List LineAction) → LineAction → Option (List LineAction)
with_first rest a = option_and_then (λ more. Some (a ∷ more)) rest

-- ---- names

names_at : (t : Contents) (verb : Text) (names : Words) (i : ℕ) (d : Bor Text) → i < length names
    → each_name t verb (texts (drop i names)) ≡ option_and_then (with_first (each_name t verb (texts (drop (i + 1) names)))) (action_of_words t (verb ∷ (get_or names i d).now ∷ []))
names_at t verb names i d lt = ap (λ (ws : Words). each_name t verb (texts ws)) (drop_more names i d lt)

pub names_more : (t : Contents) (verb : Text) (names : Words) (i : ℕ) (d : Bor Text) (done new : List LineAction) (a : LineAction) (whole : Option (List LineAction)) → i < length names
    → action_of_words t (verb ∷ (get_or names i d).now ∷ []) ≡ Some a → new ≡ done ++ (a ∷ []) → behind done (each_name t verb (texts (drop i names))) ≡ whole
    → behind new (each_name t verb (texts (drop (i + 1) names))) ≡ whole
names_more t verb names i d done new a whole lt is added inv =
    let rest : Option (List LineAction) = each_name t verb (texts (drop (i + 1) names)) in
    ap (λ (xs : List LineAction). behind xs rest) added
    ∙ (behind_one done a rest ∙ (sym (ap (behind done) (names_at t verb names i d lt ∙ ap (option_and_then (with_first rest)) is)) ∙ inv))

pub names_bad : (t : Contents) (verb : Text) (names : Words) (i : ℕ) (d : Bor Text) (done : List LineAction) (whole : Option (List LineAction)) → i < length names
    → action_of_words t (verb ∷ (get_or names i d).now ∷ []) ≡ None → behind done (each_name t verb (texts (drop i names))) ≡ whole → None ≡ whole
names_bad t verb names i d done whole lt is inv =
    let rest : Option (List LineAction) = each_name t verb (texts (drop (i + 1) names)) in
    sym (ap (behind done) (names_at t verb names i d lt ∙ ap (option_and_then (with_first rest)) is)) ∙ inv

pub names_all : (t : Contents) (verb : Text) (names : Words) (i : ℕ) (done : List LineAction) (whole : Option (List LineAction)) → length names ≤ i → behind done (each_name t verb (texts (drop i names))) ≡ whole → Some done ≡ whole
names_all t verb names i done whole le inv =
    ap Some (sym (append-nil done)) ∙ (sym (ap (λ (ws : Words). behind done (each_name t verb (texts ws))) (drop_all i names le)) ∙ inv)

-- ---- settings

settings_at : (t : Contents) (words : Words) (i : ℕ) (d : Bor Text) → i + 1 < length words
    → each_setting t (texts (drop i words)) ≡ option_and_then (with_first (each_setting t (texts (drop (i + 1 + 1) words)))) (action_of_words t (codes "set" ∷ (get_or words i d).now ∷ (get_or words (i + 1) d).now ∷ []))
unfolding each_setting
settings_at t words i d lt =
    let here : drop i words ≡ get_or words i d ∷ get_or words (i + 1) d ∷ drop (i + 1 + 1) words = drop_more words i d (omega arith) ∙ ap (λ (ws : Words). get_or words i d ∷ ws) (drop_more words (i + 1) d lt) in
    ap (λ (ws : Words). each_setting t (texts ws)) here

pub settings_more : (t : Contents) (words : Words) (i : ℕ) (d : Bor Text) (done new : List LineAction) (a : LineAction) (whole : Option (List LineAction)) → i + 1 < length words
    → action_of_words t (codes "set" ∷ (get_or words i d).now ∷ (get_or words (i + 1) d).now ∷ []) ≡ Some a → new ≡ done ++ (a ∷ []) → behind done (each_setting t (texts (drop i words))) ≡ whole
    → behind new (each_setting t (texts (drop (i + 1 + 1) words))) ≡ whole
settings_more t words i d done new a whole lt is added inv =
    let rest : Option (List LineAction) = each_setting t (texts (drop (i + 1 + 1) words)) in
    ap (λ (xs : List LineAction). behind xs rest) added
    ∙ (behind_one done a rest ∙ (sym (ap (behind done) (settings_at t words i d lt ∙ ap (option_and_then (with_first rest)) is)) ∙ inv))

pub settings_bad : (t : Contents) (words : Words) (i : ℕ) (d : Bor Text) (done : List LineAction) (whole : Option (List LineAction)) → i + 1 < length words
    → action_of_words t (codes "set" ∷ (get_or words i d).now ∷ (get_or words (i + 1) d).now ∷ []) ≡ None → behind done (each_setting t (texts (drop i words))) ≡ whole → None ≡ whole
settings_bad t words i d done whole lt is inv =
    let rest : Option (List LineAction) = each_setting t (texts (drop (i + 1 + 1) words)) in
    sym (ap (behind done) (settings_at t words i d lt ∙ ap (option_and_then (with_first rest)) is)) ∙ inv

settings_none : (t : Contents) → each_setting t [] ≡ Some []
unfolding each_setting
settings_none t = refl

pub settings_all : (t : Contents) (words : Words) (i : ℕ) (done : List LineAction) (whole : Option (List LineAction)) → length words ≤ i → behind done (each_setting t (texts (drop i words))) ≡ whole → Some done ≡ whole
settings_all t words i done whole le inv =
    ap Some (sym (append-nil done)) ∙ (sym (ap (behind done) (ap (λ (ws : Words). each_setting t (texts ws)) (drop_all i words le) ∙ settings_none t)) ∙ inv)

none_first : (o : Option LineAction) → None ≡ option_and_then (with_first None) o
none_first None = refl
none_first (Some a) = refl

zero_even : 0 % 2 ≡ 1 → ⊥
zero_even h = omega (arith, h)

-- a name without a value behind it
pub odd_none : (t : Contents) (words : Words) → length words % 2 ≡ 1 → None ≡ each_setting t (texts words)
unfolding each_setting
odd_none t [] odd = absurd (zero_even odd)
odd_none t (name ∷ []) odd = refl
odd_none t (name ∷ value ∷ words) odd =
    let less : length words % 2 ≡ 1 = omega (arith, odd) in
    none_first (action_of_words t (codes "set" ∷ name.now ∷ value.now ∷ [])) ∙ ap (λ (o : Option (List LineAction)). option_and_then (with_first o) (action_of_words t (codes "set" ∷ name.now ∷ value.now ∷ []))) (odd_none t words less)

-- which words a pair is
pub pair_within : (pair n : ℕ) → pair < n / 2 → 2 * pair + 1 < n
pair_within pair n lt = omega (arith, lt)

pub pairs_all : (pair n : ℕ) → (n % 2 ≡ 1 → ⊥) → n / 2 ≤ pair → n ≤ 2 * pair
pairs_all pair n even past = omega (arith, even, past)

pub next_pair : (t : Contents) (words : Words) (pair : ℕ) (done : List LineAction) (whole : Option (List LineAction)) → behind done (each_setting t (texts (drop (2 * pair + 1 + 1) words))) ≡ whole
    → behind done (each_setting t (texts (drop (2 * (pair + 1)) words))) ≡ whole
next_pair t words pair done whole h =
    let e : 2 * (pair + 1) ≡ 2 * pair + 1 + 1 = omega arith in
    ap (λ (k : ℕ). behind done (each_setting t (texts (drop k words)))) e ∙ h

-- ---- a text

pub text_more : (words : Words) (i : ℕ) (d : Bor Text) (text new whole : Text) → i < length words → new ≡ text ++ (32 ∷ (get_or words i d).now) → text ++ blanked (texts (drop i words)) ≡ whole
    → new ++ blanked (texts (drop (i + 1) words)) ≡ whole
text_more words i d text new whole lt added inv =
    let rest : Text = blanked (texts (drop (i + 1) words)) in
    ap (λ (s : Text). s ++ rest) added ∙ (append_assoc text (32 ∷ (get_or words i d).now) rest ∙ (sym (ap (λ (ws : Words). text ++ blanked (texts ws)) (drop_more words i d lt)) ∙ inv))

pub text_all : (words : Words) (i : ℕ) (text whole : Text) → length words ≤ i → text ++ blanked (texts (drop i words)) ≡ whole → text ≡ whole
text_all words i text whole le inv = sym (append-nil text) ∙ (sym (ap (λ (ws : Words). text ++ blanked (texts ws)) (drop_all i words le)) ∙ inv)
