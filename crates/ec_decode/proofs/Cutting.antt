-- Texts cut at their newlines, line by line.
use Rattle.std.proofs.Common.{◌≡◌, ◌∙◌, ℕ, ◌+◌, ◌<◌, ◌≤◌, ◌==◌, List, [], ◌∷◌, ◌++◌, length, get_or, take, drop, map, nat_lt, Bool, true, false, cond, Option, Some, None, Bor, refl, sym, ap, append_assoc, append-nil, arith}
use Rattle.std.proofs.lemmas.Bool.Decides.{nat_tests}
use Rattle.std.specs.List.{AllByRecursion, flat_map, onto_first}
use Rattle.std.proofs.lemmas.List.{drop_all, drop_more, take_all}
use Rattle.std.proofs.lemmas.List.Elements.{All-nil, All-cons}
use Rattle.std.proofs.lemmas.List.Splits.{slice_split_at, slice_split_none}
use Rattle.ec_decode.specs.FrameText.{Text, newline}
use Rattle.ec_decode.proofs.ReadingWords.{Lacks}
use Rattle.ec_decode.specs.Indented.{behind, ended, indented, indented_line, kept, margin, parts_of, remark_of, unindented, without_indented, woven, woven_from}

-- ---- the parts of a text

pub record AreSome (parts : List Text) : Type 0 where
  pub first : Text
  pub others : List Text
  pub is : parts ≡ first ∷ others

onto_some : (x : ℕ) (parts : List Text) → AreSome parts → AreSome (onto_first x parts)
onto_some x [] s = record { first = x ∷ []; others = []; is = refl }
onto_some x (p ∷ ps) s = record { first = x ∷ p; others = ps; is = refl }

pub some_parts : (text : Text) → AreSome (parts_of text)
some_parts [] = record { first = []; others = []; is = refl }
some_parts (x ∷ xs) = by (x == 10) (some_parts xs)
  where
    by : (b : Bool) → AreSome (parts_of xs) → AreSome (cond b ([] ∷ parts_of xs) (onto_first x (parts_of xs)))
    by true s = record { first = []; others = parts_of xs; is = refl }
    by false s = onto_some x (parts_of xs) s

abbrev pub AreLines : List Text → Type 0
AreLines parts = AllByRecursion (Lacks 10) parts

onto_lines : (x : ℕ) (parts : List Text) → (x == 10) ≡ false → AreLines parts → AreLines (onto_first x parts)
onto_lines x [] e h = (All-cons (λ b. (b == 10) ≡ false) x [] e (All-nil (λ b. (b == 10) ≡ false)), tt)
onto_lines x (p ∷ ps) e h = (All-cons (λ b. (b == 10) ≡ false) x p e h.0, h.1)

-- no part has a newline
pub parts_are_lines : (text : Text) → AreLines (parts_of text)
parts_are_lines [] = (All-nil (λ b. (b == 10) ≡ false), tt)
parts_are_lines (x ∷ xs) = by (x == 10) refl (parts_are_lines xs)
  where
    by : (b : Bool) → (x == 10) ≡ b → AreLines (parts_of xs) → AreLines (cond b ([] ∷ parts_of xs) (onto_first x (parts_of xs)))
    by true e h = (All-nil (λ b. (b == 10) ≡ false), h)
    by false e h = onto_lines x (parts_of xs) e h

pub one_part : (line : Text) → Lacks 10 line → parts_of line ≡ line ∷ []
one_part line h = slice_split_none (λ b. b == 10) line h

-- ---- a line at the front

pub first_off : (line : Text) (parts : List Text) → AreSome parts → unindented (line ∷ parts) ≡ kept line ++ unindented parts
first_off line parts s = rw s.is refl

pub line_off : (line rest : Text) → Lacks 10 line → without_indented (line ++ 10 ∷ rest) ≡ kept line ++ without_indented rest
line_off line rest h =
    ap unindented (slice_split_at (λ b. b == 10) line 10 rest h refl) ∙ first_off line (parts_of rest) (some_parts rest)

ended_first : (line rest : Text) → (line ++ newline) ++ rest ≡ line ++ 10 ∷ rest
ended_first line rest = append_assoc line newline rest

pub ended_off : (line rest : Text) → Lacks 10 line → without_indented ((line ++ newline) ++ rest) ≡ kept line ++ without_indented rest
ended_off line rest h = ap without_indented (ended_first line rest) ∙ line_off line rest h

-- ---- remarks at the front

blank : (line : Text) → Lacks 10 line → Lacks 10 (32 ∷ line)
blank line h = All-cons (λ b. (b == 10) ≡ false) 32 line refl h

behind_margin : (line : Text) → Lacks 10 line → Lacks 10 (margin ++ line)
behind_margin line h = blank (32 ∷ 32 ∷ 32 ∷ line) (blank (32 ∷ 32 ∷ line) (blank (32 ∷ line) (blank line h)))

one_off : (line rest : Text) → Lacks 10 line → without_indented (indented_line line ++ rest) ≡ without_indented rest
one_off [] rest h = refl
one_off (b ∷ bs) rest h = ended_off (margin ++ b ∷ bs) rest (behind_margin (b ∷ bs) h)

lines_off : (lines : List Text) (rest : Text) → AreLines lines → without_indented (flat_map indented_line lines ++ rest) ≡ without_indented rest
lines_off [] rest h = refl
lines_off (line ∷ lines) rest h =
    ap without_indented (append_assoc (indented_line line) (flat_map indented_line lines) rest)
    ∙ one_off line (flat_map indented_line lines ++ rest) h.0
    ∙ lines_off lines rest h.1

pub indented_off : (remarks rest : Text) → without_indented (indented remarks ++ rest) ≡ without_indented rest
indented_off remarks rest = lines_off (parts_of remarks) rest (parts_are_lines remarks)

-- each line of the remarks is added
pub indented_all : (remarks : Text) (lines : List (Bor Text)) (n : ℕ) → map (λ x. x.now) lines ≡ parts_of remarks → length lines ≤ n → flat_map (λ (x : Bor Text). indented_line x.now) (take n lines) ≡ indented remarks
indented_all remarks lines n is le =
    ap (λ (ls : List (Bor Text)). flat_map (λ (x : Bor Text). indented_line x.now) ls) (take_all n lines le) ∙ each lines ∙ ap (λ (ls : List Text). flat_map indented_line ls) is
  where
    each : (ls : List (Bor Text)) → flat_map (λ (x : Bor Text). indented_line x.now) ls ≡ flat_map indented_line (map (λ x. x.now) ls)
    each [] = refl
    each (l ∷ ls) = ap (λ (t : Text). indented_line l.now ++ t) (each ls)

-- ---- a text with remarks

ended_part_off : (line remarks rest : Text) → Lacks 10 line → without_indented (ended line (Some remarks) ++ rest) ≡ kept line ++ without_indented rest
ended_part_off line remarks rest h =
    ap without_indented (append_assoc (line ++ newline) (indented remarks) rest)
    ∙ ended_off line (indented remarks ++ rest) h
    ∙ ap (λ (t : Text). kept line ++ t) (indented_off remarks rest)

woven_off : (remarks : List Text) (n : ℕ) (parts : List Text) → AreLines parts → without_indented (woven_from remarks n parts) ≡ unindented parts
woven_off remarks n [] h = refl
woven_off remarks n (part ∷ []) h = ap unindented (one_part part h.0)
woven_off remarks n (line ∷ next ∷ parts) h =
    ended_part_off line (remark_of remarks n) (woven_from remarks (n + 1) (next ∷ parts)) h.0
    ∙ ap (λ (t : Text). kept line ++ t) (woven_off remarks (n + 1) (next ∷ parts) h.1)

pub woven_is_same : (remarks : List Text) (text : Text) → without_indented (woven remarks text) ≡ without_indented text
woven_is_same remarks text = woven_off remarks 0 (parts_of text) (parts_are_lines text)

-- ---- one part more is added

abbrev pub texts : List (Bor Text) → List Text
texts parts = map (λ x. x.now) parts

-- the parts from n on are still to be added
abbrev pub ahead : List Text → List (Bor Text) → ℕ → Text
ahead remarks parts n = woven_from remarks n (texts (drop n parts))

last_added : (remarks : List Text) (parts : List (Bor Text)) (n : ℕ) (d : Bor Text) → n < length parts → length parts ≤ n + 1 → ahead remarks parts n ≡ ended (get_or parts n d).now None ++ ahead remarks parts (n + 1)
last_added remarks parts n d lt le =
    let there : drop n parts ≡ get_or parts n d ∷ drop (n + 1) parts = drop_more parts n d lt in
    let none : drop (n + 1) parts ≡ [] = drop_all (n + 1) parts le in
    rw (there, none) (sym (append-nil (get_or parts n d).now))

line_added : (remarks : List Text) (parts : List (Bor Text)) (n : ℕ) (d : Bor Text) → n < length parts → n + 1 < length parts → ahead remarks parts n ≡ ended (get_or parts n d).now (Some (remark_of remarks n)) ++ ahead remarks parts (n + 1)
line_added remarks parts n d lt more =
    let there : drop n parts ≡ get_or parts n d ∷ drop (n + 1) parts = drop_more parts n d lt in
    let next : drop (n + 1) parts ≡ get_or parts (n + 1) d ∷ drop (n + 1 + 1) parts = drop_more parts (n + 1) d more in
    rw (there, next) refl

part_is : (remarks : List Text) (parts : List (Bor Text)) (n : ℕ) (d : Bor Text) (b : Bool) → n < length parts → nat_lt (n + 1) (length parts) ≡ b → ahead remarks parts n ≡ ended (get_or parts n d).now (behind remarks n b) ++ ahead remarks parts (n + 1)
part_is remarks parts n d true lt is = line_added remarks parts n d lt (grind (arith, nat_tests))
part_is remarks parts n d false lt is = last_added remarks parts n d lt (grind (arith, nat_tests))

pub part_added : (remarks : List Text) (parts : List (Bor Text)) (n count : ℕ) (d : Bor Text) (after : Option Text) (old new all : Text) → n < length parts → count ≡ length parts → after ≡ behind remarks n (nat_lt (n + 1) count)
    → new ≡ old ++ ended (get_or parts n d).now after → old ++ ahead remarks parts n ≡ all → new ++ ahead remarks parts (n + 1) ≡ all
part_added remarks parts n count d after old new all lt size is added h =
    let part : Text = ended (get_or parts n d).now (behind remarks n (nat_lt (n + 1) (length parts))) in
    let same : after ≡ behind remarks n (nat_lt (n + 1) (length parts)) = is ∙ ap (λ (m : ℕ). behind remarks n (nat_lt (n + 1) m)) size in
    ap (λ (t : Text). t ++ ahead remarks parts (n + 1)) (added ∙ ap (λ (o : Option Text). old ++ ended (get_or parts n d).now o) same)
    ∙ append_assoc old part (ahead remarks parts (n + 1))
    ∙ ap (λ (t : Text). old ++ t) (sym (part_is remarks parts n d (nat_lt (n + 1) (length parts)) lt refl))
    ∙ h

pub none_ahead : (remarks : List Text) (parts : List (Bor Text)) (n : ℕ) (old all : Text) → length parts ≤ n → old ++ ahead remarks parts n ≡ all → old ≡ all
none_ahead remarks parts n old all le h =
    let none : drop n parts ≡ [] = drop_all n parts le in
    sym (append-nil old) ∙ ap (λ (ps : List (Bor Text)). old ++ woven_from remarks n (texts ps)) (sym none) ∙ h
