-- A spot of a text lies in it.
use Rattle.std.proofs.Common.{◌≡◌, ◌⊎◌, ℕ, suc, zero, ◌+◌, ◌-◌, ◌<◌, ◌≤◌, Bool, true, false, not, cond, List, [], ◌∷◌, ◌++◌, take, drop, reverse, refl, sym, ◌∙◌, ap, subst, arith, slice_get, Some, inl, inr}
use Rattle.std.proofs.lemmas.Bool.{cases_Bool}
use Rattle.std.proofs.lemmas.List.{take-append-drop}
use Rattle.std.proofs.lemmas.List.Sums.{sum_by-cons}
use Rattle.std.specs.Prelude.{count_by, take_while}
use Rattle.std.specs.List.{prefix_len}
use mathlib.Core.List.{reverse-cons}
use Rattle.ec_diagnostic.specs.declared.spot.Spot.{Spot}
use Rattle.ec_diagnostic.specs.Spots.{is_line_end, goes_on, opens, spot_at, onto, pieces, LiesIn}

-- how many pass, from the front on
abbrev count : (ℕ → Bool) → List ℕ → ℕ
count p [] = 0
count p (x ∷ xs) = cond (p x) 1 0 + count p xs

count_is : (p : ℕ → Bool) (xs : List ℕ) → count_by p xs ≡ count p xs
count_is p [] = refl
count_is p (x ∷ xs) = sum_by-cons (λ y. cond (p y) 1 0) x xs ∙ ap (λ n. cond (p x) 1 0 + n) (count_is p xs)

count_last : (p : ℕ → Bool) (xs : List ℕ) (b : ℕ) → count p (xs ++ b ∷ []) ≡ count p xs + cond (p b) 1 0
count_last p [] b = omega arith
count_last p (x ∷ xs) b = omega (arith, count_last p xs b)

-- characters before the first line end
abbrev shown : List ℕ → ℕ
shown [] = 0
shown (x ∷ xs) = cond (goes_on x) (cond (opens x) 1 0 + shown xs) 0

shown_is : (xs : List ℕ) → count opens (take_while goes_on xs) ≡ shown xs
shown_is [] = refl
shown_is (x ∷ xs) =
    let up : 1 + prefix_len goes_on xs ≡ suc (prefix_len goes_on xs) = omega arith in
    elim (goes_on x) as (λ v. count opens (take (cond v (1 + prefix_len goes_on xs) 0) (x ∷ xs)) ≡ cond v (cond (opens x) 1 0 + shown xs) 0) [
      | true ↦ rw up (ap (λ n. cond (opens x) 1 0 + n) (shown_is xs))
      | false ↦ refl
    ]

-- one byte more, at the end
shown_le : (xs : List ℕ) (b : ℕ) → shown (xs ++ b ∷ []) ≤ cond (opens b) 1 0 + shown xs
shown_le [] b = elim (goes_on b) as (λ v. cond v (cond (opens b) 1 0 + 0) 0 ≤ cond (opens b) 1 0 + 0) [ true ↦ omega arith | false ↦ omega arith ]
shown_le (x ∷ xs) b =
    let more : shown (xs ++ b ∷ []) ≤ cond (opens b) 1 0 + shown xs = shown_le xs b in
    elim (goes_on x) as (λ v. cond v (cond (opens x) 1 0 + shown (xs ++ b ∷ [])) 0 ≤ cond (opens b) 1 0 + cond v (cond (opens x) 1 0 + shown xs) 0) [ true ↦ omega arith | false ↦ omega arith ]

shown_at_end : (xs : List ℕ) (b : ℕ) → goes_on b ≡ false → shown (xs ++ b ∷ []) ≡ shown xs
shown_at_end [] b e = rw e refl
shown_at_end (x ∷ xs) b e = ap (λ n. cond (goes_on x) (cond (opens x) 1 0 + n) 0) (shown_at_end xs b e)

-- what stands behind a line end doesn't count
past_by : (x : ℕ) (xs : List ℕ) (b : ℕ) → (0 < count is_line_end xs → shown (xs ++ b ∷ []) ≡ shown xs) → (is_line_end x ≡ true) ⊎ (is_line_end x ≡ false) → 0 < count is_line_end (x ∷ xs) → shown ((x ∷ xs) ++ b ∷ []) ≡ shown (x ∷ xs)
past_by x xs b more (inl e) h = rw e refl
past_by x xs b more (inr e) h =
    let all : 0 < 0 + count is_line_end xs = rw e at h in
    ap (λ n. cond (goes_on x) (cond (opens x) 1 0 + n) 0) (more (omega arith))

shown_past : (xs : List ℕ) (b : ℕ) → 0 < count is_line_end xs → shown (xs ++ b ∷ []) ≡ shown xs
shown_past [] b h = absurd (omega arith)
shown_past (x ∷ xs) b h = past_by x xs b (shown_past xs b) (cases_Bool (is_line_end x)) h

ends_reversed : (xs : List ℕ) → count is_line_end (reverse xs) ≡ count is_line_end xs
ends_reversed [] = refl
ends_reversed (x ∷ xs) = ap (count is_line_end) (reverse-cons x xs) ∙ (count_last is_line_end (reverse xs) x ∙ omega (arith, ends_reversed xs))

-- a text has a first line
onto_some : (b : ℕ) (ls : List (List ℕ)) → (line : List ℕ) × (slice_get (onto b ls) 0 ≡ Some line)
onto_some b [] = (b ∷ [], refl)
onto_some b (l ∷ ls) = (b ∷ l, refl)

first_line : (t : List ℕ) → (line : List ℕ) × (slice_get (pieces t) 0 ≡ Some line)
first_line [] = ([], refl)
first_line (b ∷ bs) = elim (is_line_end b) as (λ v. (line : List ℕ) × (slice_get (cond v ([] ∷ pieces bs) (onto b (pieces bs))) 0 ≡ Some line)) [ true ↦ ([], refl) | false ↦ onto_some b (pieces bs) ]

onto_first : (b : ℕ) (ls : List (List ℕ)) (line : List ℕ) → slice_get ls 0 ≡ Some line → slice_get (onto b ls) 0 ≡ Some (b ∷ line)
onto_first b [] line h = cc
onto_first b (l ∷ ls) line h = cc

onto_later : (b : ℕ) (ls : List (List ℕ)) (n : ℕ) (line : List ℕ) → slice_get ls (suc n) ≡ Some line → slice_get (onto b ls) (suc n) ≡ Some line
onto_later b [] n line h = cc
onto_later b (l ∷ ls) n line h = h

-- the line behind as many line ends has the characters that stand behind the last of them
record Stands (before after : List ℕ) : Type 0 where
  line : List ℕ
  there : slice_get (pieces (before ++ after)) (count is_line_end before) ≡ Some line
  few : shown (reverse before) ≤ count opens line

-- a byte more in front, which ends a line
with_end : (b : ℕ) (bs after : List ℕ) → is_line_end b ≡ true → Stands bs after → Stands (b ∷ bs) after
with_end b bs after e s =
    let up : 1 + count is_line_end bs ≡ suc (count is_line_end bs) = omega arith in
    let stops : goes_on b ≡ false = ap not e in
    let same : shown (reverse bs ++ b ∷ []) ≡ shown (reverse bs) = shown_at_end (reverse bs) b stops in
    record { line = s.line; there = rw (e, up) s.there; few = rw (reverse-cons, same) s.few }

-- or which is one of its characters, or a part of one
with_byte : (b : ℕ) (bs after : List ℕ) (n : ℕ) → count is_line_end bs ≡ n → is_line_end b ≡ false → Stands bs after → Stands (b ∷ bs) after
with_byte b bs after zero k e s =
    let here : slice_get (pieces (bs ++ after)) 0 ≡ Some s.line = rw k at s.there in
    let more : shown (reverse bs ++ b ∷ []) ≤ cond (opens b) 1 0 + shown (reverse bs) = shown_le (reverse bs) b in
    let none : 0 + count is_line_end bs ≡ 0 = omega (arith, k) in
    record { line = b ∷ s.line; there = rw (e, none) (onto_first b (pieces (bs ++ after)) s.line here); few = rw reverse-cons (omega (arith, more, s.few)) }
with_byte b bs after (suc n) k e s =
    let here : slice_get (pieces (bs ++ after)) (suc n) ≡ Some s.line = rw k at s.there in
    let some : 0 + count is_line_end bs ≡ suc n = omega (arith, k) in
    let ended : 0 < count is_line_end (reverse bs) = omega (arith, ends_reversed bs, k) in
    let same : shown (reverse bs ++ b ∷ []) ≡ shown (reverse bs) = shown_past (reverse bs) b ended in
    record { line = s.line; there = rw (e, some) (onto_later b (pieces (bs ++ after)) n s.line here); few = rw (reverse-cons, same) s.few }

with_any : (b : ℕ) (bs after : List ℕ) → (is_line_end b ≡ true) ⊎ (is_line_end b ≡ false) → Stands bs after → Stands (b ∷ bs) after
with_any b bs after (inl e) s = with_end b bs after e s
with_any b bs after (inr e) s = with_byte b bs after (count is_line_end bs) refl e s

stands : (before after : List ℕ) → Stands before after
stands [] after = let first = first_line after in record { line = first.0; there = first.1; few = omega arith }
stands (b ∷ bs) after = with_any b bs after (cases_Bool (is_line_end b)) (stands bs after)

lies_at : (text : List ℕ) (place : ℕ) → Stands (take place text) (drop place text) → LiesIn text (spot_at text place)
lies_at text place s =
    let there : slice_get (pieces text) (count is_line_end (take place text)) ≡ Some s.line = rw take-append-drop at s.there in
    let ends : count_by is_line_end (take place text) ≡ count is_line_end (take place text) = count_is is_line_end (take place text) in
    let down : 1 + count_by is_line_end (take place text) - 1 ≡ count is_line_end (take place text) = omega (arith, ends) in
    let same : count_by opens (take_while goes_on (reverse (take place text))) ≡ shown (reverse (take place text)) = count_is opens (take_while goes_on (reverse (take place text))) ∙ shown_is (reverse (take place text)) in
    record {
      some_line = omega arith;
      some_column = omega arith;
      line = s.line;
      there = rw down there;
      within = omega (arith, same, s.few, count_is opens s.line);
    }

pub lies : (text : List ℕ) (place : ℕ) (spot : Spot) → spot ≡ spot_at text place → LiesIn text spot
lies text place spot e = subst (λ (s : Spot). LiesIn text s) (sym e) (lies_at text place (stands (take place text) (drop place text)))
