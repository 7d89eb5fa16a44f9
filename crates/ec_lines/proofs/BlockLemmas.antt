-- Bytes that are read ahead, and lines in them.
use Rattle.std.proofs.Common.{◌≡◌, ◌≢◌, ◌∙◌, ℕ, zero, suc, ◌+◌, ◌-◌, ◌<◌, ◌≤◌, ◌==◌, min, not, All, List, [], ◌∷◌, ◌++◌, length, take, drop, nat_lt, Bool, true, false, Option, None, Some, refl, sym, ap, subst, append_assoc, arith, cond, drop-drop, drop_of_length-le, eq-eqb, eqb-true, get_or, get_or-take, length-take, position, slice_range, take-append-drop, take_all, Result, Ok, Err, IfOk, IfSome, OnErr, OnOk}
use Rattle.std.specs.Io.KnownBytes.{Consumes, IsAtEnd, Keeps, prepend_known}
use Rattle.std.specs.List.{position_or_len}
use Rattle.std.proofs.lemmas.Bool.{false≢true}
use Rattle.std.proofs.lemmas.Bool.Decides.{nat_tests}
use Rattle.std.proofs.lemmas.List.{drop-take, take_more}
use Rattle.std.proofs.lemmas.List.Quantifiers.{position-Some}
use Rattle.std.proofs.lemmas.List.Sums.{prefix_len_passes}
use Rattle.ec_lines.specs.Kept.{IsPart, TakesAhead, TakesMore, kept_more}

-- ---- a front of bytes, and what is behind it

take_join : (n : ℕ) (xs ys : List ℕ) → take n (xs ++ ys) ≡ take n xs ++ take (n - length xs) ys
take_join zero xs ys = let none : 0 - length xs ≡ 0 = omega arith in rw none refl
take_join (suc n) [] ys = let all : suc n - 0 ≡ suc n = omega arith in rw all refl
take_join (suc n) (x ∷ xs) ys =
    let less : n - length xs ≡ suc n - length (x ∷ xs) = omega arith in
    ap (λ l. x ∷ l) (take_join n xs ys ∙ ap (λ k. take n xs ++ take k ys) less)

-- the first bytes are kept, whether at once or part by part
pub keeps_more : (most : ℕ) (front kept part : List ℕ) → kept ≡ take most front → kept_more most kept part ≡ take most (front ++ part)
keeps_more most front kept part is =
    let room : most - length kept ≡ most - length front = omega (arith, ap length is, length-take most front) in
    ap (λ k. kept ++ take k part) room ∙ ap (λ l. l ++ take (most - length front) part) is ∙ sym (take_join most front part)

-- the first bytes of those ahead and of those behind them
first_of : (most count : ℕ) (before ahead rest mid after : List ℕ) → count ≡ min most (length ahead) → mid ≡ before ++ take most ahead → after ≡ mid ++ take (most - count) rest
    → after ≡ before ++ take most (ahead ++ rest)
first_of most count before ahead rest mid after counts first next =
    let room : most - count ≡ most - length ahead = omega (arith, counts) in
    next ∙ ap (λ l. l ++ take (most - count) rest) first ∙ append_assoc before (take most ahead) (take (most - count) rest)
    ∙ ap (λ k. before ++ (take most ahead ++ take k rest)) room ∙ ap (λ l. before ++ l) (sym (take_join most ahead rest))

-- the first bytes by a range
pub front_is : (n : ℕ) (xs : List ℕ) → take (n - 0) xs ≡ take n xs
front_is n xs = let all : n - 0 ≡ n = omega arith in ap (λ k. take k xs) all

-- a window that loses its first bytes
pub window_fits : (xs : List ℕ) (a e n : ℕ) → n ≤ length (slice_range xs a e) → n ≤ e - a
window_fits xs a e n within = omega (arith, within, length-take (e - a) (drop a xs))

pub window_behind : (xs : List ℕ) (a e n : ℕ) → n ≤ length (slice_range xs a e) → slice_range xs (a + n) e ≡ drop n (slice_range xs a e)
window_behind xs a e n within =
    let fits = window_fits xs a e n within in
    let whole : n + (e - (a + n)) ≡ e - a = omega arith in
    ap (take (e - (a + n))) (sym (drop-drop n a xs)) ∙ sym (drop-take n (e - (a + n)) (drop a xs)) ∙ ap (λ k. drop n (take k (drop a xs))) whole

-- ---- the first newline

not_ten : (b : ℕ) → not (b == 10) ≡ true → b ≢ 10
not_ten b h is = absurd (false≢true (subst (λ (c : Bool). not c ≡ true) (eq-eqb b 10 is) h))

none_before : (xs : List ℕ) (n : ℕ) → n ≤ position_or_len (λ b. b == 10) xs → n ≤ length xs → All (λ b. b ≢ 10) (take n xs)
none_before xs n within fits k d lt =
    let below : k < n = omega (arith, lt, length-take n xs) in
    subst (λ (b : ℕ). b ≢ 10) (sym (get_or-take n xs k d below)) (not_ten (get_or xs k d) (prefix_len_passes (λ b. not (b == 10)) xs k d (omega (arith, below, within))))

no_newline : (xs : List ℕ) → None ≡ position (λ b. b == 10) xs → All (λ b. b ≢ 10) xs
no_newline xs h = none (nat_lt (position_or_len (λ b. b == 10) xs) (length xs)) refl h
  where
    none : (c : Bool) → nat_lt (position_or_len (λ b. b == 10) xs) (length xs) ≡ c → None ≡ cond c (Some (position_or_len (λ b. b == 10) xs)) None → All (λ b. b ≢ 10) xs
    none true is e = let f : None ≡ Some (position_or_len (λ b. b == 10) xs) = e in cc
    none false is e = subst (All (λ b. b ≢ 10)) (take_all (length xs) xs (omega arith)) (none_before xs (length xs) (grind (arith, nat_tests)) (omega arith))

pub all_part : (xs : List ℕ) → None ≡ position (λ b. b == 10) xs → IsPart false (take (length xs) xs)
all_part xs h = subst (All (λ b. b ≢ 10)) (sym (take_all (length xs) xs (omega arith))) (no_newline xs h)

pub newline_bound : (xs : List ℕ) (place : ℕ) → Some place ≡ position (λ b. b == 10) xs → place + 1 ≤ length xs
newline_bound xs place h = omega (arith, (position-Some (λ b. b == 10) xs place 0 (sym h)).0)

pub newline_ends : (xs : List ℕ) (place : ℕ) → Some place ≡ position (λ b. b == 10) xs → IsPart true (take (place + 1) xs)
newline_ends xs place h =
    let found = position-Some (λ b. b == 10) xs place 0 (sym h) in
    let ten : get_or xs place 0 ≡ 10 = eqb-true (get_or xs place 0) 10 found.1 in (
      take place xs,
      (λ k d lt.
          let below : k < place = omega (arith, lt, length-take place xs) in
          let other : (get_or xs k d == 10) ≡ false = (position-Some (λ b. b == 10) xs place d (sym h)).2 k below in
          subst (λ (b : ℕ). b ≢ 10) (sym (get_or-take place xs k d below)) (λ is. false≢true (sym other ∙ eq-eqb (get_or xs k d) 10 is))),
      take_more xs place 0 found.0 ∙ ap (λ b. take place xs ++ (b ∷ [])) ten,
    )

-- ---- what an input has left

pub first_known : (most count : ℕ) (before ahead mid after : List ℕ) (rest : Option (List ℕ)) → count ≡ min most (length ahead) → mid ≡ before ++ take most ahead
    → IfSome rest (λ all. after ≡ mid ++ take (most - count) all) → IfSome (prepend_known ahead rest) (λ all. after ≡ before ++ take most all)
first_known most count before ahead mid after None counts first next = tt
first_known most count before ahead mid after (Some all) counts first next = first_of most count before ahead all mid after counts first next

pub keeps_same : (old : Option (List ℕ)) → Keeps old old
keeps_same None = tt
keeps_same (Some xs) = refl

-- bytes are read where none are ahead
ahead_read : (a b : List ℕ) (r s : Option (List ℕ)) → a ≡ [] → Consumes r s b → Keeps (prepend_known a r) (prepend_known b s)
ahead_read a b None s none taken = tt
ahead_read a b (Some xs) None none taken = absurd taken
ahead_read a b (Some xs) (Some ys) none taken = sym taken ∙ ap (λ l. l ++ xs) (sym none)

-- a read gives an error
ahead_kept : (a b : List ℕ) (r s : Option (List ℕ)) → a ≡ [] → b ≡ [] → Keeps r s → Keeps (prepend_known a r) (prepend_known b s)
ahead_kept a b None s none still kept = tt
ahead_kept a b (Some xs) None none still kept = absurd kept
ahead_kept a b (Some xs) (Some ys) none still kept = ap (λ l. l ++ ys) still ∙ kept ∙ ap (λ l. l ++ xs) (sym none)

-- nothing came: the end
ahead_ends : (b : List ℕ) (s : Option (List ℕ)) → length b ≡ 0 → IsAtEnd s → IsAtEnd (prepend_known b s)
ahead_ends b None none end = tt
ahead_ends [] (Some xs) none end = end
ahead_ends (x ∷ b) (Some xs) none end = absurd (omega (arith, none))

-- so a read loses nothing
pub read_left : {E : Type 0} (read : Result ℕ E) (a b : List ℕ) (r s : Option (List ℕ)) → a ≡ [] → OnOk read (Consumes r s b) → OnErr read ((b ≡ []) × Keeps r s) → Keeps (prepend_known a r) (prepend_known b s)
read_left (Ok n) a b r s none taken kept = ahead_read a b r s none taken
read_left (Err e) a b r s none taken kept = ahead_kept a b r s none kept.0 kept.1

pub read_ends : {E : Type 0} (read : Result ℕ E) (b : List ℕ) (s : Option (List ℕ)) → IfOk read (λ n. length b ≡ n) → IfOk read (λ n. n ≡ 0 → IsAtEnd s) → IfOk read (λ n. n ≡ 0 → IsAtEnd (prepend_known b s))
read_ends (Ok n) b s counts end = λ none. ahead_ends b s (counts ∙ none) (end none)
read_ends (Err e) b s counts end = tt

-- nothing changes
pub ahead_same : (a b : List ℕ) (r s : Option (List ℕ)) → b ≡ a → s ≡ r → Keeps (prepend_known a r) (prepend_known b s)
ahead_same a b r s same still = subst (λ (l : List ℕ). Keeps (prepend_known a r) (prepend_known l s)) (sym same) (subst (λ (t : Option (List ℕ)). Keeps (prepend_known a r) (prepend_known a t)) (sym still) (keeps_same (prepend_known a r)))

ahead_consumed : (a b part : List ℕ) (r : Option (List ℕ)) → a ≡ part ++ b → Consumes (prepend_known a r) (prepend_known b r) part
ahead_consumed a b part None is = tt
ahead_consumed a b part (Some xs) is = ap (λ l. l ++ xs) is ∙ append_assoc part b xs

-- bytes of a line are taken from those ahead
ahead_taken : (a b : List ℕ) (r s : Option (List ℕ)) (most : ℕ) (before after : List ℕ) (is_ended : Bool) → s ≡ r → TakesAhead a b most before after is_ended
    → TakesMore (prepend_known a r) (prepend_known b s) most before after is_ended
ahead_taken a b r s most before after is_ended still h = record {
  part = h.part;
  taken = subst (λ (t : Option (List ℕ)). Consumes (prepend_known a r) (prepend_known b t) h.part) (sym still) (ahead_consumed a b h.part r h.taken);
  is_part = h.is_part;
  kept = h.kept;
}

pub line_taken : {E : Type 0} (taken : Result Bool E) (a b : List ℕ) (r s : Option (List ℕ)) (most : ℕ) (before after : List ℕ) → s ≡ r → IfOk taken (TakesAhead a b most before after)
    → IfOk taken (TakesMore (prepend_known a r) (prepend_known b s) most before after)
line_taken (Ok is_ended) a b r s most before after still h = ahead_taken a b r s most before after is_ended still h
line_taken (Err e) a b r s most before after still h = tt

pub line_whole : {E : Type 0} (taken : Result Bool E) (a b : List ℕ) (most : ℕ) (before after : List ℕ) → IfOk taken (TakesAhead a b most before after) → IfOk taken (λ is_ended. is_ended ≡ false → b ≡ [])
line_whole (Ok is_ended) a b most before after h = h.whole
line_whole (Err e) a b most before after h = tt

pub line_left : {E : Type 0} (taken : Result Bool E) (a b : List ℕ) (r s : Option (List ℕ)) → s ≡ r → OnErr taken (b ≡ a) → OnErr taken (Keeps (prepend_known a r) (prepend_known b s))
line_left (Ok is_ended) a b r s still same = tt
line_left (Err e) a b r s still same = ahead_same a b r s same still

-- the front of the bytes ahead is taken
pub front_taken : (a b : List ℕ) (count most : ℕ) (before after : List ℕ) (is_ended : Bool) → b ≡ drop count a → (is_ended ≡ false → count ≡ length a) → IsPart is_ended (take count a)
    → after ≡ kept_more most before (take count a) → TakesAhead a b most before after is_ended
front_taken a b count most before after is_ended rest whole part kept = record {
  part = take count a;
  taken = sym (take-append-drop count a) ∙ ap (λ l. take count a ++ l) (sym rest);
  whole = λ more. rest ∙ drop_of_length-le a (omega (arith, whole more));
  is_part = part;
  kept = kept;
}
