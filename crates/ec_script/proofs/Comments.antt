-- Lines without their comments.
use Rattle.std.proofs.Common.{◌≡◌, ◌≢◌, ◌∙◌, ℕ, ◌+◌, ◌-◌, ◌<◌, ◌==◌, List, [], ◌∷◌, ◌++◌, length, take, Bool, true, false, nat_lt, Option, Some, None, Bor, IfSome, refl, sym, ap, subst, arith, length-take}
use Rattle.std.specs.List.{before_first, position_or_len}
use Rattle.std.specs.Str.Pattern.{CutsSuffixes, FindsCharSuffix, IsTrimEndMatches}
use Rattle.std.proofs.lemmas.Bool.Decides.{nat_tests}
use Rattle.std.proofs.lemmas.Str.Pattern.{IsSplitOnceResult, split_once_first, strip_suffix_char}
use Rattle.ec_script.specs.Words.{Text, before_kept, uncommented, without_end_blanks}

-- ---- blanks at the end

-- one is cut
blank_cut : (front : Text) → without_end_blanks (front ++ (32 ∷ [])) ≡ without_end_blanks front
unfolding without_end_blanks
blank_cut [] = refl
blank_cut (c ∷ cs) = ap (before_kept c) (blank_cut cs)

last_kept : (c : ℕ) (b : Bool) → (c == 32) ≡ b → (c ≡ 32 → ⊥) → before_kept c [] ≡ c ∷ []
last_kept c true e other = absurd (other (grind (arith, nat_tests)))
last_kept c false e other = rw e refl

-- and where there is none, nothing
none_cut : (bs : Text) → ((front : Text) → bs ≢ front ++ (32 ∷ [])) → without_end_blanks bs ≡ bs
unfolding without_end_blanks
none_cut [] h = refl
none_cut (c ∷ []) h = last_kept c (c == 32) refl (λ is. h [] (ap (λ (x : ℕ). x ∷ []) is))
none_cut (c ∷ d ∷ ds) h = ap (before_kept c) (none_cut (d ∷ ds) (λ front e. h (c ∷ front) (ap (λ (xs : Text). c ∷ xs) e)))

shorter : (m r : Text) (n : ℕ) → FindsCharSuffix 32 m (Some n) → r ≡ take (length m - n) m → m ≡ r ++ (32 ∷ [])
shorter m r n h is =
    let one : n ≡ 1 = h.0 in
    let some : length m ≡ (length m - n) + 1 = h.1.ends in
    let long : length r + n ≡ length m = rw is (omega (arith, length-take (length m - n) m)) in
    strip_suffix_char 32 m (Some (record { ref_ptr = (0, 0); now = r })) (n, h, is, long) (omega arith)

cuts : (s : Text) (ns : List ℕ) (r : Text) → CutsSuffixes (FindsCharSuffix 32) s ns r → without_end_blanks r ≡ without_end_blanks s
cuts s [] r h = ap without_end_blanks h
cuts s (n ∷ ns) r (m, h, finds, is) =
    sym (blank_cut r) ∙ (ap without_end_blanks (sym (shorter m r n finds is)) ∙ cuts s ns m h)

full : (r : Text) (o : Option ℕ) → FindsCharSuffix 32 r o → IfSome o (λ n. n ≡ 0) → (front : Text) → r ≢ front ++ (32 ∷ [])
full r None h z = strip_suffix_char 32 r None h (omega arith)
full r (Some n) h z = absurd (let one : n ≡ 1 = h.0 in omega arith)

pub trimmed : (s r : Text) → IsTrimEndMatches (FindsCharSuffix 32) s r → r ≡ without_end_blanks s
trimmed s r ((ns, h), (o, finds, z)) = sym (none_cut r (full r o finds z)) ∙ cuts s ns r h

-- ---- comments

cut_none : (line : Text) → position_or_len (λ b. b == 35) line ≡ length line → line ≡ uncommented line
cut_none line h = let no : nat_lt (position_or_len (λ b. b == 35) line) (length line) ≡ false = grind (arith, nat_tests) in rw no refl

cut_some : (line before : Text) → position_or_len (λ b. b == 35) line < length line → before ≡ before_first (λ b. b == 35) line
    → without_end_blanks before ≡ uncommented line
cut_some line before h is =
    let yes : nat_lt (position_or_len (λ b. b == 35) line) (length line) ≡ true = grind (arith, nat_tests) in
    rw yes (ap without_end_blanks is)

pub no_comment : (line : Text) (r : Option (Bor Text × Bor Text)) → IsSplitOnceResult 35 line r → r ≡ None → line ≡ uncommented line
no_comment line None h is = cut_none line (split_once_first 35 line None h (omega arith))
no_comment line (Some x) h is = cc

pub comment : (line : Text) (r : Option (Bor Text × Bor Text)) (x : Bor Text × Bor Text) → IsSplitOnceResult 35 line r → r ≡ Some x → without_end_blanks x.0.now ≡ uncommented line
comment line None x h is = cc
comment line (Some y) x h is =
    let found = split_once_first 35 line (Some y) h (omega arith) in
    let same : y ≡ x = cc in
    subst (λ (z : Bor Text × Bor Text). without_end_blanks z.0.now ≡ uncommented line) same (cut_some line y.0.now found.0 found.1)
