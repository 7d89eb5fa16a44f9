-- What stands before and behind two dots.
use Rattle.std.proofs.Common.{◌≡◌, ◌≢◌, ◌∙◌, ℕ, ◌<◌, ◌==◌, ◌&&◌, [], ◌∷◌, ◌++◌, length, Bool, true, false, not, nat_lt, Option, Some, None, Bor, refl, sym, ap, subst, arith}
use Rattle.std.specs.List.{after_first, before_first, list_all, position_or_len}
use Rattle.std.specs.Option.{MatchOption}
use Rattle.std.specs.Str.Pattern.{FindsCharPrefix, StripsPrefix}
use Rattle.std.proofs.Math.Seq.{drop-append-add, take-append_seam}
use Rattle.std.proofs.lemmas.Bool.Decides.{nat_tests}
use Rattle.std.proofs.lemmas.Str.Pattern.{IsSplitOnceResult, split_once_first, strip_prefix_char}
use Rattle.ec_script.specs.Words.{Text, behind_dot, bounds_of}
use Rattle.ec_script.proofs.Verbs.{false_from}

abbrev is_dot : ℕ → Bool
is_dot b = b == 46

abbrev Prefixed : Text → Option (Bor Text) → Type 0
Prefixed word r = MatchOption r (FindsCharPrefix 46 word None) (λ x. StripsPrefix (FindsCharPrefix 46) word x.now)

-- ---- what the calls return

none_found : (word : Text) → position_or_len is_dot word ≡ length word → None ≡ bounds_of word
none_found word h = let no : nat_lt (position_or_len is_dot word) (length word) ≡ false = grind (arith, nat_tests) in rw no refl

pub no_dot : (word : Text) (r : Option (Bor Text × Bor Text)) → IsSplitOnceResult 46 word r → r ≡ None → None ≡ bounds_of word
no_dot word None h is = none_found word (split_once_first 46 word None h (omega arith))
no_dot word (Some x) h is = cc

-- the two parts round the first dot
found : (word low rest : Text) → position_or_len is_dot word < length word → low ≡ before_first is_dot word → rest ≡ after_first is_dot word → behind_dot low rest ≡ bounds_of word
found word low rest h a b =
    let yes : nat_lt (position_or_len is_dot word) (length word) ≡ true = grind (arith, nat_tests) in
    rw (a, b, yes) refl

round : (word : Text) (r : Option (Bor Text × Bor Text)) (x : Bor Text × Bor Text) → IsSplitOnceResult 46 word r → r ≡ Some x → behind_dot x.0.now x.1.now ≡ bounds_of word
round word None x h is = cc
round word (Some y) x h is =
    let at = split_once_first 46 word (Some y) h (omega arith) in
    let same : y ≡ x = cc in
    subst (λ (z : Bor Text × Bor Text). behind_dot z.0.now z.1.now ≡ bounds_of word) same (found word y.0.now y.1.now at.0 at.1 at.2)

dotted : (low rest : Text) (r : Option (Bor Text)) (x : Bor Text) → Prefixed rest r → r ≡ Some x → Some (low, x.now) ≡ behind_dot low rest
dotted low rest None x h is = cc
dotted low rest (Some y) x h is =
    let same : y ≡ x = cc in
    let e : rest ≡ 46 ∷ y.now = strip_prefix_char 46 rest (Some y) h (omega arith) in
    subst (λ (z : Bor Text). Some (low, z.now) ≡ behind_dot low rest) same (rw e refl)

first_is : (low : Text) (c : ℕ) (cs : Text) → ((more : Text) → c ∷ cs ≢ 46 ∷ more) → None ≡ behind_dot low (c ∷ cs)
first_is low c cs h =
    let no : (c == 46) ≡ false = false_from (c == 46) (λ is. let e : c ≡ 46 = grind (arith, nat_tests) in h cs (ap (λ (x : ℕ). x ∷ cs) e)) in
    rw no refl

undotted_by : (low rest : Text) → ((more : Text) → rest ≢ 46 ∷ more) → None ≡ behind_dot low rest
undotted_by low [] h = refl
undotted_by low (c ∷ cs) h = first_is low c cs h

undotted : (low rest : Text) (r : Option (Bor Text)) → Prefixed rest r → r ≡ None → None ≡ behind_dot low rest
undotted low rest None h is = undotted_by low rest (strip_prefix_char 46 rest None h (omega arith))
undotted low rest (Some y) h is = cc

pub two_dots : (word : Text) (r : Option (Bor Text × Bor Text)) (x : Bor Text × Bor Text) → IsSplitOnceResult 46 word r → r ≡ Some x
    → (s : Option (Bor Text)) (high : Bor Text) → Prefixed x.1.now s → s ≡ Some high → Some (x.0.now, high.now) ≡ bounds_of word
two_dots word r x h is s high g at = dotted x.0.now x.1.now s high g at ∙ round word r x h is

pub one_dot : (word : Text) (r : Option (Bor Text × Bor Text)) (x : Bor Text × Bor Text) → IsSplitOnceResult 46 word r → r ≡ Some x
    → (s : Option (Bor Text)) → Prefixed x.1.now s → s ≡ None → None ≡ bounds_of word
one_dot word r x h is s g at = undotted x.0.now x.1.now s g at ∙ round word r x h is

-- ---- words without a dot, and two of them

abbrev pub is_undotted : Text → Bool
is_undotted word = list_all (λ b. not (is_dot b)) word

both_of : (a b : Bool) → (a && b) ≡ true → (a ≡ true) × (b ≡ true)
both_of true true h = (refl, refl)
both_of true false h = cc
both_of false b h = cc

nowhere : (word : Text) → is_undotted word ≡ true → position_or_len is_dot word ≡ length word
nowhere [] h = refl
nowhere (b ∷ bs) h =
    let p = both_of (not (is_dot b)) (is_undotted bs) h in
    rw p.0 (let e : position_or_len is_dot bs ≡ length bs = nowhere bs p.1 in omega arith)

pub no_range : (word : Text) → is_undotted word ≡ true → bounds_of word ≡ None
no_range word h = sym (none_found word (nowhere word h))

at_dot : (low rest : Text) → is_undotted low ≡ true → position_or_len is_dot (low ++ (46 ∷ rest)) ≡ length low
at_dot [] rest h = refl
at_dot (b ∷ bs) rest h =
    let p = both_of (not (is_dot b)) (is_undotted bs) h in
    rw p.0 (let e : position_or_len is_dot (bs ++ (46 ∷ rest)) ≡ length bs = at_dot bs rest p.1 in omega arith)

shorter : (low rest : Text) → length low < length (low ++ (46 ∷ rest))
shorter [] rest = omega arith
shorter (b ∷ bs) rest = let h : length bs < length (bs ++ (46 ∷ rest)) = shorter bs rest in omega arith

pub range_is : (low high : Text) → is_undotted low ≡ true → bounds_of (low ++ (46 ∷ 46 ∷ high)) ≡ Some (low, high)
range_is low high h =
    let word = low ++ (46 ∷ 46 ∷ high) in
    let at : position_or_len is_dot word ≡ length low = at_dot low (46 ∷ high) h in
    let less : length low < length word = shorter low (46 ∷ high) in
    let yes : nat_lt (length low) (length word) ≡ true = grind (arith, nat_tests) in
    rw (at, yes, take-append_seam low (46 ∷ 46 ∷ high), drop-append-add low (46 ∷ 46 ∷ high) 1) refl
