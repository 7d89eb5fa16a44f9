-- What words write as values.
use Rattle.std.proofs.Common.{◌≡◌, ◌≢◌, ◌∙◌, ℕ, ◌<◌, ◌≤◌, ◌==◌, ◌&&◌, List, [], ◌∷◌, ◌++◌, take, drop, get_or, Bool, true, false, nat_le, option_and_then, Option, Some, None, Bor, codes, refl, sym, ap, subst, arith, if◌then◌else◌}
use Rattle.std.specs.Option.{MatchOption}
use Rattle.std.specs.Str.{bytes_eq}
use Rattle.std.specs.Str.Pattern.{FindsCharPrefix, FindsTextPrefix, StripsPrefix}
use Rattle.std.proofs.lemmas.Bool.Decides.{nat_tests}
use Rattle.std.proofs.lemmas.List.{take-append-drop}
use Rattle.std.proofs.lemmas.Slice.Eq.{bytes_eq-Decides}
use Rattle.std.proofs.lemmas.Str.Pattern.{strip_prefix_char}
use Rattle.ec_script.specs.Words.{Text}

abbrev Stripped : List ℕ → Text → Option (Bor Text) → Type 0
Stripped p word r = MatchOption r (FindsTextPrefix p word None) (λ x. StripsPrefix (FindsTextPrefix p) word x.now)

false_from : (b : Bool) → (b ≡ true → ⊥) → b ≡ false
false_from true h = absurd (h refl)
false_from false h = refl

-- ---- numbers without a sign

-- a word that begins with `0x`, and its digits
abbrev IsPrefixed : Text → Bor Text → Type 0
IsPrefixed word x = (bytes_eq (take 2 word) (codes "0x") ≡ true) × (x.now ≡ drop 2 word)

prefixed : (word : Text) (x : Bor Text) → Stripped (codes "0x") word (Some x) → IsPrefixed word x
prefixed word x (n, (two, split, at), is, long) =
    let first : take 2 word ≡ codes "0x" = ap (take 2) split in
    ((bytes_eq-Decides (take 2 word) (codes "0x")).1 first, is ∙ ap (λ k. drop k word) two)

unprefixed : (word : Text) → Stripped (codes "0x") word None → bytes_eq (take 2 word) (codes "0x") ≡ false
unprefixed word none = false_from _ (λ is.
    let first : take 2 word ≡ codes "0x" = (bytes_eq-Decides (take 2 word) (codes "0x")).0 is in
    none (drop 2 word) (sym (take-append-drop 2 word) ∙ ap (λ (xs : Text). xs ++ drop 2 word) first))

pub plain_hex : (word : Text) (r : Option (Bor Text)) (x : Bor Text) → Stripped (codes "0x") word r → r ≡ Some x
    → (bytes_eq (take 2 word) (codes "0x") ≡ true) × (x.now ≡ drop 2 word)
plain_hex word None x h is = cc
plain_hex word (Some y) x h is = let same : y ≡ x = cc in subst (IsPrefixed word) same (prefixed word y h)

pub plain_number : (word : Text) (r : Option (Bor Text)) → Stripped (codes "0x") word r → r ≡ None → bytes_eq (take 2 word) (codes "0x") ≡ false
plain_number word None h is = unprefixed word h
plain_number word (Some y) h is = cc

-- ---- a sign

abbrev Unsigned : Text → Option (Bor Text) → Type 0
Unsigned word r = MatchOption r (FindsCharPrefix 45 word None) (λ x. StripsPrefix (FindsCharPrefix 45) word x.now)

pub negative_word : (word : Text) (r : Option (Bor Text)) (x : Bor Text) → Unsigned word r → r ≡ Some x → ((get_or word 0 0 == 45) ≡ true) × (x.now ≡ drop 1 word)
negative_word word None x h is = cc
negative_word word (Some y) x h is =
    let same : y ≡ x = cc in
    let e : word ≡ 45 ∷ y.now = strip_prefix_char 45 word (Some y) h (omega arith) in
    subst (λ (z : Bor Text). ((get_or word 0 0 == 45) ≡ true) × (z.now ≡ drop 1 word)) same
    (subst (λ (w : Text). ((get_or w 0 0 == 45) ≡ true) × (y.now ≡ drop 1 w)) (sym e) (refl, refl))

first_is : (c : ℕ) (cs : Text) → ((rest : Text) → c ∷ cs ≢ 45 ∷ rest) → (c == 45) ≡ false
first_is c cs h = false_from (c == 45) (λ is. let e : c ≡ 45 = grind (arith, nat_tests) in h cs (ap (λ (x : ℕ). x ∷ cs) e))

plain_first : (word : Text) → ((rest : Text) → word ≢ 45 ∷ rest) → (get_or word 0 0 == 45) ≡ false
plain_first [] h = refl
plain_first (c ∷ cs) h = first_is c cs h

pub plain_word : (word : Text) (r : Option (Bor Text)) → Unsigned word r → r ≡ None → (get_or word 0 0 == 45) ≡ false
plain_word word None h is = plain_first word (strip_prefix_char 45 word None h (omega arith))
plain_word word (Some y) h is = cc

-- ---- how often

pub often : (n : ℕ) → 1 ≤ n → n ≤ 1000000 → (nat_le 1 n && nat_le n 1000000) ≡ true
often n some few = let a : nat_le 1 n ≡ true = grind (arith, nat_tests) in let b : nat_le n 1000000 ≡ true = grind (arith, nat_tests) in rw (a, b) refl

abbrev pub in_times : ℕ → Option ℕ
in_times n = if nat_le 1 n && nat_le n 1000000 then Some n else None

none_of : (b : Bool) (n : ℕ) → None ≡ (if b && false then Some n else None)
none_of true n = refl
none_of false n = refl

pub never : (n : ℕ) (m : Option ℕ) → m ≡ Some n → n ≡ 0 → None ≡ option_and_then in_times m
never n m is e = rw (is, e) refl

pub too_often : (n : ℕ) (m : Option ℕ) → m ≡ Some n → 1000000 < n → None ≡ option_and_then in_times m
too_often n m is more =
    let few : nat_le n 1000000 ≡ false = grind (arith, nat_tests) in
    rw (is, few) (none_of (nat_le 1 n) n)
