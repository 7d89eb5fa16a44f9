-- PDOs that a table can assign together have no entry twice.
use Rattle.std.proofs.Common.{ℕ, zero, suc, ◌+◌, ◌<◌, ◌≤◌, ◌≡◌, ◌==◌, ◌&&◌, ◌||◌, not, if◌then◌else◌, List, [], ◌∷◌, ◌++◌, length, find, drop, take, get_or, slice_index_or, Bool, true, false, All, None, refl, sym, ap, ◌∙◌, arith, inl, inr, append_assoc, append-nil, drop-cons}
use Rattle.std.specs.List.{list_any}
use Rattle.std.proofs.lemmas.Bool.{cases_Bool, eq-eqb}
use Rattle.std.proofs.lemmas.Grind.{flat_map-append}
use Rattle.std.proofs.lemmas.List.{drop_all, take_more}
use Rattle.std.proofs.lemmas.List.Folds.{list_any-append}
use Rattle.ec_device.specs.declared.slave_type.Entry.{Entry}
use Rattle.ec_device.specs.declared.slave_type.Pdo.{Pdo}
use Rattle.ec_device.specs.Objects.{assigned_entries, entries_at}
use Rattle.ec_link.specs.Entries.{is_named, names_twice}
use Rattle.ec_device.specs.Types.{ArePdos, IsPdo}
use Rattle.ec_found.specs.Founds.{front, front_behind, has, has_index, indices, listed, takes, together, together_behind}
use Rattle.ec_found.proofs.KeptPdos.{Apart, apart_first, apart_rest, first_of_all, free_push, kept_same, long_push, rest_of_all, takes_next}

-- ---- entries that stand twice

no_lie : {P : Type 0} → true ≡ false → P
no_lie h = cc

or_none : (a b : Bool) → (a || b) ≡ false → (a ≡ false) × (b ≡ false)
or_none true b h = no_lie h
or_none false b h = (refl, h)

fewer : (g a b : Bool) → (g && (a || b)) ≡ false → (g && a) ≡ false
fewer false a b h = refl
fewer true true b h = h
fewer true false b h = refl

-- what stands once, does so in a first part
once_front : (xs ys : List Entry) → names_twice (xs ++ ys) ≡ false → names_twice xs ≡ false
once_front [] ys h = refl
once_front (x ∷ xs) ys h =
    let p = or_none (not (x.index == 0) && list_any (is_named x.index x.subindex) (xs ++ ys)) (names_twice (xs ++ ys)) h in
    let a : (not (x.index == 0) && list_any (is_named x.index x.subindex) xs) ≡ false =
    fewer (not (x.index == 0)) (list_any (is_named x.index x.subindex) xs) (list_any (is_named x.index x.subindex) ys)
    (ap (λ (b : Bool). not (x.index == 0) && b) (sym (list_any-append (is_named x.index x.subindex) xs ys)) ∙ p.0) in
    rw a (once_front xs ys p.1)

-- g: an entry is no gap; a: its name is among the rest; b: it is among the others; c: a name of the rest is among the others; d: one of the
-- others stands twice
regrouped : (g a b c d : Bool) → (g && a) ≡ false → ((g && (a || b)) || (c || d)) ≡ (((g && b) || c) || d)
regrouped false a b c d h = refl
regrouped true true b c d h = no_lie h
regrouped true false true c d h = refl
regrouped true false false c d h = refl

pub twice_joined : (xs ys : List Entry) → names_twice xs ≡ false
    → names_twice (xs ++ ys) ≡ (list_any (λ (e : Entry). not (e.index == 0) && list_any (is_named e.index e.subindex) ys) xs || names_twice ys)
twice_joined [] ys h = refl
twice_joined (x ∷ xs) ys h =
    let p = or_none (not (x.index == 0) && list_any (is_named x.index x.subindex) xs) (names_twice xs) h in
    ap (λ (b : Bool). (not (x.index == 0) && b) || names_twice (xs ++ ys)) (list_any-append (is_named x.index x.subindex) xs ys)
    ∙ ap (λ (n : Bool). (not (x.index == 0) && (list_any (is_named x.index x.subindex) xs || list_any (is_named x.index x.subindex) ys)) || n) (twice_joined xs ys p.1)
    ∙ regrouped (not (x.index == 0)) (list_any (is_named x.index x.subindex) xs) (list_any (is_named x.index x.subindex) ys)
    (list_any (λ (e : Entry). not (e.index == 0) && list_any (is_named e.index e.subindex) ys) xs) (names_twice ys) p.0

-- ---- one PDO more

together_push : (ps : List Pdo) (found is : List ℕ) (i : ℕ)
    → together_behind ps found (is ++ i ∷ [])
    ≡ (if names_twice (assigned_entries ps (together_behind ps found is ++ i ∷ [])) then together_behind ps found is else together_behind ps found is ++ i ∷ [])
together_push ps found [] i = refl
together_push ps found (j ∷ is) i = elim (cases_Bool (names_twice (assigned_entries ps (found ++ j ∷ [])))) [
  | inl t ↦ rw t (together_push ps found is i)
  | inr f ↦ rw f (together_push ps (found ++ j ∷ []) is i)
]

pub together_taken : (ps : List Pdo) (is : List ℕ) (k d : ℕ) → k < length is → names_twice (assigned_entries ps (together ps (take k is) ++ get_or is k d ∷ [])) ≡ false
    → together ps (take (k + 1) is) ≡ together ps (take k is) ++ get_or is k d ∷ []
together_taken ps is k d l f = ap (together ps) (take_more is k d l) ∙ together_push ps [] (take k is) (get_or is k d) ∙ rw f refl

pub together_left : (ps : List Pdo) (is : List ℕ) (k d : ℕ) → k < length is → names_twice (assigned_entries ps (together ps (take k is) ++ get_or is k d ∷ [])) ≡ true
    → together ps (take (k + 1) is) ≡ together ps (take k is)
together_left ps is k d l t = ap (together ps) (take_more is k d l) ∙ together_push ps [] (take k is) (get_or is k d) ∙ rw t refl

-- ---- none is repeated

behind_once : (ps : List Pdo) (found is : List ℕ) → names_twice (assigned_entries ps found) ≡ false → names_twice (assigned_entries ps (together_behind ps found is)) ≡ false
behind_once ps found [] h = h
behind_once ps found (i ∷ is) h = elim (cases_Bool (names_twice (assigned_entries ps (found ++ i ∷ [])))) [
  | inl t ↦ rw t (behind_once ps found is h)
  | inr f ↦ rw f (behind_once ps (found ++ i ∷ []) is f)
]

pub together_once : (ps : List Pdo) (is : List ℕ) → names_twice (assigned_entries ps (together ps is)) ≡ false
together_once ps is = behind_once ps [] is refl

-- ---- nothing is left out if no entry stands twice

behind_same : (ps : List Pdo) (found is : List ℕ) → names_twice (assigned_entries ps (found ++ is)) ≡ false → together_behind ps found is ≡ found ++ is
behind_same ps found [] h = sym (append-nil found)
behind_same ps found (i ∷ is) h =
    let more : names_twice (assigned_entries ps ((found ++ i ∷ []) ++ is)) ≡ false = ap (λ (js : List ℕ). names_twice (assigned_entries ps js)) (append_assoc found (i ∷ []) is) ∙ h in
    let here : names_twice (assigned_entries ps (found ++ i ∷ [])) ≡ false =
    once_front (assigned_entries ps (found ++ i ∷ [])) (assigned_entries ps is) (ap names_twice (sym (flat_map-append (entries_at ps) (found ++ i ∷ []) is)) ∙ more) in
    rw here (behind_same ps (found ++ i ∷ []) is more ∙ append_assoc found (i ∷ []) is)

pub together_same : (ps : List Pdo) (is : List ℕ) → names_twice (assigned_entries ps is) ≡ false → together ps is ≡ is
together_same ps is h = behind_same ps [] is h

has_each : (is : List ℕ) → All (λ (i : ℕ). has is i ≡ true) is
has_each [] k d l = absurd (omega (arith, l))
has_each (i ∷ is) zero d l = let t : (i == i) ≡ true = eq-eqb i i refl in rw t refl
has_each (i ∷ is) (suc k) d l = elim (cases_Bool (i == slice_index_or is k d)) [
  | inl t ↦ rw t refl
  | inr f ↦ rw f (has_each is k d (omega (arith, l)))
]

none_missing : (js is : List ℕ) → All (λ (i : ℕ). has js i ≡ true) is → find (λ i. not (has js i)) is ≡ None
none_missing js [] h = refl
none_missing js (i ∷ is) h =
    let t : has js i ≡ true = first_of_all (λ (j : ℕ). has js j ≡ true) i is h in
    rw t (none_missing js is (rest_of_all (λ (j : ℕ). has js j ≡ true) i is h))

pub none_left_out : (ps : List Pdo) (is : List ℕ) → names_twice (assigned_entries ps is) ≡ false → find (λ i. not (has (together ps is) i)) is ≡ None
none_left_out ps is h = ap (λ (js : List ℕ). find (λ i. not (has js i)) is) (together_same ps is h) ∙ none_missing is is (has_each is)

-- ---- those in front

pub indices_push : (ps : List Pdo) (p : Pdo) → indices (ps ++ p ∷ []) ≡ indices ps ++ p.index ∷ []
indices_push [] p = refl
indices_push (q ∷ qs) p = ap (λ (is : List ℕ). q.index ∷ is) (indices_push qs p)

here : (all : List Pdo) (k : ℕ) (p : Pdo) → k < length all → p ≡ get_or all k p → drop k all ≡ p ∷ drop (k + 1) all
here all k p lt is =
    let on : suc k ≡ k + 1 = omega arith in
    drop-cons all k p lt ∙ (ap (λ (q : Pdo). q ∷ drop (suc k) all) (sym is) ∙ ap (λ (n : ℕ). p ∷ drop n all) on)

pub front_taken : (first : ℕ) (all found : List Pdo) (is : List ℕ) (k : ℕ) (p : Pdo) → k < length all → p ≡ get_or all k p → is ≡ indices found → takes first found p ≡ true
    → names_twice (assigned_entries all (is ++ p.index ∷ [])) ≡ false → front_behind first all found (drop k all) ≡ front_behind first all (found ++ p ∷ []) (drop (k + 1) all)
front_taken first all found is k p lt at same t f =
    let g : names_twice (assigned_entries all (indices found ++ p.index ∷ [])) ≡ false = ap (λ (js : List ℕ). names_twice (assigned_entries all (js ++ p.index ∷ []))) (sym same) ∙ f in
    ap (front_behind first all found) (here all k p lt at) ∙ rw (t, g) refl

pub front_refused : (first : ℕ) (all found : List Pdo) (k : ℕ) (p : Pdo) → k < length all → p ≡ get_or all k p → takes first found p ≡ false → front_behind first all found (drop k all) ≡ found
front_refused first all found k p lt at f = ap (front_behind first all found) (here all k p lt at) ∙ rw f refl

pub front_repeated : (first : ℕ) (all found : List Pdo) (is : List ℕ) (k : ℕ) (p : Pdo) → k < length all → p ≡ get_or all k p → is ≡ indices found → takes first found p ≡ true
    → names_twice (assigned_entries all (is ++ p.index ∷ [])) ≡ true → front_behind first all found (drop k all) ≡ found
front_repeated first all found is k p lt at same t f =
    let g : names_twice (assigned_entries all (indices found ++ p.index ∷ [])) ≡ true = ap (λ (js : List ℕ). names_twice (assigned_entries all (js ++ p.index ∷ []))) (sym same) ∙ f in
    ap (front_behind first all found) (here all k p lt at) ∙ rw (t, g) refl

pub front_end : (first : ℕ) (all found : List Pdo) → front_behind first all found (drop (length all) all) ≡ found
front_end first all found = ap (front_behind first all found) (drop_all (length all) all (omega arith))

-- ---- a type lists all

front_all : (first : ℕ) (all found ps : List Pdo) → All (IsPdo first) ps → Apart ps → All (λ (q : Pdo). has_index found q.index ≡ false) ps → length found + length ps ≤ 16
    → names_twice (assigned_entries all (indices found ++ indices ps)) ≡ false → front_behind first all found ps ≡ found ++ ps
front_all first all found [] good apart free few once = sym (append-nil found)
front_all first all found (p ∷ ps) good apart free few once =
    let more : names_twice (assigned_entries all ((indices found ++ p.index ∷ []) ++ indices ps)) ≡ false =
    ap (λ (js : List ℕ). names_twice (assigned_entries all js)) (append_assoc (indices found) (p.index ∷ []) (indices ps)) ∙ once in
    let here : names_twice (assigned_entries all (indices found ++ p.index ∷ [])) ≡ false =
    once_front (assigned_entries all (indices found ++ p.index ∷ [])) (assigned_entries all (indices ps))
    (ap names_twice (sym (flat_map-append (entries_at all) (indices found ++ p.index ∷ []) (indices ps))) ∙ more) in
    let t : takes first found p ≡ true = takes_next first found p ps good free few in
    let long = long_push found p in
    let on : names_twice (assigned_entries all (indices (found ++ p ∷ []) ++ indices ps)) ≡ false =
    ap (λ (js : List ℕ). names_twice (assigned_entries all (js ++ indices ps))) (indices_push found p) ∙ more in
    rw (t, here)
    (front_all first all (found ++ p ∷ []) ps (rest_of_all (IsPdo first) p ps good) (apart_rest p ps apart)
    (free_push found p ps (rest_of_all (λ (q : Pdo). has_index found q.index ≡ false) p ps free) (apart_first p ps apart)) (omega (arith, few, long)) on
    ∙ append_assoc found (p ∷ []) ps)

pub front_same : (first : ℕ) (ps : List Pdo) → ArePdos first ps → names_twice (assigned_entries ps (indices ps)) ≡ false → front first ps ≡ ps
front_same first ps h once = let few = h.few in front_all first ps [] ps h.each h.apart (λ k d l. refl) (omega (arith, few)) once

pub listed_same : (assignable : Bool) (first : ℕ) (ps : List Pdo) → ArePdos first ps → (assignable ≡ false → names_twice (assigned_entries ps (indices ps)) ≡ false) → listed assignable first ps ≡ ps
listed_same true first ps h once = kept_same first ps h
listed_same false first ps h once = front_same first ps h (once refl)
