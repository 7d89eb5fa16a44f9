-- Of a type within its limits, a table takes all PDOs, and no entry is changed.
use Rattle.std.proofs.Common.{ℕ, suc, ◌+◌, ◌<◌, ◌≤◌, ◌≡◌, ◌≢◌, ◌==◌, ◌&&◌, ◌||◌, not, nat_le, nat_lt, if◌then◌else◌, List, [], ◌∷◌, ◌++◌, length, map, take, get_or, Bool, true, false, All, AllPairs, refl, sym, ap, ◌∙◌, arith, inl, inr, append_assoc, append-nil}
use Rattle.std.specs.List.{list_all}
use Rattle.std.proofs.lemmas.Bool.{and_from, and_parts, cases_Bool, eqb-true, eq-eqb, false_from_ne_true, le-leb, leb-true, lt-ltb, ltb-true, not-true, not_from_false, not_from_true, or_left, or_right}
use Rattle.std.proofs.lemmas.List.{take_more}
use Rattle.std.proofs.lemmas.List.Elements.{All-cons, All-push}
use Rattle.std.proofs.lemmas.List.Kept.{AllPairs-cons}
use Rattle.ec_device.specs.declared.slave_type.Entry.{Entry}
use Rattle.ec_device.specs.declared.slave_type.Pdo.{Pdo}
use Rattle.ec_device.specs.Types.{ArePdos, IsEntry, IsPdo}
use Rattle.ec_found.specs.Founds.{has_index, is_entry, is_pdo, kept, kept_behind, plain_entries, plain_entry, plain_pdo, takes}

pub first_of_all : {X : Type 0} (P : X → Type 0) (x : X) (xs : List X) → All P (x ∷ xs) → P x
first_of_all P x xs h = h 0 x (omega arith)

pub rest_of_all : {X : Type 0} (P : X → Type 0) (x : X) (xs : List X) → All P (x ∷ xs) → All P xs
rest_of_all P x xs h k d l = h (suc k) d (omega (arith, l))

abbrev pub Apart : List Pdo → Type 0
Apart ps = AllPairs (λ (p q : Pdo). p.index ≢ q.index) ps

pub apart_first : (p : Pdo) (ps : List Pdo) → Apart (p ∷ ps) → All (λ (q : Pdo). p.index ≢ q.index) ps
apart_first p ps h k d l = h 0 (suc k) d (omega arith) (omega (arith, l))

pub apart_rest : (p : Pdo) (ps : List Pdo) → Apart (p ∷ ps) → Apart ps
apart_rest p ps h i j d l g = h (suc i) (suc j) d (omega (arith, l)) (omega (arith, g))

-- ---- the tests are the limits

entry_test : (e : Entry) → IsEntry e → is_entry e ≡ true
entry_test e h =
    and_from _ _ (and_from _ _ (le-leb 1 e.bits h.some) (le-leb e.bits 64 h.few))
    (elim (cases_Bool (e.index == 0)) [
      | inl t ↦ or_right (not (e.index == 0)) (e.subindex == 0) (eq-eqb e.subindex 0 (h.gap (eqb-true e.index 0 t)))
      | inr f ↦ or_left (not (e.index == 0)) (e.subindex == 0) (not_from_false (e.index == 0) f)
    ])

entries_test : (es : List Entry) → All IsEntry es → list_all is_entry es ≡ true
entries_test [] h = refl
entries_test (e ∷ es) h = and_from _ _ (entry_test e (first_of_all IsEntry e es h)) (entries_test es (rest_of_all IsEntry e es h))

pub pdo_test : (first : ℕ) (p : Pdo) → IsPdo first p → is_pdo first p ≡ true
pdo_test first p h =
    and_from _ _ (and_from _ _ (le-leb first p.index h.from) (lt-ltb p.index (first + 512) h.below))
    (and_from _ _ (le-leb (length p.entries) 64 h.few) (entries_test p.entries h.entries))

-- ---- all are kept

has_push : (found : List Pdo) (p : Pdo) (i : ℕ) → has_index found i ≡ false → p.index ≢ i → has_index (found ++ p ∷ []) i ≡ false
has_push [] p i h ne = let f : (p.index == i) ≡ false = false_from_ne_true (p.index == i) (λ t. ne (eqb-true p.index i t)) in rw f refl
has_push (q ∷ qs) p i h ne = elim (cases_Bool (q.index == i)) [
  | inl t ↦ let bad : true ≡ false = rw t at h in cc
  | inr f ↦ rw f (has_push qs p i (rw f at h) ne)
]

pub free_push : (found : List Pdo) (p : Pdo) (ps : List Pdo) → All (λ (q : Pdo). has_index found q.index ≡ false) ps → All (λ (q : Pdo). p.index ≢ q.index) ps
    → All (λ (q : Pdo). has_index (found ++ p ∷ []) q.index ≡ false) ps
free_push found p ps free apart k d l = has_push found p _ (free k d l) (apart k d l)

pub long_push : (xs : List Pdo) (x : Pdo) → length (xs ++ x ∷ []) ≡ length xs + 1
long_push [] x = refl
long_push (y ∷ ys) x = let e = long_push ys x in omega (arith, e)

-- the first of those that are left is taken
pub takes_next : (first : ℕ) (found : List Pdo) (p : Pdo) (ps : List Pdo) → All (IsPdo first) (p ∷ ps) → All (λ (q : Pdo). has_index found q.index ≡ false) (p ∷ ps)
    → length found + length (p ∷ ps) ≤ 16 → takes first found p ≡ true
takes_next first found p ps good free few =
    and_from _ _ (lt-ltb (length found) 16 (omega (arith, few)))
    (and_from _ _ (pdo_test first p (first_of_all (IsPdo first) p ps good)) (not_from_false (has_index found p.index) (free 0 p (omega arith))))

kept_all : (first : ℕ) (found ps : List Pdo) → All (IsPdo first) ps → Apart ps → All (λ (q : Pdo). has_index found q.index ≡ false) ps → length found + length ps ≤ 16
    → kept_behind first found ps ≡ found ++ ps
kept_all first found [] good apart free few = sym (append-nil found)
kept_all first found (p ∷ ps) good apart free few =
    let t : takes first found p ≡ true = takes_next first found p ps good free few in
    let more = long_push found p in
    rw t
    (kept_all first (found ++ p ∷ []) ps (rest_of_all (IsPdo first) p ps good) (apart_rest p ps apart)
    (free_push found p ps (rest_of_all (λ (q : Pdo). has_index found q.index ≡ false) p ps free) (apart_first p ps apart)) (omega (arith, few, more))
    ∙ append_assoc found (p ∷ []) ps)

pub kept_same : (first : ℕ) (ps : List Pdo) → ArePdos first ps → kept first ps ≡ ps
kept_same first ps h = let few = h.few in kept_all first [] ps h.each h.apart (λ k d l. refl) (omega (arith, few))

-- ---- nothing of them is changed

plain_same : (es : List Entry) → All IsEntry es → plain_entries es ≡ es
plain_same [] h = refl
plain_same (e ∷ es) h =
    let own = first_of_all IsEntry e es h in
    let some : (e.bits == 0) ≡ false = false_from_ne_true (e.bits == 0) (λ t. let z = eqb-true e.bits 0 t in let s = own.some in absurd (omega (arith, z, s))) in
    rw some (rw (plain_same es (rest_of_all IsEntry e es h)) (ap (λ (x : Entry). x ∷ es) (same e own)))
  where
    same : (e : Entry) → IsEntry e → plain_entry e ≡ e
    same e own = elim (cases_Bool (e.index == 0)) [
      | inl t ↦ let z = own.gap (eqb-true e.index 0 t) in rw (t, z) refl
      | inr f ↦ rw f refl
    ]

pub plain_pdos_same : (first : ℕ) (ps : List Pdo) → All (IsPdo first) ps → map plain_pdo ps ≡ ps
plain_pdos_same first [] h = refl
plain_pdos_same first (p ∷ ps) h =
    rw (plain_pdos_same first ps (rest_of_all (IsPdo first) p ps h))
    (ap (λ (es : List Entry). record p { entries = es } ∷ ps) (plain_same p.entries (first_of_all (IsPdo first) p ps h).entries))

-- ---- what is kept is within the limits

entry_from : (e : Entry) → is_entry e ≡ true → IsEntry e
entry_from e h =
    let both = and_parts (nat_le 1 e.bits && nat_le e.bits 64) (not (e.index == 0) || (e.subindex == 0)) h in
    let bits = and_parts (nat_le 1 e.bits) (nat_le e.bits 64) both.0 in
    record {
      some = leb-true 1 e.bits bits.0;
      few = leb-true e.bits 64 bits.1;
      gap = λ z.
          let t : not (e.index == 0) ≡ false = not_from_true (e.index == 0) (eq-eqb e.index 0 z) in
          let s : (e.subindex == 0) ≡ true = rw t at both.1 in
          eqb-true e.subindex 0 s;
    }

entries_from : (es : List Entry) → list_all is_entry es ≡ true → All IsEntry es
entries_from [] h = λ k d l. absurd (omega (arith, l))
entries_from (e ∷ es) h =
    let both = and_parts (is_entry e) (list_all is_entry es) h in
    All-cons IsEntry e es (entry_from e both.0) (entries_from es both.1)

pub pdo_from : (first : ℕ) (p : Pdo) → is_pdo first p ≡ true → IsPdo first p
pdo_from first p h =
    let both = and_parts (nat_le first p.index && nat_lt p.index (first + 512)) (nat_le (length p.entries) 64 && list_all is_entry p.entries) h in
    let place = and_parts (nat_le first p.index) (nat_lt p.index (first + 512)) both.0 in
    let rest = and_parts (nat_le (length p.entries) 64) (list_all is_entry p.entries) both.1 in
    record {
      from = leb-true first p.index place.0;
      below = ltb-true p.index (first + 512) place.1;
      few = leb-true (length p.entries) 64 rest.0;
      entries = entries_from p.entries rest.1;
    }

same_answer : (a b : Bool) → (a ≡ true → b ≡ true) → (b ≡ true → a ≡ true) → a ≡ b
same_answer true b f g = sym (f refl)
same_answer false true f g = g refl
same_answer false false f g = refl

-- a test of the limits is the definition's
pub limits_test : (first : ℕ) (p : Pdo) (r : Bool) → (r ≡ true → IsPdo first p) → (IsPdo first p → r ≡ true) → r ≡ is_pdo first p
limits_test first p r f g = same_answer r (is_pdo first p) (λ t. pdo_test first p (f t)) (λ t. g (pdo_from first p t))

others_apart : (found : List Pdo) (i : ℕ) → has_index found i ≡ false → All (λ (q : Pdo). q.index ≢ i) found
others_apart [] i h = λ k d l. absurd (omega (arith, l))
others_apart (q ∷ qs) i h = elim (cases_Bool (q.index == i)) [
  | inl t ↦ let bad : true ≡ false = rw t at h in cc
  | inr f ↦ All-cons (λ (x : Pdo). x.index ≢ i) q qs (λ e. let bad : true ≡ false = sym (eq-eqb q.index i e) ∙ f in cc) (others_apart qs i (rw f at h))
]

apart_push : (found : List Pdo) (p : Pdo) → Apart found → All (λ (q : Pdo). q.index ≢ p.index) found → Apart (found ++ p ∷ [])
apart_push [] p h others = λ i j d l g. absurd (omega (arith, l, g))
apart_push (q ∷ qs) p h others =
    AllPairs-cons (λ (x y : Pdo). x.index ≢ y.index) q (qs ++ p ∷ [])
    (All-push (λ (x : Pdo). q.index ≢ x.index) qs p (apart_first q qs h) (first_of_all (λ (x : Pdo). x.index ≢ p.index) q qs others))
    (apart_push qs p (apart_rest q qs h) (rest_of_all (λ (x : Pdo). x.index ≢ p.index) q qs others))

pub limits_push : (first : ℕ) (found : List Pdo) (p : Pdo) → ArePdos first found → takes first found p ≡ true → ArePdos first (found ++ p ∷ [])
limits_push first found p h t =
    let both = and_parts (nat_lt (length found) 16) (is_pdo first p && not (has_index found p.index)) t in
    let rest = and_parts (is_pdo first p) (not (has_index found p.index)) both.1 in
    let few : length found < 16 = ltb-true (length found) 16 both.0 in
    let long = long_push found p in
    record {
      few = omega (arith, few, long);
      each = All-push (IsPdo first) found p h.each (pdo_from first p rest.0);
      apart = apart_push found p h.apart (others_apart found p.index (not-true (has_index found p.index) rest.1));
    }

-- one more, behind the others
pub kept_push : (first : ℕ) (found xs : List Pdo) (p : Pdo)
    → kept_behind first found (xs ++ p ∷ []) ≡ (if takes first (kept_behind first found xs) p then kept_behind first found xs ++ p ∷ [] else kept_behind first found xs)
kept_push first found [] p = refl
kept_push first found (x ∷ xs) p = elim (cases_Bool (takes first found x)) [
  | inl t ↦ rw t (kept_push first (found ++ x ∷ []) xs p)
  | inr f ↦ rw f (kept_push first found xs p)
]

pub kept_taken : (first : ℕ) (ps : List Pdo) (i : ℕ) (d : Pdo) → i < length ps → takes first (kept first (take i ps)) (get_or ps i d) ≡ true
    → kept first (take (i + 1) ps) ≡ kept first (take i ps) ++ get_or ps i d ∷ []
kept_taken first ps i d l t = ap (kept first) (take_more ps i d l) ∙ kept_push first [] (take i ps) (get_or ps i d) ∙ rw t refl

pub kept_left : (first : ℕ) (ps : List Pdo) (i : ℕ) (d : Pdo) → i < length ps → takes first (kept first (take i ps)) (get_or ps i d) ≡ false
    → kept first (take (i + 1) ps) ≡ kept first (take i ps)
kept_left first ps i d l t = ap (kept first) (take_more ps i d l) ∙ kept_push first [] (take i ps) (get_or ps i d) ∙ rw t refl
