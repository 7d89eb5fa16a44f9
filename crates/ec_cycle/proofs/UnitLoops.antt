-- Loops over what is kept.
use Rattle.std.proofs.Common.{ℕ, zero, suc, ◌+◌, ◌-◌, ◌<◌, ◌≤◌, ◌≡◌, ◌==◌, ◌&&◌, Bool, true, false, Option, Some, None, refl, sym, ◌∙◌, ap, inl, inr, arith, List, [], ◌∷◌, length, map, get_or, set, take, if◌then◌else◌, is_some, bit_or, get_or-set_same, get_or-set_other}
use Rattle.std.proofs.lemmas.Bool.{cases_eq, eq-eqb, ne_eqb}
use Rattle.std.proofs.lemmas.List.{take_all, take_more, map-append, get_or_default}
use Rattle.std.proofs.lemmas.List.Sums.{fold-append}
use Rattle.ec_link.specs.declared.plan.ExpectedCounters.{ExpectedCounters}
use Rattle.ec_link.specs.Shares.{predicted}
use Rattle.ec_bits.proofs.AnyLaws.{if_true, if_false}
use Rattle.ec_link.specs.declared.plan.PartPlan.{PartPlan}
use Rattle.ec_link.specs.Plan.{PlanState, part_at}
use Rattle.ec_cycle.specs.Closing.{ReturnedPart, nones, joined, word_of_returned, all_from, came_back_as, is_good, unit_taken}

-- ---- how many are missing

pub nones_more : (xs : List (Option ReturnedPart)) (i : ℕ) → i < length xs → nones (take (i + 1) xs) ≡ nones (take i xs) + (if is_some (get_or xs i None) then 0 else 1)
nones_more [] i l = absurd (omega arith)
nones_more (None ∷ xs) zero l = refl
nones_more (Some q ∷ xs) zero l = refl
nones_more (None ∷ xs) (suc i) l =
    let e : suc i + 1 ≡ suc (i + 1) = omega arith in
    let h = nones_more xs i (omega arith) in
    ap (λ (n : ℕ). nones (take n (None ∷ xs))) e ∙ omega (arith, h)
nones_more (Some q ∷ xs) (suc i) l =
    let e : suc i + 1 ≡ suc (i + 1) = omega arith in
    ap (λ (n : ℕ). nones (take n (Some q ∷ xs))) e ∙ nones_more xs i (omega arith)

pub missing_more : (xs : List (Option ReturnedPart)) (i n m : ℕ) (o : Option ReturnedPart) → i < length xs → o ≡ get_or xs i o → n ≡ nones (take i xs) → is_some o ≡ false → m ≡ n + 1 → m ≡ nones (take (i + 1) xs)
missing_more xs i n m o l at h none e =
    let same : o ≡ get_or xs i None = at ∙ either xs i o l in
    e ∙ (ap (λ (x : ℕ). x + 1) h ∙ sym (nones_more xs i l ∙ ap (λ (b : Bool). nones (take i xs) + (if b then 0 else 1)) (ap is_some (sym same) ∙ none)))
  where
    either : (ys : List (Option ReturnedPart)) (j : ℕ) (d : Option ReturnedPart) → j < length ys → get_or ys j d ≡ get_or ys j None
    either [] j d b = absurd (omega arith)
    either (y ∷ ys) zero d b = refl
    either (y ∷ ys) (suc j) d b = either ys j d (omega arith)

pub missing_same : (xs : List (Option ReturnedPart)) (i n : ℕ) (o : Option ReturnedPart) → i < length xs → o ≡ get_or xs i o → n ≡ nones (take i xs) → is_some o ≡ true → n ≡ nones (take (i + 1) xs)
missing_same xs i n o l at h some =
    let same : o ≡ get_or xs i None = at ∙ either xs i o l in
    h ∙ sym (nones_more xs i l ∙ (ap (λ (b : Bool). nones (take i xs) + (if b then 0 else 1)) (ap is_some (sym same) ∙ some) ∙ zeroed (nones (take i xs))))
  where
    either : (ys : List (Option ReturnedPart)) (j : ℕ) (d : Option ReturnedPart) → j < length ys → get_or ys j d ≡ get_or ys j None
    either [] j d b = absurd (omega arith)
    either (y ∷ ys) zero d b = refl
    either (y ∷ ys) (suc j) d b = either ys j d (omega arith)

    zeroed : (n : ℕ) → n + 0 ≡ n
    zeroed n = omega arith

pub missing_all : (xs : List (Option ReturnedPart)) (i n : ℕ) → length xs ≤ i → n ≡ nones (take i xs) → n ≡ nones xs
missing_all xs i n l h = h ∙ ap nones (take_all i xs l)

pub ruleset missing_steps = (missing_more, missing_same, missing_all)

-- ---- words

pub word_more : (xs : List (Option ReturnedPart)) (i words more : ℕ) (o : Option ReturnedPart) → i < length xs → o ≡ get_or xs i o → words ≡ joined (map word_of_returned (take i xs))
    → more ≡ bit_or words (word_of_returned o) → more ≡ joined (map word_of_returned (take (i + 1) xs))
word_more xs i words more o l at h e =
    let one : List (Option ReturnedPart) = get_or xs i o ∷ [] in
    let first : List ℕ = map word_of_returned (take i xs) in
    e ∙ (ap (λ (w : ℕ). bit_or w (word_of_returned o)) h
    ∙ sym (ap (λ (ys : List (Option ReturnedPart)). joined (map word_of_returned ys)) (take_more xs i o l)
    ∙ (ap joined (map-append word_of_returned (take i xs) one)
    ∙ (fold-append bit_or 0 first (map word_of_returned one) ∙ ap (λ (q : Option ReturnedPart). bit_or (joined first) (word_of_returned q)) (sym at)))))

pub word_all : (xs : List (Option ReturnedPart)) (i words : ℕ) → length xs ≤ i → words ≡ joined (map word_of_returned (take i xs)) → words ≡ joined (map word_of_returned xs)
word_all xs i words l h = h ∙ ap (λ (ys : List (Option ReturnedPart)). joined (map word_of_returned ys)) (take_all i xs l)

pub ruleset word_steps = (word_more, word_all)

-- ---- judging

pub all_from_more : {X : Type 0} (p : ℕ → X → Bool) (k : ℕ) (xs : List X) (i : ℕ) (d : X) → i < length xs → all_from p k (take (i + 1) xs) ≡ all_from p k (take i xs) && p (k + i) (get_or xs i d)
all_from_more p k [] i d l = absurd (omega arith)
all_from_more p k (x ∷ xs) zero d l = let z : k + 0 ≡ k = omega arith in and_true (p k x) ∙ ap (λ (j : ℕ). p j x) (sym z)
  where
    and_true : (b : Bool) → b && true ≡ b
    and_true true = refl
    and_true false = refl
all_from_more p k (x ∷ xs) (suc i) d l =
    let e : suc i + 1 ≡ suc (i + 1) = omega arith in
    let s : k + 1 + i ≡ k + suc i = omega arith in
    ap (λ (n : ℕ). all_from p k (take n (x ∷ xs))) e
    ∙ (ap (λ (b : Bool). p k x && b) (all_from_more p (k + 1) xs i d (omega arith) ∙ ap (λ (j : ℕ). all_from p (k + 1) (take i xs) && p j (get_or xs i d)) s)
    ∙ and_assoc (p k x) (all_from p (k + 1) (take i xs)) (p (k + suc i) (get_or xs i d)))
  where
    and_assoc : (a b c : Bool) → a && (b && c) ≡ (a && b) && c
    and_assoc true b c = refl
    and_assoc false b c = refl

abbrev pub judged_below : PlanState → List (Option ReturnedPart) → ℕ → ℕ → Bool
judged_below p kept i u = all_from (λ k q. if (part_at p.parts k).unit == u then is_good p k q else true) 0 (take i kept)

pub judged_more : (p : PlanState) (kept : List (Option ReturnedPart)) (taken : List Bool) (i unit : ℕ) (good : Bool) → i < length kept → (part_at p.parts i).unit ≡ unit → unit < length taken → good ≡ is_good p i (get_or kept i None)
    → ((u : ℕ) → u < 256 → get_or taken u false ≡ judged_below p kept i u)
    → unit < 256 → (u : ℕ) → u < 256 → get_or (set taken unit (get_or taken unit false && good)) u false ≡ judged_below p kept (i + 1) u
judged_more p kept taken i unit good l here room is before small u b = elim (cases_eq u unit) [
  | inl e ↦
      ap (λ (n : ℕ). get_or (set taken unit (get_or taken unit false && good)) n false) e
      ∙ (get_or-set_same taken unit (get_or taken unit false && good) false room
      ∙ (ap (λ (x : Bool). x && good) (before unit small) ∙ (ap (λ (x : Bool). judged_below p kept i unit && x) is
      ∙ (ap (λ (x : Bool). judged_below p kept i unit && x) (sym (if_true ((part_at p.parts i).unit == unit) (is_good p i (get_or kept i None)) true (eq-eqb _ _ here)))
      ∙ (step unit ∙ ap (judged_below p kept (i + 1)) (sym e))))))
  | inr ne ↦
      get_or-set_other taken unit u (get_or taken unit false && good) false ne
      ∙ (before u b ∙ (sym (and_true (judged_below p kept i u))
      ∙ (ap (λ (x : Bool). judged_below p kept i u && x) (sym (if_false ((part_at p.parts i).unit == u) (is_good p i (get_or kept i None)) true (ne_eqb _ _ (λ w. ne (sym (sym here ∙ w))))))
      ∙ step u)))
]
  where
    and_true : (x : Bool) → x && true ≡ x
    and_true true = refl
    and_true false = refl

    step : (v : ℕ) → judged_below p kept i v && (if (part_at p.parts i).unit == v then is_good p i (get_or kept i None) else true) ≡ judged_below p kept (i + 1) v
    step v =
        let z : 0 + i ≡ i = omega arith in
        ap (λ (j : ℕ). judged_below p kept i v && (if (part_at p.parts j).unit == v then is_good p j (get_or kept i None) else true)) (sym z)
        ∙ sym (all_from_more (λ k q. if (part_at p.parts k).unit == v then is_good p k q else true) 0 kept i None l)

pub judged_all : (p : PlanState) (kept : List (Option ReturnedPart)) (i u : ℕ) → length kept ≤ i → judged_below p kept i u ≡ unit_taken p kept u
judged_all p kept i u l = ap (all_from (λ k q. if (part_at p.parts k).unit == u then is_good p k q else true) 0) (take_all i kept l)

-- ---- nothing kept

pub all_none : (xs : List (Option ReturnedPart)) (ps : List PartPlan) → length xs ≡ length ps → ((k : ℕ) → k < length xs → get_or xs k None ≡ None) → xs ≡ map (λ (q : PartPlan). None) ps
all_none [] [] e h = refl
all_none [] (q ∷ ps) e h = absurd (omega arith)
all_none (x ∷ xs) [] e h = absurd (omega arith)
all_none (x ∷ xs) (q ∷ ps) e h = ap (λ (o : Option ReturnedPart). o ∷ xs) (h 0 (omega arith)) ∙ ap (λ (os : List (Option ReturnedPart)). None ∷ os) (all_none xs ps (omega arith) (λ k l. h (suc k) (omega arith)))

pub good_is : (p : PlanState) (k slaves : ℕ) (e : ExpectedCounters) (o : Option ReturnedPart) (kept : List (Option ReturnedPart)) (r : Bool) → slaves ≡ length p.slaves → e ≡ predicted p k → o ≡ get_or kept k o → k < length kept → r ≡ came_back_as slaves e o → r ≡ is_good p k (get_or kept k None)
good_is p k slaves e o kept r s c at l h =
    h ∙ (ap (λ (n : ℕ). came_back_as n e o) s ∙ (ap (λ (x : ExpectedCounters). came_back_as (length p.slaves) x o) c
    ∙ ap (came_back_as (length p.slaves) (predicted p k)) (at ∙ get_or_default kept k o None l)))
