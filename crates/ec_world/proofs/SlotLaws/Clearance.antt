-- How far a frame may go behind older ones, and that this stays while frames move.
use Rattle.ec_world.proofs.Words.{ℕ, zero, suc, ◌+◌, ◌≤◌, ◌<◌, ◌≡◌, ◌⊎◌, ◌&&◌, Bool, true, false, nat_lt, min, List, [], ◌∷◌, get_or, length, set, Option, Some, None, option_map, if◌then◌else◌, refl, sym, ◌∙◌, ap, subst, inl, inr, arith, get_or-map, lt-ltb, le-ltb, cases_lt, list_length-set as length-set, fold, list_all, SlaveState, Progress, is_older, lets_by, Flight, flight_progress, flights_progress, AreFreeFrom, HasPassed, HasClearance, no_end, clearance_behind, some_same}

-- ---- what is behind all of some frames

lt_min : (n a b : ℕ) → nat_lt n (min a b) ≡ (nat_lt n a && nat_lt n b)
lt_min n a b = elim (cases_lt n a) [
  | inl l ↦ elim (cases_lt n b) [
    | inl m ↦ lt-ltb n (min a b) (omega arith) ∙ sym (ap (λ (x : Bool). x && nat_lt n b) (lt-ltb n a l) ∙ lt-ltb n b m)
    | inr m ↦ le-ltb n (min a b) (omega arith) ∙ sym (ap (λ (x : Bool). x && nat_lt n b) (lt-ltb n a l) ∙ le-ltb n b m)
  ]
  | inr l ↦ le-ltb n (min a b) (omega arith) ∙ sym (ap (λ (x : Bool). x && nat_lt n b) (le-ltb n a l))
]

and_assoc : (a b c : Bool) → ((a && b) && c) ≡ (a && (b && c))
and_assoc true b c = refl
and_assoc false b c = refl

-- a frame may pass a slave that is before its clearance's end and that every older frame has passed
clearance_lets : (f : Progress) (os : List (Option Progress)) (far : ℕ) → nat_lt f.passed (fold (clearance_behind f) far os) ≡ (nat_lt f.passed far && list_all (lets_by f) os)
clearance_lets f [] far = elim (nat_lt f.passed far) as (λ b. b ≡ (b && true)) [ true ↦ refl | false ↦ refl ]
clearance_lets f (None ∷ os) far = clearance_lets f os far
clearance_lets f (Some g ∷ os) far = by (is_older g f) (λ n. clearance_lets f os n)
  where
    by : (b : Bool) → ((n : ℕ) → nat_lt f.passed (fold (clearance_behind f) n os) ≡ (nat_lt f.passed n && list_all (lets_by f) os))
        → nat_lt f.passed (fold (clearance_behind f) (if b then min far g.passed else far) os) ≡ (nat_lt f.passed far && ((if b then nat_lt f.passed g.passed else true) && list_all (lets_by f) os))
    by true more =
        more (min far g.passed)
        ∙ (ap (λ (x : Bool). x && list_all (lets_by f) os) (lt_min f.passed far g.passed) ∙ and_assoc (nat_lt f.passed far) (nat_lt f.passed g.passed) (list_all (lets_by f) os))
    by false more = more far

pub clearance_open : (f : Progress) (os : List (Option Progress)) → f.passed < no_end → nat_lt f.passed (fold (clearance_behind f) no_end os) ≡ list_all (lets_by f) os
clearance_open f os l = clearance_lets f os no_end ∙ ap (λ (x : Bool). x && list_all (lets_by f) os) (lt-ltb f.passed no_end l)

nearer : (f : Progress) (far : ℕ) (o : Option Progress) → clearance_behind f far o ≤ far
nearer f far None = omega arith
nearer f far (Some g) = elim (is_older g f) as (λ b. (if b then min far g.passed else far) ≤ far) [ true ↦ omega arith | false ↦ omega arith ]

clearance_most : (f : Progress) (os : List (Option Progress)) (far : ℕ) → fold (clearance_behind f) far os ≤ far
clearance_most f [] far = omega arith
clearance_most f (o ∷ os) far = omega (arith, clearance_most f os (clearance_behind f far o), nearer f far o)

behind_older : (f g : Progress) (far : ℕ) → is_older g f ≡ true → clearance_behind f far (Some g) ≤ g.passed
behind_older f g far e = by (is_older g f) e
  where
    by : (b : Bool) → b ≡ true → (if b then min far g.passed else far) ≤ g.passed
    by true q = omega arith
    by false q = absurd (let z : false ≡ true = q in cc)

clearance_within : (f : Progress) (os : List (Option Progress)) (far i : ℕ) (g : Progress) → get_or os i None ≡ Some g → is_older g f ≡ true → fold (clearance_behind f) far os ≤ g.passed
clearance_within f [] far i g e old = absurd (let z : None ≡ Some g = e in cc)
clearance_within f (o ∷ os) far zero g e old =
    let near : clearance_behind f far o ≤ g.passed = subst (λ (x : Option Progress). clearance_behind f far x ≤ g.passed) (sym e) (behind_older f g far old) in
    omega (arith, clearance_most f os (clearance_behind f far o), near)
clearance_within f (o ∷ os) far (suc i) g e old = clearance_within f os (clearance_behind f far o) i g e old

-- ---- the clearance of the frame in a slot

progress_at : (slots : List (Option Flight)) (i : ℕ) → get_or (flights_progress slots) i None ≡ option_map flight_progress (get_or slots i None)
progress_at slots i = get_or-map (λ (o : Option Flight). option_map flight_progress o) slots i None

pub finds_clearance : (slots : List (Option Flight)) (k : ℕ) (f : Progress) → option_map flight_progress (get_or slots k None) ≡ Some f → HasClearance slots k (fold (clearance_behind f) no_end (flights_progress slots))
finds_clearance slots k f is = λ i a b ak bi old.
    let same : flight_progress a ≡ f = some_same (flight_progress a) f (sym (ap (λ (o : Option Flight). option_map flight_progress o) ak) ∙ is) in
    clearance_within f (flights_progress slots) no_end i (flight_progress b) (progress_at slots i ∙ ap (λ (o : Option Flight). option_map flight_progress o) bi)
    (subst (λ (p : Progress). is_older (flight_progress b) p ≡ true) same old)

all_by : (test : Option Progress → Bool) (slots : List (Option Flight)) → ((i : ℕ) → test (option_map flight_progress (get_or slots i None)) ≡ true) → list_all test (flights_progress slots) ≡ true
all_by test [] h = refl
all_by test (o ∷ slots) h = ap (λ (b : Bool). b && list_all test (flights_progress slots)) (h 0) ∙ all_by test slots (λ i. h (suc i))

pub clearance_passes : (slots : List (Option Flight)) (k until : ℕ) (f : Progress) → option_map flight_progress (get_or slots k None) ≡ Some f → HasClearance slots k until → f.passed < until
    → list_all (lets_by f) (flights_progress slots) ≡ true
clearance_passes slots k until f is way l = all_by (lets_by f) slots (λ i. at i (get_or slots i None) refl (get_or slots k None) refl is)
  where
    at : (i : ℕ) (o : Option Flight) → get_or slots i None ≡ o → (u : Option Flight) → get_or slots k None ≡ u → option_map flight_progress u ≡ Some f → lets_by f (option_map flight_progress o) ≡ true
    at i None q u r e = refl
    at i (Some b) q None r e = absurd (let z : None ≡ Some f = e in cc)
    at i (Some b) q (Some a) r e = by (is_older (flight_progress b) f) refl
      where
        same : flight_progress a ≡ f
        same = some_same (flight_progress a) f e

        by : (x : Bool) → is_older (flight_progress b) f ≡ x → (if x then nat_lt f.passed b.passed else true) ≡ true
        by false old = refl
        by true old =
            let far : until ≤ b.passed = way i a b r q (subst (λ (p : Progress). is_older (flight_progress b) p ≡ true) (sym same) old) in
            lt-ltb f.passed b.passed (omega (arith, l, far))

-- ---- frames move

-- a frame that was in the slot before, and has passed no fewer slaves now
pub record HasMoved (before : Option Flight) (f : Flight) : Type 0 where
  pub flight : Flight
  pub there : before ≡ Some flight
  pub number : flight.number ≡ f.number
  pub part : flight.part ≡ f.part
  pub passed : flight.passed ≤ f.passed

pub at_set : {X : Type 0} (xs : List X) (j k : ℕ) (x d : X) → (get_or (set xs j x) k d ≡ get_or xs k d) ⊎ ((k ≡ j) × (get_or (set xs j x) k d ≡ x))
at_set [] j k x d = inl refl
at_set (y ∷ ys) zero zero x d = inr (refl, refl)
at_set (y ∷ ys) zero (suc k) x d = inl refl
at_set (y ∷ ys) (suc j) zero x d = inl refl
at_set (y ∷ ys) (suc j) (suc k) x d = elim (at_set ys j k x d) [
  | inl e ↦ inl e
  | inr e ↦ inr (ap suc e.0, e.1)
]

moved : (slots : List (Option Flight)) (j : ℕ) (x : Option Flight) → ((f : Flight) → x ≡ Some f → HasMoved (get_or slots j None) f) → (k : ℕ) (f : Flight) → get_or (set slots j x) k None ≡ Some f
    → HasMoved (get_or slots k None) f
moved slots j x h k f e = elim (at_set slots j k x None) [
  | inl q ↦ record { flight = f; there = sym q ∙ e; number = refl; part = refl; passed = omega arith }
  | inr q ↦ subst (λ (i : ℕ). HasMoved (get_or slots i None) f) (sym q.0) (h f (sym q.1 ∙ e))
]

pub clearance_stays : (slots : List (Option Flight)) (k until j : ℕ) (x : Option Flight) → HasClearance slots k until → ((f : Flight) → x ≡ Some f → HasMoved (get_or slots j None) f) → HasClearance (set slots j x) k until
clearance_stays slots k until j x way h = λ i a b ak bi old.
    let was_a = moved slots j x h k a ak in
    let was_b = moved slots j x h i b bi in
    let far : until ≤ was_b.flight.passed = way i was_a.flight was_b.flight was_a.there was_b.there (rw (was_a.number, was_a.part, was_b.number, was_b.part) old) in
    omega (arith, far, was_b.passed)

-- a frame that passed its next slave has moved
pub has_moved : (slaves after : List SlaveState) (before slot : Option Flight) → ((f : Flight) → before ≡ Some f → HasPassed slaves f after slot) → (before ≡ None → slot ≡ None)
    → (f : Flight) → slot ≡ Some f → HasMoved before f
has_moved slaves after None slot passed free f e = absurd (let z : None ≡ Some f = sym (free refl) ∙ e in cc)
has_moved slaves after (Some g) slot passed free f e =
    let h = passed g refl in
    let same : record g { bytes = h.bytes; passed = g.passed + 1 } ≡ f = some_same (record g { bytes = h.bytes; passed = g.passed + 1 }) f (sym h.is ∙ e) in
    subst (λ (x : Flight). HasMoved (Some g) x) same (record { flight = g; there = refl; number = refl; part = refl; passed = omega arith })

pub same_default : {X : Type 0} (xs : List X) (k : ℕ) (d e : X) → k < length xs → get_or xs k d ≡ get_or xs k e
same_default [] k d e l = absurd (omega arith)
same_default (x ∷ xs) zero d e l = refl
same_default (x ∷ xs) (suc k) d e l = same_default xs k d e (omega arith)

pub free_stays : (slots : List (Option Flight)) (used k : ℕ) (x : Option Flight) → AreFreeFrom slots used → (get_or slots k None ≡ None → x ≡ None) → AreFreeFrom (set slots k x) used
free_stays slots used k x free h = record {
  within = let l = length-set slots k x in omega (arith, l, free.within);
  free = λ i l. elim (at_set slots k i x None) [
    | inl e ↦ e ∙ free.free i l
    | inr e ↦ e.1 ∙ h (subst (λ (j : ℕ). get_or slots j None ≡ None) e.0 (free.free i l))
  ];
}
