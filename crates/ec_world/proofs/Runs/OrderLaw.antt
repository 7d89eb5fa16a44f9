-- Frames keep their order: an older frame passes each slave first.
use Rattle.ec_world.proofs.Words.{ℕ, zero, suc, ◌+◌, ◌<◌, ◌≤◌, ◌≡◌, ◌==◌, nat_lt, true, Option, Some, None, refl, sym, ◌∙◌, ap, subst, inl, inr, arith, List, [], ◌∷◌, ◌++◌, length, get_or, option_map, list_all, cases_lt, and_parts, or_cases, ltb-true, eqb-true, if_true, Contents, Identity, Event, Pass, Progress, is_older, lets_by, may_pass, flights_progress, WorldState, Flight, flight_at, flight_progress, progress_at, IsRun, IsNew, OrderLaw, none_some, some_same, first_same, rest_same}
use Rattle.ec_world.proofs.Runs.OneOutcomeLaw.{one_outcome}
use Rattle.ec_world.proofs.Runs.Numbers.{newest, Numbered, numbered_run, new_numbered, stayed}
use Rattle.ec_world.proofs.Refinement.StepsRefine.{runs_join}
use Rattle.ec_world.proofs.StartUp.NewLaw.{split}

-- ---- a frame in its slot

pub flight_there : (w : WorldState) (k : ℕ) (f : Progress) → progress_at w k ≡ Some f → (g : Flight) × ((flight_at w k ≡ Some g) × (flight_progress g ≡ f))
flight_there w k f e = by (flight_at w k) refl e
  where
    by : (o : Option Flight) → flight_at w k ≡ o → option_map flight_progress o ≡ Some f → (g : Flight) × ((flight_at w k ≡ Some g) × (flight_progress g ≡ f))
    by None at e = absurd (none_some f e)
    by (Some g) at e = (g, (at, some_same (flight_progress g) f e))

progress_there : (os : List (Option Flight)) (k : ℕ) → get_or (flights_progress os) k None ≡ option_map flight_progress (get_or os k None)
progress_there [] k = refl
progress_there (o ∷ os) zero = refl
progress_there (o ∷ os) (suc k) = progress_there os k

-- ---- prefixes of one list

-- the same events lead from one world of a run to one world
pub one_outcome_from : (t : Contents) (ids : List Identity) (old : WorldState) → IsNew t ids old → (events : List Event) (w : WorldState) (made : ℕ) → IsRun old events w made
    → (es : List Event) (u v : WorldState) (count other : ℕ) → IsRun w es u count → IsRun w es v other → u ≡ v
one_outcome_from t ids old n events w made h es u v count other x y =
    (one_outcome t ids old n (events ++ es) u v (made + count) (made + other) (runs_join old events w made es u count h x) (runs_join old events w made es v other h y)).0

prefix : (xs ys a b : List Event) → xs ++ a ≡ ys ++ b → length ys ≤ length xs → (d : List Event) × (xs ≡ ys ++ d)
prefix xs [] a b e l = (xs, refl)
prefix [] (y ∷ ys) a b e l = absurd (omega (arith, l))
prefix (x ∷ xs) (y ∷ ys) a b e l =
    let r = prefix xs ys a b (rest_same x y (xs ++ a) (ys ++ b) e) (omega (arith, l)) in
    (r.0, ap (λ (z : Event). z ∷ xs) (first_same x y (xs ++ a) (ys ++ b) e) ∙ ap (λ (zs : List Event). y ∷ zs) r.1)

all_get : (f : Progress) (os : List (Option Progress)) (k : ℕ) → list_all (lets_by f) os ≡ true → lets_by f (get_or os k None) ≡ true
all_get f [] k h = refl
all_get f (o ∷ os) zero h = (and_parts (lets_by f o) _ h).0
all_get f (o ∷ os) (suc k) h = all_get f os k (and_parts (lets_by f o) _ h).1

not_later : (number other part k : ℕ) → is_older (record { number = number; part = part; passed = 0 }) (record { number = other; part = k; passed = 0 }) ≡ true → number ≤ other
not_later number other part k h = elim (or_cases (nat_lt number other) _ h) [
  | inl x ↦ (let l = ltb-true number other x in omega (arith, l))
  | inr x ↦ (let e = eqb-true number other (and_parts (number == other) _ x).0 in omega (arith, e))
]

pub order_law : OrderLaw
order_law t ids old events w made n h up more v count on number part other k s x y older = elim (cases_lt (length x.event.before) (length y.event.before)) [
  | inl l ↦ l
  | inr late ↦ absurd (clash late)
]
  where
    n_old : Numbered w
    n_old = numbered_run events old w made h (new_numbered t ids old n)

    f : (g : Flight) × ((flight_at x.event.at x.slot ≡ Some g) × (flight_progress g ≡ record { number = number; part = part; passed = s }))
    f = flight_there x.event.at x.slot (record { number = number; part = part; passed = s }) x.frame

    base : WorldState
    base = y.event.at

    g : (g : Flight) × ((flight_at base y.slot ≡ Some g) × (flight_progress g ≡ record { number = other; part = k; passed = s }))
    g = flight_there base y.slot (record { number = other; part = k; passed = s }) y.frame

    n_base : Numbered base
    n_base = numbered_run y.event.before w base y.event.first y.event.to_it n_old

    clash : length y.event.before ≤ length x.event.before → ⊥
    clash late =
        let d = prefix x.event.before y.event.before (Pass x.slot ∷ x.event.behind) (Pass y.slot ∷ y.event.behind) (sym x.event.split ∙ y.event.split) late in
        let c = split y.event.before d.0 w x.event.at x.event.first (subst (λ (es : List Event). IsRun w es x.event.at x.event.first) d.1 x.event.to_it) in
        let same : c.mid ≡ base = (one_outcome_from t ids old n events w made h y.event.before c.mid base c.first y.event.first c.to_mid y.event.to_it) in
        let on = stayed base d.0 x.event.at c.rest n_base (subst (λ (z : WorldState). IsRun z d.0 x.event.at c.rest) same c.onward) in
        let low : f.0.number < newest base
        = (let a = n_base.below y.slot g.0 g.1.0 in let b = ap (λ (z : Progress). z.number) f.1.1 in let q = ap (λ (z : Progress). z.number) g.1.1 in let l = not_later number other part k older in omega (arith, a, b, q, l)) in
        let was = on.each x.slot f.0 f.1.0 low in
        let can : may_pass (length base.slaves) (flights_progress base.slots) (Some (record { number = other; part = k; passed = s })) ≡ true
        = ap (λ o. may_pass (length base.slaves) (flights_progress base.slots) o) (sym y.frame) ∙ sym y.event.step.can in
        let lets : lets_by (record { number = other; part = k; passed = s }) (get_or (flights_progress base.slots) x.slot None) ≡ true
        = all_get (record { number = other; part = k; passed = s }) (flights_progress base.slots) x.slot (and_parts (nat_lt s (length base.slaves)) _ can).1 in
        let at : get_or (flights_progress base.slots) x.slot None ≡ Some (flight_progress was.flight) = progress_there base.slots x.slot ∙ ap (option_map flight_progress) was.there in
        let older1 : is_older (flight_progress was.flight) (record { number = other; part = k; passed = s }) ≡ true
        = ap (λ (z : ℕ). is_older (record { number = z; part = was.flight.part; passed = 0 }) (record { number = other; part = k; passed = 0 })) (was.number ∙ ap (λ (z : Progress). z.number) f.1.1)
        ∙ (ap (λ (z : ℕ). is_older (record { number = number; part = z; passed = 0 }) (record { number = other; part = k; passed = 0 })) (was.part ∙ ap (λ (z : Progress). z.part) f.1.1) ∙ older) in
        let first : s < was.flight.passed = ltb-true s was.flight.passed (sym (if_true _ _ _ older1) ∙ (ap (lets_by (record { number = other; part = k; passed = s })) (sym at) ∙ lets)) in
        let c2 = ap (λ (z : Progress). z.passed) f.1.1 in
        let b2 = was.passed in
        omega (arith, first, b2, c2)
