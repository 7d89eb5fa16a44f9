-- A cycle is begun once, and a frame passes each slave once.
use Rattle.ec_world.proofs.Words.{ℕ, ◌+◌, ◌<◌, ◌≤◌, ◌≡◌, Bool, true, false, Some, None, refl, sym, ◌∙◌, ap, subst, inl, inr, arith, List, [], ◌∷◌, ◌++◌, length, if◌then◌else◌, cases_lt, get_or-set_same, StartState, MasterState, readied, Event, StartNext, Begin, Pass, Return, Close, AppPut, AppGet, Progress, WorldState, Flight, awaits, is_up, flight_at, flight_progress, progress_at, ready_with, can_begin, can_happen, Begins, Passes, Happens, IsStep, ByStart, StartReturns, Returns, GivesUp, Closes, IsRun, IsNew, Contents, Identity, HeadlineIsBegun as IsBegun, HeadlineHasPassed as HasPassed, BegunOnceLaw, PassedOnceLaw, first_same, rest_same, some_same, within_of}
use Rattle.std.proofs.Math.Nat.{le-max_left}
use Rattle.ec_world.proofs.Headline.LinkedBits.{cut}
use Rattle.ec_world.proofs.Runs.OneOutcomeLaw.{one_outcome}
use Rattle.ec_world.proofs.Runs.Numbers.{newest, Numbered, numbered_run, new_numbered, stayed}
use Rattle.ec_world.proofs.Runs.OrderLaw.{flight_there, one_outcome_from}
use Rattle.ec_world.proofs.Runs.Sizes.{taken_cycle}

-- ---- two places of one list

-- what stands at the earlier one is behind it on the way to the later one
later : (xs ys a b : List Event) (e f : Event) → xs ++ (e ∷ a) ≡ ys ++ (f ∷ b) → length xs < length ys → (d : List Event) × (ys ≡ xs ++ (e ∷ d))
later [] [] a b e f same l = absurd (omega (arith, l))
later [] (y ∷ ys) a b e f same l = (ys, ap (λ (z : Event). z ∷ ys) (sym (first_same e y a (ys ++ (f ∷ b)) same)))
later (x ∷ xs) [] a b e f same l = absurd (omega (arith, l))
later (x ∷ xs) (y ∷ ys) a b e f same l =
    let r = later xs ys a b e f (rest_same x y (xs ++ (e ∷ a)) (ys ++ (f ∷ b)) same) (omega (arith, l)) in
    (r.0, ap (λ (z : Event). z ∷ ys) (sym (first_same x y (xs ++ (e ∷ a)) (ys ++ (f ∷ b)) same)) ∙ ap (λ (zs : List Event). x ∷ zs) r.1)

as_long : (xs ys a b : List Event) → xs ++ a ≡ ys ++ b → length xs ≡ length ys → xs ≡ ys
as_long [] [] a b same l = refl
as_long [] (y ∷ ys) a b same l = absurd (omega (arith, l))
as_long (x ∷ xs) [] a b same l = absurd (omega (arith, l))
as_long (x ∷ xs) (y ∷ ys) a b same l =
    ap (λ (z : Event). z ∷ xs) (first_same x y (xs ++ a) (ys ++ b) same)
    ∙ ap (λ (zs : List Event). y ∷ zs) (as_long xs ys a b (rest_same x y (xs ++ a) (ys ++ b) same) (omega (arith, l)))

-- places of which neither is the earlier one are one place
one_place : (xs ys a b : List Event) → xs ++ a ≡ ys ++ b → (length xs < length ys → ⊥) → (length ys < length xs → ⊥) → xs ≡ ys
one_place xs ys a b same earlier behind = elim (cases_lt (length xs) (length ys)) [
  | inl l ↦ absurd (earlier l)
  | inr k ↦ elim (cases_lt (length ys) (length xs)) [
    | inl l ↦ absurd (behind l)
    | inr l ↦ as_long xs ys a b same (omega (arith, k, l))
  ]
]

-- ---- the number of the next cycle never goes back

abbrev Grows : WorldState → WorldState → Type 0
Grows old new = old.master.next ≤ new.master.next

readied_grows : (m : MasterState) (s : StartState) → m.next ≤ (ready_with m s).next
readied_grows m s = elim (is_up s) as (λ b. m.next ≤ (if b then readied m s.next else m).next) [ true ↦ le-max_left m.next s.next | false ↦ omega arith ]

return_grows : (b : Bool) (old : WorldState) (k : ℕ) (new : WorldState) → ByStart b (StartReturns old k new) (Returns old k new) → Grows old new
return_grows true old k new h = subst (Grows old) (sym h.is) (readied_grows old.master new.start)
return_grows false old k new h =
    let same : new.master.next ≡ old.master.next = ap (λ (m : MasterState). m.next) (taken_cycle old.master h.flight.bytes h.is_accepted new.master h.master) in
    omega (arith, same)

close_grows : (b : Bool) (old new : WorldState) → ByStart b (GivesUp old new) (Closes old new) → Grows old new
close_grows true old new h = let same : new.master.next ≡ old.master.next = ap (λ (x : WorldState). x.master.next) h in omega (arith, same)
close_grows false old new h = let same : new.master.next ≡ old.master.next = ap (λ (x : WorldState). x.master.next) h.is in omega (arith, same)

event_grows : (old : WorldState) (e : Event) (new : WorldState) → Happens old e new → Grows old new
event_grows old Begin new h = let more : new.master.next ≡ old.master.next + 1 = ap (λ (m : MasterState). m.next) h.master.is in omega (arith, more)
event_grows old (Return k) new h = return_grows (awaits old.start) old k new h
event_grows old Close new h = close_grows (awaits old.start) old new h
event_grows old StartNext new h = let same : new.master.next ≡ old.master.next = ap (λ (x : WorldState). x.master.next) h.is in omega (arith, same)
event_grows old (Pass k) new h = let same : new.master.next ≡ old.master.next = ap (λ (x : WorldState). x.master.next) h.is in omega (arith, same)
event_grows old (AppPut s i x) new h = let same : new.master.next ≡ old.master.next = ap (λ (x : WorldState). x.master.next) h.is in omega (arith, same)
event_grows old (AppGet s i) new h = let same : new.master.next ≡ old.master.next = ap (λ (x : WorldState). x.master.next) h.is in omega (arith, same)
event_grows old _ new h = let same : new.master.next ≡ old.master.next = ap (λ (x : WorldState). x.master.next) h in omega (arith, same)

step_grows : (old : WorldState) (e : Event) (new : WorldState) (one : Bool) → IsStep old e new one → Grows old new
step_grows old e new true h = event_grows old e new (h.happens refl)
step_grows old e new false h = let same : new.master.next ≡ old.master.next = ap (λ (x : WorldState). x.master.next) (h.refused refl) in omega (arith, same)

run_grows : (old : WorldState) (es : List Event) (new : WorldState) (made : ℕ) → IsRun old es new made → Grows old new
run_grows old [] new made h = let same : new.master.next ≡ old.master.next = ap (λ (x : WorldState). x.master.next) h.0 in omega (arith, same)
run_grows old (e ∷ es) new made h =
    let one = step_grows old e h.0 h.1 h.3 in
    let more = run_grows h.0 es new h.2 h.4 in
    omega (arith, one, more)

-- ---- a cycle is begun once

never_again : (t : Contents) (ids : List Identity) (old : WorldState) → IsNew t ids old → (events : List Event) (w : WorldState) (number : ℕ) (x y : IsBegun old events w number) → length x.event.before < length y.event.before → ⊥
never_again t ids old n events w number x y l =
    let d = later x.event.before y.event.before x.event.behind y.event.behind Begin Begin (sym x.event.split ∙ y.event.split) l in
    let c = cut old x.event.before Begin d.0 y.event.at y.event.first (subst (λ (zs : List Event). IsRun old zs y.event.at y.event.first) d.1 y.event.to_it) in
    let same : c.at ≡ x.event.at = (one_outcome t ids old n x.event.before c.at x.event.at c.first x.event.first c.to_it x.event.to_it).0 in
    let made : c.one ≡ true = c.step.can ∙ (ap can_begin same ∙ sym x.event.step.can) in
    let begins : Begins c.at c.next = c.step.happens made in
    let more : c.next.master.next ≡ c.at.master.next + 1 = ap (λ (m : MasterState). m.next) begins.master.is in
    let at : c.at.master.next ≡ number = ap (λ (z : WorldState). z.master.next) same ∙ x.number_is in
    let far = run_grows c.next d.0 y.event.at c.rest c.onward in
    omega (arith, more, at, far, y.number_is)

pub begun_once : BegunOnceLaw
begun_once t ids old n events w number x y =
    one_place x.event.before y.event.before (Begin ∷ x.event.behind) (Begin ∷ y.event.behind) (sym x.event.split ∙ y.event.split) (never_again t ids old n events w number x y) (never_again t ids old n events w number y x)

-- ---- a frame passes a slave once

module _ (t : Contents) (ids : List Identity) (old : WorldState) (events : List Event) (w : WorldState) (made : ℕ) (n : IsNew t ids old) (h : IsRun old events w made) (more : List Event) (v : WorldState) (number part s : ℕ) (x y : HasPassed w more v number part s) where
  abbrev f : Progress
  f = record { number = number; part = part; passed = s }

  pub no_second : length x.event.before < length y.event.before → ⊥
  no_second l =
      let d = later x.event.before y.event.before x.event.behind y.event.behind (Pass x.slot) (Pass y.slot) (sym x.event.split ∙ y.event.split) l in
      let c = cut w x.event.before (Pass x.slot) d.0 y.event.at y.event.first (subst (λ (zs : List Event). IsRun w zs y.event.at y.event.first) d.1 y.event.to_it) in
      let same : c.at ≡ x.event.at = one_outcome_from t ids old n events w made h x.event.before c.at x.event.at c.first x.event.first c.to_it x.event.to_it in
      let yes : c.one ≡ true = c.step.can ∙ (ap (λ (z : WorldState). can_happen z (Pass x.slot)) same ∙ sym x.event.step.can) in
      let passes : Passes c.at x.slot c.next = c.step.happens yes in
      let g = flight_there c.at x.slot f (ap (λ (z : WorldState). progress_at z x.slot) same ∙ x.frame) in
      let own : flight_progress passes.flight ≡ f = ap flight_progress (some_same passes.flight g.0 (sym passes.there ∙ g.1.0)) ∙ g.1.1 in
      let on : Flight = record passes.flight { bytes = passes.bytes; passed = passes.flight.passed + 1 } in
      let there : flight_at c.next x.slot ≡ Some on
      = ap (λ (z : WorldState). flight_at z x.slot) passes.is ∙ get_or-set_same c.at.slots x.slot (Some on) None (within_of c.at.slots x.slot passes.flight passes.there) in
      let n_at : Numbered c.at = numbered_run x.event.before w c.at c.first c.to_it (numbered_run events old w made h (new_numbered t ids old n)) in
      let n_next : Numbered c.next = numbered_run (Pass x.slot ∷ []) c.at c.next _ (c.next, c.one, 0, c.step, (refl, refl), refl) n_at in
      let late = flight_there y.event.at y.slot f y.frame in
      let on_number : on.number ≡ number = ap (λ (z : Progress). z.number) own in
      let on_part : on.part ≡ part = ap (λ (z : Progress). z.part) own in
      let on_passed : on.passed ≡ s + 1 = ap (λ (z : Progress). z.passed + 1) own in
      let late_number : late.0.number ≡ number = ap (λ (z : Progress). z.number) late.1.1 in
      let late_part : late.0.part ≡ part = ap (λ (z : Progress). z.part) late.1.1 in
      let late_passed : late.0.passed ≡ s = ap (λ (z : Progress). z.passed) late.1.1 in
      let low : late.0.number < newest c.next = (let b = n_next.below x.slot on there in omega (arith, b, on_number, late_number)) in
      let was = (stayed c.next d.0 y.event.at c.rest n_next c.onward).each y.slot late.0 late.1.0 low in
      let slot : y.slot ≡ x.slot = n_next.once y.slot x.slot was.flight on was.there there (was.number ∙ (late_number ∙ sym on_number)) (was.part ∙ (late_part ∙ sym on_part)) in
      let one : was.flight ≡ on = some_same was.flight on (sym was.there ∙ (ap (λ (k : ℕ). flight_at c.next k) slot ∙ there)) in
      let far : was.flight.passed ≡ s + 1 = ap (λ (z : Flight). z.passed) one ∙ on_passed in
      let least = was.passed in
      omega (arith, far, late_passed, least)

pub passed_once : PassedOnceLaw
passed_once t ids old events w made n h up more v number part s x y =
    one_place x.event.before y.event.before (Pass x.slot ∷ x.event.behind) (Pass y.slot ∷ y.event.behind) (sym x.event.split ∙ y.event.split)
    (no_second t ids old events w made n h more v number part s x y) (no_second t ids old events w made n h more v number part s y x)
