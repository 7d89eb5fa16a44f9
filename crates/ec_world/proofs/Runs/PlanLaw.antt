-- No event changes the plan of a world.
use Rattle.ec_world.proofs.Words.{ℕ, ◌≡◌, ◌∙◌, Bool, true, false, refl, List, [], ◌∷◌, ap, Event, StartNext, Begin, Pass, Lose, Return, Close, AppPut, AppGet, WorldState, awaits, Happens, ByStart, StartReturns, Returns, GivesUp, Closes, IsRun}
use Rattle.ec_world.specs.Laws.{PlanLaw}

returned : (b : Bool) (old : WorldState) (k : ℕ) (new : WorldState) → ByStart b (StartReturns old k new) (Returns old k new) → new.plan ≡ old.plan
returned true old k new h = ap (λ (w : WorldState). w.plan) h.is
returned false old k new h = ap (λ (w : WorldState). w.plan) h.is

closed : (b : Bool) (old new : WorldState) → ByStart b (GivesUp old new) (Closes old new) → new.plan ≡ old.plan
closed true old new h = ap (λ (w : WorldState). w.plan) h
closed false old new h = ap (λ (w : WorldState). w.plan) h.is

happened : (old : WorldState) (e : Event) (new : WorldState) → Happens old e new → new.plan ≡ old.plan
happened old StartNext new h = ap (λ (w : WorldState). w.plan) h.is
happened old Begin new h = ap (λ (w : WorldState). w.plan) h.is
happened old (Pass k) new h = ap (λ (w : WorldState). w.plan) h.is
happened old (Lose k) new h = ap (λ (w : WorldState). w.plan) h
happened old (Return k) new h = returned (awaits old.start) old k new h
happened old Close new h = closed (awaits old.start) old new h
happened old (AppPut s i x) new h = ap (λ (w : WorldState). w.plan) h.is
happened old (AppGet s i) new h = ap (λ (w : WorldState). w.plan) h.is
happened old _ new h = ap (λ (w : WorldState). w.plan) h

pub plan_stays : PlanLaw
plan_stays old e new true h = happened old e new (h.happens refl)
plan_stays old e new false h = ap (λ (w : WorldState). w.plan) (h.refused refl)

pub run_keeps : (old : WorldState) (es : List Event) (new : WorldState) (made : ℕ) → IsRun old es new made → new.plan ≡ old.plan
run_keeps old [] new made h = ap (λ (w : WorldState). w.plan) h.0
run_keeps old (e ∷ es) new made h = run_keeps h.0 es new h.2 h.4 ∙ plan_stays old e h.0 h.1 h.3
