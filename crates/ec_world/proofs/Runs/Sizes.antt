-- The images keep their lengths, and there are as many slots as before, in every run of every world.
use Rattle.ec_world.proofs.Words.{ℕ, ◌≡◌, Bool, true, false, Option, Some, None, refl, ◌∙◌, ap, List, [], ◌∷◌, length, length-set, if◌then◌else◌, slice_get, true≢false, length-overlay, Variable, StartState, MasterState, OpenCycle, IsTaken, readied, value_put, Event, StartNext, Set, Begin, Pass, Lose, Return, Close, AppPut, AppGet, WorldState, awaits, is_up, ready_with, Happens, IsStep, ByStart, StartReturns, Returns, GivesUp, Closes, IsRun, filled-length, subst, sym}

-- as many bytes of each image as before, and as many slots
pub record Same (old new : WorldState) : Type 0 where
  pub outputs : length new.master.outputs ≡ length old.master.outputs
  pub inputs : length new.master.inputs ≡ length old.master.inputs
  pub slots : length new.slots ≡ length old.slots

unchanged : (w : WorldState) → Same w w
unchanged w = record { outputs = refl; inputs = refl; slots = refl }

-- a master whose start-up is ready keeps what no start-up touches
pub readied_keeps : {X : Type 0} (f : MasterState → X) → ((m : MasterState) (n : ℕ) → f (readied m n) ≡ f m) → (m : MasterState) (s : StartState) → f (ready_with m s) ≡ f m
readied_keeps f same m s = elim (is_up s) as (λ b. f (if b then readied m s.next else m) ≡ f m) [ true ↦ same m s.next | false ↦ refl ]

-- a payload changes nothing but the open cycle
pub taken_cycle : (m : MasterState) (payload : List ℕ) (is_accepted : Bool) (n : MasterState) → IsTaken m payload is_accepted n → n ≡ record m { cycle = n.cycle }
taken_cycle m payload is_accepted n h = by is_accepted refl
  where
    in_cycle : (o : Option OpenCycle) → n ≡ record m { cycle = o } → n ≡ record m { cycle = n.cycle }
    in_cycle o e = e ∙ ap (λ (c : Option OpenCycle). record m { cycle = c }) (sym (ap (λ (x : MasterState). x.cycle) e))

    by : (b : Bool) → is_accepted ≡ b → n ≡ record m { cycle = n.cycle }
    by true e = let a = h.only e in in_cycle _ (h.kept a.cycle a.part a.frame a.answer).1
    by false e = in_cycle m.cycle (h.foreign (λ c k p a. true≢false (sym (h.kept c k p a).0 ∙ e))).1

return_same : (b : Bool) (old : WorldState) (k : ℕ) (new : WorldState) → ByStart b (StartReturns old k new) (Returns old k new) → Same old new
return_same true old k new h = subst (Same old) (sym h.is) (record {
  outputs = ap length (readied_keeps (λ m. m.outputs) (λ m n. refl) old.master new.start);
  inputs = ap length (readied_keeps (λ m. m.inputs) (λ m n. refl) old.master new.start);
  slots = length-set old.slots k None;
})
return_same false old k new h =
    let one = taken_cycle old.master h.flight.bytes h.is_accepted new.master h.master in
    subst (Same old) (sym h.is) (record { outputs = ap (λ (m : MasterState). length m.outputs) one; inputs = ap (λ (m : MasterState). length m.inputs) one; slots = length-set old.slots k None })

close_same : (b : Bool) (old new : WorldState) → ByStart b (GivesUp old new) (Closes old new) → Same old new
close_same true old new h = subst (Same old) (sym h) (record { outputs = refl; inputs = refl; slots = refl })
close_same false old new h = subst (Same old) (sym h.is) (record { outputs = refl; inputs = length-overlay old.master.inputs _; slots = refl })

put_same : (image : List ℕ) (value : ℕ) (o : Option Variable) → length (value_put image value o) ≡ length image
put_same image value None = refl
put_same image value (Some v) = length-overlay image _

event_same : (old : WorldState) (e : Event) (new : WorldState) → Happens old e new → Same old new
event_same old StartNext new h = subst (Same old) (sym h.is) (record { outputs = refl; inputs = refl; slots = filled-length _ old.slots })
event_same old (Set v x) new h = subst (Same old) (sym h) (record { outputs = put_same old.master.outputs x (slice_get old.master.plan.variables v); inputs = refl; slots = refl })
event_same old Begin new h = subst (Same old) (sym h.is)
    (record { outputs = ap (λ (m : MasterState). length m.outputs) h.master.is; inputs = ap (λ (m : MasterState). length m.inputs) h.master.is; slots = filled-length _ old.slots })
event_same old (Pass k) new h = subst (Same old) (sym h.is) (record { outputs = refl; inputs = refl; slots = length-set old.slots k _ })
event_same old (Lose k) new h = subst (Same old) (sym h) (record { outputs = refl; inputs = refl; slots = length-set old.slots k None })
event_same old (Return k) new h = return_same (awaits old.start) old k new h
event_same old Close new h = close_same (awaits old.start) old new h
event_same old (AppPut s i x) new h = subst (Same old) (sym h.is) (record { outputs = refl; inputs = refl; slots = refl })
event_same old (AppGet s i) new h = subst (Same old) (sym h.is) (record { outputs = refl; inputs = refl; slots = refl })
event_same old _ new h = subst (Same old) (sym h) (record { outputs = refl; inputs = refl; slots = refl })

pub step_same : (old : WorldState) (e : Event) (new : WorldState) (one : Bool) → IsStep old e new one → Same old new
step_same old e new true h = event_same old e new (h.happens refl)
step_same old e new false h = subst (Same old) (sym (h.refused refl)) (unchanged old)

pub run_same : (old : WorldState) (es : List Event) (new : WorldState) (made : ℕ) → IsRun old es new made → Same old new
run_same old [] new made h = subst (Same old) (sym h.0) (unchanged old)
run_same old (e ∷ es) new made h =
    let one = step_same old e h.0 h.1 h.3 in
    let more = run_same h.0 es new h.2 h.4 in
    record { outputs = more.outputs ∙ one.outputs; inputs = more.inputs ∙ one.inputs; slots = more.slots ∙ one.slots }
