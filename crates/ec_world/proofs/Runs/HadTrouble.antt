-- A slave that is not in OP any more had a fault or a reset, and no start-up began since.
use Rattle.ec_world.proofs.Words.{ℕ, ◌≡◌, ◌≢◌, ◌⊎◌, ◌&&◌, Bool, true, false, Option, Some, None, refl, sym, ◌∙◌, ap, subst, inl, inr, List, [], ◌∷◌, is_some, unwrap_or, Meaning, meaning, PlanState, IsUsable, Event, StartNext, Fault, ResetSlave, Plain, Health, Working, step, run, plain_slave, WorldState, IsStep, Refines, IsRun, StepRefines, IsUnstopped, HadTrouble, IsRunWithoutStart, begins_start}
use Rattle.ec_world.proofs.Runs.SnapshotsLaw.{Rests, HasFailed, HasRestarted, became}
use Rattle.ec_world.proofs.Refinement.StepsRefine.{steps_refine}
use Rattle.ec_world.proofs.Runs.TroubleLaw.{more, made_first}
use Rattle.ec_world.proofs.Runs.Unstopped.{still_next}

-- ---- a Ready world begins no start-up

none_begins : (m : Meaning) (p : Plain) (w : WorldState) (b : Bool) (e : Event) → b ≡ is_some (step m p e) → (b && begins_start w e) ≡ false
none_begins m p w b StartNext h = ap (λ (x : Bool). x && begins_start w StartNext) h
none_begins m p w b _ h = elim b as (λ b. (b && false) ≡ false) [ true ↦ refl | false ↦ refl ]

pub without_start : (es : List Event) (old new : WorldState) (made : ℕ) (p : Plain) → IsUsable old.plan → Refines old p → IsRun old es new made → IsUnstopped old new → IsRunWithoutStart old es new
without_start [] old new made p sound s h same = h.0
without_start (e ∷ es) old new made p sound s h same =
    let here : IsUnstopped old h.0 = still_next old e h.0 h.1 es new h.2 s.started h.3 h.4 same in
    let one = steps_refine old e h.0 h.1 sound h.3 in
    (h.0, h.1, h.3, none_begins (meaning old.plan) p old h.1 e (one.made_is p s here), without_start es h.0 new h.2 _ (subst IsUsable (sym (one.same_plan p s)) sound) (one.shown p s here) h.4 (same ∙ sym here))

-- ---- who doesn't work any more

works_or : (h : Health) → (h ≡ Working) ⊎ (h ≢ Working)
works_or Working = inl refl
works_or _ = inr (λ e. cc e)

stopped : (m : Meaning) (p : Plain) (e : Event) (q : Plain) (i : ℕ) → step m p e ≡ Some q → (plain_slave p i).health ≡ Working → (plain_slave q i).health ≢ Working → (e ≡ Fault i) ⊎ (e ≡ ResetSlave i)
stopped m p e q i h was bad = elim (became m p e q i h) [ Rests same ↦ absurd (bad (same ∙ was)) | HasFailed is now before ↦ inl is | HasRestarted is now ↦ inr is ]

pub falls : (es : List Event) (old new : WorldState) (made : ℕ) (p : Plain) (i : ℕ) → IsUsable old.plan → Refines old p → IsRun old es new made → IsUnstopped old new
    → (plain_slave p i).health ≡ Working → (plain_slave (run (meaning old.plan) p es).plain i).health ≢ Working → HadTrouble old es new i
falls [] old new made p i sound s h still was bad = absurd (bad was)
falls (e ∷ es) old new made p i sound s h still was bad = elim (works_or (plain_slave next i).health) [
  | inl works ↦ more old e h.0 h.1 es new i h.3
      (falls es h.0 new h.2 next i usable (one.shown p s here) h.4 (still ∙ sym here) works (subst (λ (x : PlanState). (plain_slave (run (meaning x) next es).plain i).health ≢ Working) (sym same) bad))
  | inr stops ↦ go (step (meaning old.plan) p e) refl stops
]
  where
    here : IsUnstopped old h.0
    here = still_next old e h.0 h.1 es new h.2 s.started h.3 h.4 still

    one : StepRefines old e h.0 h.1
    one = steps_refine old e h.0 h.1 sound h.3

    same : h.0.plan ≡ old.plan
    same = one.same_plan p s

    usable : IsUsable h.0.plan
    usable = subst IsUsable (sym same) sound

    next : Plain
    next = unwrap_or (step (meaning old.plan) p e) p

    go : (o : Option Plain) → step (meaning old.plan) p e ≡ o → (plain_slave (unwrap_or (step (meaning old.plan) p e) p) i).health ≢ Working → HadTrouble old (e ∷ es) new i
    go None q stops = absurd (stops (ap (λ x. (plain_slave (unwrap_or x p) i).health) q ∙ was))
    go (Some x) q stops = record {
      event = e;
      what = stopped (meaning old.plan) p e x i q was (λ z. stops (ap (λ y. (plain_slave (unwrap_or y p) i).health) q ∙ z));
      made = made_first old e h.0 es new h.2 (subst (IsStep old e h.0) (one.made_is p s here ∙ ap (λ o. is_some o) q) h.3) h.4;
      since = without_start es h.0 new h.2 _ usable (one.shown p s here) h.4 (still ∙ sym here);
    }
