-- Runs that a watcher saw, one after the other.
use Rattle.std.proofs.Common.{◌≡◌, refl, sym, subst, List, [], ◌∷◌, ◌++◌, Bool, true, false}
use Rattle.ec_world.specs.declared.event.Event.{Event}
use Rattle.ec_world.specs.World.{WorldState, IsStep}
use Rattle.ec_simulation.specs.Observing.{ObservedAll, Observes}

observed-append : {S : Type 0} (observed : S → WorldState → Event → WorldState → S → Type 0) (es fs : List Event) (a b c : S) (w v u : WorldState)
    → ObservedAll observed a w es v b → ObservedAll observed b v fs u c → ObservedAll observed a w (es ++ fs) u c
observed-append observed [] fs a b c w v u first then =
    subst (λ x. ObservedAll observed x w fs u c) first.1 (subst (λ (x : WorldState). ObservedAll observed b x fs u c) first.0 then)
observed-append observed (e ∷ es) fs a b c w v u first then = (first.0, first.1, first.2, first.3, observed-append observed es fs first.1 b c first.0 v u first.4 then)

pub observes_none : {S : Type 0} (observed : S → WorldState → Event → WorldState → S → Type 0) (a : S) (w : WorldState) → Observes observed a w w a
observes_none observed a w = record { events = []; observed_all = (refl, refl) }

pub observes_then : {S : Type 0} (observed : S → WorldState → Event → WorldState → S → Type 0) (a b c : S) (w v u : WorldState) → Observes observed a w v b → Observes observed b v u c → Observes observed a w u c
observes_then observed a b c w v u first then = record { events = first.events ++ then.events; observed_all = observed-append observed first.events then.events a b c w v u first.observed_all then.observed_all }

pub observes_made : {S : Type 0} (observed : S → WorldState → Event → WorldState → S → Type 0) (a b : S) (w v : WorldState) (e : Event) (made : Bool) → IsStep w e v made
    → (made ≡ true → observed a w e v b) → (made ≡ false → b ≡ a) → Observes observed a w v b
observes_made observed a b w v e true step seen unseen = record { events = e ∷ []; observed_all = (v, b, step, seen refl, (refl, refl)) }
observes_made observed a b w v e false step seen unseen = record { events = []; observed_all = (step.refused refl, unseen refl) }

-- the same worlds in other words
pub observes_same : {S : Type 0} (observed : S → WorldState → Event → WorldState → S → Type 0) (a b c : S) (w v u : WorldState) → c ≡ b → u ≡ v → Observes observed a w v b → Observes observed a w u c
observes_same observed a b c w v u p q sees = subst (λ (x : WorldState). Observes observed a w x c) (sym q) (subst (λ x. Observes observed a w v x) (sym p) sees)
