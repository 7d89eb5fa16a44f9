-- A run without lines.
use Rattle.std.proofs.Common.{◌≡◌, ◌∙◌, inl, inr, ℕ, List, [], ◌∷◌, ◌++◌, map, Bool, true, false, refl, sym, ap, subst}
use Rattle.ec_slave.specs.State.{SlaveState}
use Rattle.ec_wire.specs.Wires.{Carries}
use Rattle.ec_live.specs.Cyclic.{cyclic_part}
use Rattle.ec_live.specs.Laws.{DropsNone, PassAll}
use Rattle.ec_live.specs.Living.{MeetsOne, Payload, RunState, Runs}
use Rattle.ec_live.specs.Meeting.{Meets}
use Rattle.ec_live.specs.State.{LiveState}
use Rattle.ec_live.proofs.Carrying.{carries_nothing, carries_then}

-- ---- payload after payload

-- what is known of the rest of a run
abbrev Rest : RunState → List (List ℕ) → RunState → Type 0
Rest s ps t = (answers : List (List ℕ)) × PassAll s.live.world.slaves ps t.live.world.slaves answers × Carries s.wire t.wire answers ps × (t.output ≡ s.output) × (t.left ≡ s.left)

true_false : (b : Bool) → b ≡ true → b ≡ false → ⊥
true_false true t f = let bad : true ≡ false = f in cc
true_false false t f = let bad : false ≡ true = t in cc

-- a payload, and the rest behind it
joined : (s mid t : RunState) (p : List ℕ) (ps : List (List ℕ)) (one : MeetsOne s p mid) (answers : List (List ℕ)) → Meets s.live p mid.live one.answers → DropsNone s.live.drops
    → PassAll mid.live.world.slaves ps t.live.world.slaves answers → PassAll s.live.world.slaves (p ∷ ps) t.live.world.slaves (one.answers ++ answers)
joined s mid t p ps one answers (inl refuses) none rest = inr (
  refuses.none,
  subst (λ (xs : List (List ℕ)). PassAll s.live.world.slaves ps t.live.world.slaves (xs ++ answers)) (sym refuses.silent)
      (subst (λ (l : LiveState). PassAll l.world.slaves ps t.live.world.slaves answers) refuses.is rest),
)
joined s mid t p ps one answers (inr (inl drops)) none rest =
    absurd (true_false _ drops.dropped (none (cyclic_part s.live.world.plan.parts drops.frame.datagrams)))
joined s mid t p ps one answers (inr (inr h)) none rest = inl (
  h.carried.passed,
  h.answer,
  answers,
  h.carried.ring,
  subst (λ (l : List SlaveState). PassAll l ps t.live.world.slaves answers) (ap (λ (l : LiveState). l.world.slaves) h.is ∙ ap (λ w. w.slaves) h.carried.is) rest,
  ap (λ (xs : List (List ℕ)). xs ++ answers) h.answered,
)

-- what is to be dropped stays
none_still : (s t : LiveState) (p : List ℕ) (answers : List (List ℕ)) → Meets s p t answers → DropsNone s.drops → DropsNone t.drops
none_still s t p answers (inl refuses) none = subst (λ (l : LiveState). DropsNone l.drops) (sym refuses.is) none
none_still s t p answers (inr (inl drops)) none = absurd (true_false _ drops.dropped (none (cyclic_part s.world.plan.parts drops.frame.datagrams)))
none_still s t p answers (inr (inr h)) none = subst (λ (l : LiveState). DropsNone l.drops) (sym h.is) none

pub payloads_alone : (s t : RunState) (payloads : List (List ℕ)) → Runs s (map Payload payloads) t → DropsNone s.live.drops
    → (answers : List (List ℕ)) × PassAll s.live.world.slaves payloads t.live.world.slaves answers × Carries s.wire t.wire answers payloads × (t.output ≡ s.output) × (t.left ≡ s.left)
payloads_alone s t [] same none = (
  [],
  (ap (λ (x : RunState). x.live.world.slaves) same, refl),
  carries_nothing s.wire t.wire (ap (λ (x : RunState). x.wire) same),
  ap (λ (x : RunState). x.output) same,
  ap (λ (x : RunState). x.left) same,
)
payloads_alone s t (p ∷ ps) (mid, one, rest) none = by (payloads_alone mid t ps rest (none_still s.live mid.live p one.answers one.meets none))
  where
    by : Rest mid ps t → Rest s (p ∷ ps) t
    by (answers, passes, carried, output, left) = (
      one.answers ++ answers,
      joined s mid t p ps one answers one.meets none passes,
      carries_then s.wire mid.wire t.wire one.answers (p ∷ []) answers ps one.carried carried,
      output ∙ ap (λ (x : RunState). x.output) one.is,
      left ∙ ap (λ (x : RunState). x.left) one.is,
    )
