-- Of a plan without `hardware` a start-up takes as many frames as its script has actions.
use Rattle.std.proofs.Math.Nat.{div-le_self}
use Rattle.ec_bringup.proofs.Words.{ℕ, zero, suc, slice_get, ◌+◌, ◌*◌, ◌<◌, ◌≡◌, Bool, true, false, Option, Some, None, refl, ◌∙◌, ap, subst, arith, if◌then◌else◌, List, [], ◌∷◌, length, both_ways, is_some, has_some, SlaveState, Action, CountSlaves, AwaitInitState, AwaitCleanInit, AwaitState, AwaitFreeReply, is_fed, Feed, SlavePlan, plan_at, phases, script, begun, is_hardware, rising, turns, ArePlans, IsUpAndWorks, PlainUpLaw, Hardware, steps_slow, polls_more, frames_each, frames_behind, frames_up}
use Rattle.ec_bringup.specs.Fed.{AreFeedsOf, ArePredicted}
use Rattle.ec_bringup.proofs.AllSlaves.FramePasses.{IsInside}
use Rattle.ec_bringup.proofs.Script.Chained.{Chained, phases-chained}
use Rattle.ec_bringup.proofs.StartUp.ComesUpLaw.{comes-up}

no-feeds : (ps : List SlavePlan) → AreFeedsOf ps []
no-feeds ps = record { each = λ k f e. absurd (none k f e) }
  where
    none : (k : ℕ) (f : Feed) → slice_get [] k ≡ Some f → ⊥
    none zero f e = cc e
    none (suc k) f e = cc e

none-predicted : (ps : List SlavePlan) → is_hardware ps ≡ false → ArePredicted ps []
none-predicted ps plain = record { each = λ k f e. absurd (none k f e); all = λ i l h some. absurd (both_ways (is_hardware ps) plain h) }
  where
    none : (k : ℕ) (f : Feed) → slice_get [] k ≡ Some f → ⊥
    none zero f e = cc e
    none (suc k) f e = cc e

-- nothing is fed
one-each : (a : Action) → frames_each [] a ≡ 1
one-each a = by (is_fed a)
  where
    by : (b : Bool) → (if b then 0 + 1 else 1) ≡ 1
    by true = refl
    by false = refl

none-some : (o : Option Hardware) → is_some o ≡ false → o ≡ None
none-some None e = refl
none-some (Some h) e = absurd (both_ways true e refl)

none-slow : (o : Option Hardware) → is_some o ≡ false → steps_slow o ≡ 0
none-slow None e = refl
none-slow (Some h) e = absurd (both_ways true e refl)

module _ (ps : List SlavePlan) (ss : List SlaveState) (plain : (i : ℕ) → i < length ps → is_some (plan_at ps i).kind.hardware ≡ false) where
  -- each wait ends at the first poll
  first-poll : (n : ℕ) (p a : Action) → IsInside false (length ps) a → polls_more ps [] ss n p a ≡ 0
  first-poll n p AwaitInitState inside = absurd (both_ways false refl inside)
  first-poll n p (AwaitCleanInit t) inside = absurd (both_ways false refl inside.1)
  first-poll n p (AwaitFreeReply t b r) inside = absurd (both_ways false refl inside.1)
  first-poll n p (AwaitState t to) inside =
      let z = none-slow (plan_at ps t).kind.hardware (plain t inside) in
      let d = div-le_self (steps_slow (plan_at ps t).kind.hardware) (frames_each [] (AwaitState t to)) in
      omega (arith, z, d)
  first-poll n p _ inside = refl

  one-frame : (n : ℕ) (p a : Action) → IsInside false (length ps) a → (polls_more ps [] ss n p a + 1) * frames_each [] a ≡ 1
  one-frame n p a inside = ap (λ (k : ℕ). (k + 1) * frames_each [] a) (first-poll n p a inside) ∙ (ap (λ (k : ℕ). (0 + 1) * k) (one-each a))

  as-many : (n : ℕ) (p : Action) (xs : List Action) → Chained false (length ps) p xs → frames_behind ps [] ss n p xs ≡ n + length xs
  as-many n p [] h = let z : n ≡ n + 0 = omega arith in z
  as-many n p (a ∷ xs) h =
      let m : ℕ = (polls_more ps [] ss n p a + 1) * frames_each [] a in
      let one : m ≡ 1 = one-frame n p a h.1 in
      let rest : frames_behind ps [] ss (n + m) a xs ≡ n + m + length xs = as-many (n + m) a xs h.3 in
      omega (arith, one, rest)

-- of the whole script
frames-plain : (ps : List SlavePlan) (ss : List SlaveState) → ArePlans ps → is_hardware ps ≡ false → frames_up ps [] ss ≡ length (script ps)
frames-plain [] ss h plain = refl
frames-plain (p ∷ ps) ss h plain =
    let bare : (i : ℕ) → i < length (p ∷ ps) → is_some (plan_at (p ∷ ps) i).kind.hardware ≡ false = λ i l. h.alike i l ∙ plain in
    let c : Chained (is_hardware (p ∷ ps)) (length (p ∷ ps)) CountSlaves (phases (p ∷ ps))
    = phases-chained (p ∷ ps) (λ i l. record { reach = (h.complete i l).reach; numbered = (h.planned i l).numbered; alike = h.alike i l }) in
    let z : 1 + length (phases (p ∷ ps)) ≡ length (script (p ∷ ps)) = omega arith in
    as-many (p ∷ ps) ss bare 1 CountSlaves (phases (p ∷ ps)) (subst (λ (b : Bool). Chained b (length (p ∷ ps)) CountSlaves (phases (p ∷ ps))) plain c) ∙ z

pub plain_up : PlainUpLaw
plain_up ps plans plain from ss devices =
    let c = comes-up ps [] (record { plans = plans; feeds = no-feeds ps; predicted = none-predicted ps plain }) (record { each = λ i l e. absurd (both_ways (has_some (plan_at ps i).kind.init) (ap has_some ((plans.complete i l).plain (none-some (plan_at ps i).kind.hardware (plans.alike i l ∙ plain)))) e) }) from ss devices in
    let e : frames_up ps [] ss ≡ length (script ps) = frames-plain ps ss plans plain in (
      subst (λ (n : ℕ). IsUpAndWorks ps (from + n) (turns n (rising (begun ps [] from) ss))) e c.0,
      λ k l. c.1 k (omega (arith, l, e)),
    )
