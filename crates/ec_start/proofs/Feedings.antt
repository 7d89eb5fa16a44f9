-- The parts that a start-up feeds, one after the other.
use Rattle.std.proofs.Common.{◌≡◌, ◌≢◌, ℕ, zero, suc, ◌+◌, ◌-◌, ◌<◌, ◌≤◌, ◌==◌, List, [], ◌∷◌, length, drop, get_or, slice_get, All, Some, None, true, false, refl, sym, ap, subst, ◌∙◌, arith}
use Rattle.std.proofs.lemmas.Bool.{ne_eqb}
use Rattle.std.proofs.lemmas.List.Elements.{All-get_or}
use Rattle.ec_bits.proofs.AnyLaws.{if_true, if_false}
use Rattle.ec_link.specs.declared.plan.PartPlan.{PartPlan}
use Rattle.ec_link.specs.declared.plan.ExpectedCounters.{ExpectedCounters}
use Rattle.ec_link.specs.declared.plan.ExpectedCounters.TheVariants.{Lrw, Split}
use Rattle.ec_link.specs.Plan.{PlanState, predicted_of}
use Rattle.ec_start.specs.declared.action.Feed.{Feed}
use Rattle.ec_start.specs.Scripts.{is_hardware}
use Rattle.ec_start.specs.Feeding.{HardwareIsFed, feed_over, feeds_from, feeds_of}

pub plain_feeds : (p : PlanState) → is_hardware p.slaves ≡ false → feeds_of p ≡ []
unfolding feeds_of
plain_feeds p f = if_false (is_hardware p.slaves) (feeds_from p 0 p.parts) [] f

pub hardware_feeds : (p : PlanState) → is_hardware p.slaves ≡ true → feeds_of p ≡ feeds_from p 0 p.parts
unfolding feeds_of
hardware_feeds p t = if_true (is_hardware p.slaves) (feeds_from p 0 p.parts) [] t

pub hardware_is_fed : HardwareIsFed
hardware_is_fed p = record { plain = plain_feeds p; hardware = hardware_feeds p }

-- ---- part after part

dropped : (qs : List PartPlan) (n : ℕ) (q : PartPlan) → n < length qs → q ≡ get_or qs n q → drop n qs ≡ q ∷ drop (n + 1) qs
dropped [] n q l e = absurd (omega (arith, l))
dropped (r ∷ qs) zero q l e = ap (λ (x : PartPlan). x ∷ qs) (sym e)
dropped (r ∷ qs) (suc n) q l e = let z : suc n + 1 ≡ suc (n + 1) = omega arith in rw z (dropped qs n q (omega (arith, l)) e)

-- one without process bytes isn't fed
no_bytes : (b : ℕ) → b ≤ 0 → (b == 0) ≡ true
no_bytes zero l = refl
no_bytes (suc b) l = absurd (omega (arith, l))

some_bytes : (b : ℕ) → 0 < b → (b == 0) ≡ false
some_bytes b l = ne_eqb b 0 (λ e. omega (arith, e, l))

part_skipped : (p : PlanState) (ps : List PartPlan) (n left : ℕ) (q : PartPlan) → n < length ps → q ≡ get_or ps n q → q.bytes ≤ 0
    → slice_get (feeds_from p (n + 1) (drop (n + 1) ps)) left ≡ slice_get (feeds_from p n (drop n ps)) left
part_skipped p ps n left q l e none =
    sym (ap (λ (qs : List PartPlan). slice_get (feeds_from p n qs) left) (dropped ps n q l e)
    ∙ ap (λ (fs : List Feed). slice_get fs left) (if_true (q.bytes == 0) (feeds_from p (n + 1) (drop (n + 1) ps)) (feed_over q (predicted_of p n) ∷ feeds_from p (n + 1) (drop (n + 1) ps)) (no_bytes q.bytes none)))

part_is : (p : PlanState) (ps : List PartPlan) (n left : ℕ) (q : PartPlan) → n < length ps → q ≡ get_or ps n q → 0 < q.bytes
    → slice_get (feeds_from p n (drop n ps)) left ≡ slice_get (feed_over q (predicted_of p n) ∷ feeds_from p (n + 1) (drop (n + 1) ps)) left
part_is p ps n left q l e some =
    ap (λ (qs : List PartPlan). slice_get (feeds_from p n qs) left) (dropped ps n q l e)
    ∙ ap (λ (fs : List Feed). slice_get fs left) (if_false (q.bytes == 0) (feeds_from p (n + 1) (drop (n + 1) ps)) (feed_over q (predicted_of p n) ∷ feeds_from p (n + 1) (drop (n + 1) ps)) (some_bytes q.bytes some))

get_same : (ps : List PartPlan) (n : ℕ) (d e : PartPlan) → n < length ps → get_or ps n d ≡ get_or ps n e
get_same [] n d e l = absurd (omega (arith, l))
get_same (q ∷ ps) zero d e l = refl
get_same (q ∷ ps) (suc n) d e l = get_same ps n d e (omega (arith, l))

pub none_here : (p : PlanState) (ps : List PartPlan) (n left : ℕ) (d : PartPlan) → n < length ps → (get_or ps n d).bytes ≤ 0
    → slice_get (feeds_from p (n + 1) (drop (n + 1) ps)) left ≡ slice_get (feeds_from p n (drop n ps)) left
none_here p ps n left d l none = part_skipped p ps n left (get_or ps n d) l (get_same ps n d (get_or ps n d) l) none

part_here : (p : PlanState) (ps : List PartPlan) (n left : ℕ) (d : PartPlan) → n < length ps → 0 < (get_or ps n d).bytes → left ≡ 0
    → slice_get (feeds_from p n (drop n ps)) left ≡ Some (feed_over (get_or ps n d) (predicted_of p n))
part_here p ps n left d l some z = rw z (part_is p ps n 0 (get_or ps n d) l (get_same ps n d (get_or ps n d) l) some)

pub part_past : (p : PlanState) (ps : List PartPlan) (n left : ℕ) (d : PartPlan) → n < length ps → 0 < (get_or ps n d).bytes → left ≢ 0
    → slice_get (feeds_from p (n + 1) (drop (n + 1) ps)) (left - 1) ≡ slice_get (feeds_from p n (drop n ps)) left
part_past p ps n zero d l some more = absurd (more refl)
part_past p ps n (suc left) d l some more =
    let z : suc left - 1 ≡ left = omega arith in
    rw z (sym (part_is p ps n (suc left) (get_or ps n d) l (get_same ps n d (get_or ps n d) l) some))

none_there : (left : ℕ) → None ≡ slice_get {X = Feed} [] left
none_there zero = refl
none_there (suc left) = refl

nothing_left : (qs : List PartPlan) (n : ℕ) → length qs ≤ n → drop n qs ≡ []
nothing_left [] zero l = refl
nothing_left [] (suc n) l = refl
nothing_left (q ∷ qs) zero l = absurd (omega (arith, l))
nothing_left (q ∷ qs) (suc n) l = nothing_left qs n (omega (arith, l))

pub parts_end : (p : PlanState) (ps : List PartPlan) (n left : ℕ) → length ps ≤ n → None ≡ slice_get (feeds_from p n (drop n ps)) left
parts_end p ps n left l = none_there left ∙ sym (ap (λ (qs : List PartPlan). slice_get (feeds_from p n qs) left) (nothing_left ps n l))

-- the parts by another name
pub found_in : (p : PlanState) (ps : List PartPlan) (number : ℕ) → is_hardware p.slaves ≡ true → ps ≡ p.parts → slice_get (feeds_from p 0 ps) number ≡ slice_get (feeds_of p) number
found_in p ps number t e = ap (λ (qs : List PartPlan). slice_get (feeds_from p 0 qs) number) e ∙ sym (ap (λ (fs : List Feed). slice_get fs number) (hardware_feeds p t))

feed_few : (q : PartPlan) (e : ExpectedCounters) → q.bytes ≤ 1422 → (feed_over q e).bytes ≤ 1422
feed_few q (Lrw counter) l = l
feed_few q (Split write read) l = l

-- the feed that is found, and how many bytes it has
pub fed_here : (p : PlanState) (ps : List PartPlan) (n left : ℕ) (d : PartPlan) (f : Feed) (e : ExpectedCounters) → n < length ps → 0 < (get_or ps n d).bytes → left ≡ 0
    → f ≡ feed_over (get_or ps n d) e → e ≡ predicted_of p n → Some f ≡ slice_get (feeds_from p n (drop n ps)) left
fed_here p ps n left d f e l some z is counts = ap Some (is ∙ ap (feed_over (get_or ps n d)) counts) ∙ sym (part_here p ps n left d l some z)

pub few_here : (ps : List PartPlan) (n : ℕ) (d : PartPlan) (f : Feed) (e : ExpectedCounters) → n < length ps → 0 < (get_or ps n d).bytes → f ≡ feed_over (get_or ps n d) e
    → All (λ (k : PartPlan). k.bytes ≤ 1422) ps → f.bytes ≤ 1422
few_here ps n d f e l some is all = subst (λ (x : Feed). x.bytes ≤ 1422) (sym is) (feed_few (get_or ps n d) e (All-get_or (λ (k : PartPlan). k.bytes ≤ 1422) ps n d l all))
