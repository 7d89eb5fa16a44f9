-- The script of a table advertised in full is the table's: no action looks at a face.
use Rattle.std.specs.Prelude.{◌≡◌, ℕ, zero, suc, ◌+◌, ◌==◌, List, [], ◌∷◌, ◌++◌, if◌then◌else◌}
use Rattle.std.proofs.Common.{refl, ap, ◌∙◌}
use Rattle.ec_al.specs.declared.state.State.TheVariants.{PreOp, SafeOp, Op}
use Rattle.ec_table.specs.Contents.{Contents}
use Rattle.ec_link.specs.declared.settings.SlavePlan.{SlavePlan}
use Rattle.ec_link.specs.declared.plan.PartPlan.{PartPlan}
use Rattle.ec_link.specs.declared.settings.Share.{Share}
use Rattle.ec_link.specs.Plan.{PlanState, plan_of, share_sum, write_share, read_share, lrw_share, predicted_of}
use Rattle.ec_link.specs.Sizes.{each_from}
use Rattle.ec_link.specs.AdvertisedFull.{with_face, with_faces}
use Rattle.ec_link.proofs.AdvertisedFull.{faces}
use Rattle.ec_start.specs.declared.action.Action.{Action}
use Rattle.ec_start.specs.declared.action.Action.TheVariants.{CountSlaves}
use Rattle.ec_start.specs.Scripts.{is_hardware, named, settled, identified, mailbox_set, raised, talked, mapped, each_slave, phases, script}
use Rattle.ec_start.specs.Feeding.{feeds_from, feeds_of}
use Rattle.ec_start.specs.Running.{type_of}
use Rattle.ec_start.specs.AdvertisedFull.{AdvertisedFullHasTheScript}

-- the slaves of a plan, from place n on, with their faces
abbrev faced : Contents → ℕ → List SlavePlan → List SlavePlan
faced t n ps = each_from (with_face t) n ps

-- what is done for each slave is the same where no face is looked at
each_same : (f : ℕ → SlavePlan → List Action) (t : Contents) (i n : ℕ) (ps : List SlavePlan) → ((i s : ℕ) (p : SlavePlan) → f i (with_face t s p) ≡ f i p) → each_slave f i (faced t n ps) ≡ each_slave f i ps
each_same f t i n [] h = refl
each_same f t i n (p ∷ ps) h =
    ap (λ (xs : List Action). xs ++ each_slave f (i + 1) (faced t (n + 1) ps)) (h i n p)
    ∙ ap (λ (xs : List Action). f i p ++ xs) (each_same f t (i + 1) (n + 1) ps h)

hardware_same : (t : Contents) (n : ℕ) (ps : List SlavePlan) → is_hardware (faced t n ps) ≡ is_hardware ps
hardware_same t n [] = refl
hardware_same t n (p ∷ ps) = refl

phases_same : (t : Contents) (n : ℕ) (ps : List SlavePlan) → phases (faced t n ps) ≡ phases ps
phases_same t n ps =
    let a = each_same named t 0 n ps (λ i s p. refl) in
    let b = each_same identified t 0 n ps (λ i s p. refl) in
    let c = each_same (λ i p. mailbox_set i p p.kind.mailbox) t 0 n ps (λ i s p. refl) in
    let d = each_same (raised PreOp) t 0 n ps (λ i s p. refl) in
    let e = each_same (λ i p. talked i p p.kind.mailbox) t 0 n ps (λ i s p. refl) in
    let f = each_same mapped t 0 n ps (λ i s p. refl) in
    let g = each_same (raised SafeOp) t 0 n ps (λ i s p. refl) in
    let h = each_same (raised Op) t 0 n ps (λ i s p. refl) in
    let s = each_same settled t 0 n ps (λ i s p. refl) in
    let o = hardware_same t n ps in
    rw (o, a, s, b, c, d, e, f, g, h) refl

script_same : (t : Contents) (n : ℕ) (ps : List SlavePlan) → script (faced t n ps) ≡ script ps
script_same t n [] = refl
script_same t n (p ∷ ps) = ap (λ (xs : List Action). CountSlaves ∷ xs) (phases_same t n (p ∷ ps))

device_same : (t : Contents) (n : ℕ) (ps : List SlavePlan) (slave : ℕ) → type_of (faced t n ps) slave ≡ type_of ps slave
device_same t n [] slave = refl
device_same t n (p ∷ ps) zero = refl
device_same t n (p ∷ ps) (suc slave) = device_same t (n + 1) ps slave

sum_same : (f : Share → ℕ) (t : Contents) (k n : ℕ) (ps : List SlavePlan) → share_sum f k (faced t n ps) ≡ share_sum f k ps
sum_same f t k n [] = refl
sum_same f t k n (p ∷ ps) = ap (λ (m : ℕ). (if p.share.part == k then f p.share else 0) + m) (sum_same f t k (n + 1) ps)

-- a part's counters look at no face
predicted_same : (t : Contents) (p : PlanState) (k : ℕ) → predicted_of (with_faces t p) k ≡ predicted_of p k
predicted_same t p k =
    let w = sum_same write_share t k 0 p.slaves in
    let r = sum_same read_share t k 0 p.slaves in
    let b = sum_same lrw_share t k 0 p.slaves in
    rw (w, r, b) refl

from_same : (t : Contents) (p : PlanState) (k : ℕ) (qs : List PartPlan) → feeds_from (with_faces t p) k qs ≡ feeds_from p k qs
from_same t p k [] = refl
from_same t p k (q ∷ qs) =
    let more = from_same t p (k + 1) qs in
    let same = predicted_same t p k in
    rw (more, same) refl

feeds_same : (t : Contents) (p : PlanState) → feeds_of (with_faces t p) ≡ feeds_of p
unfolding feeds_of
feeds_same t p =
    let o = hardware_same t 0 p.slaves in
    let all = from_same t p 0 p.parts in
    rw (o, all) refl

pub full_scripts : AdvertisedFullHasTheScript
full_scripts = record {
  feeds = λ t. ap feeds_of (faces.plan t) ∙ feeds_same t (plan_of t);
  script = λ t. ap (λ (p : PlanState). script p.slaves) (faces.plan t) ∙ script_same t 0 (plan_of t).slaves;
  devices = λ t slave. ap (λ (p : PlanState). type_of p.slaves slave) (faces.plan t) ∙ device_same t 0 (plan_of t).slaves slave;
}
