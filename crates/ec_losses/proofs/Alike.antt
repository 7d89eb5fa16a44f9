-- Masters with the same open cycle, but for the bytes of its frames, and the payloads that they keep.
use Rattle.std.proofs.Common.{◌≡◌, ◌∙◌, ◌<◌, ℕ, List, [], ◌∷◌, length, Bool, true, false, Option, Some, None, refl, sym, ap, subst}
use Rattle.std.specs.Prelude.{get_or, set}
use Rattle.ec_frame.specs.Frame.{Payload}
use Rattle.ec_link.specs.Plan.{PlanState, part_at}
use Rattle.ec_cycle.specs.Closing.{ReturnedPart, inputs_closed, returned_part_of, report_of}
use Rattle.ec_cycle.specs.Master.{Answers, Begun, IsAnswer, IsTaken, MasterState, OpenCycle, closed, with_returned}
use Rattle.ec_losses.specs.Losses.{Keeps}

-- ---- one payload

some_same : (x y : OpenCycle) → Some x ≡ Some y → x ≡ y
some_same x y e = cc

-- what isn't kept changes nothing
pub left_same : (m : MasterState) (p : List ℕ) (x : MasterState) → IsTaken m p false x → x ≡ m
left_same m p x t =
    let none : (c : OpenCycle) (k : ℕ) (y : Payload) → IsAnswer m c p k y → ⊥ = λ c k y a. (let e : false ≡ true = (t.kept c k y a).0 in cc) in
    (t.foreign none).1

-- a payload has one outcome
pub one_outcome : (m : MasterState) (p : List ℕ) (b c : Bool) (x y : MasterState) → IsTaken m p b x → IsTaken m p c y → x ≡ y
one_outcome m p true c x y t u =
    let a = t.only refl in
    (t.kept a.cycle a.part a.frame a.answer).1 ∙ sym (u.kept a.cycle a.part a.frame a.answer).1
one_outcome m p false true x y t u =
    let a = u.only refl in
    let e : false ≡ true = (t.kept a.cycle a.part a.frame a.answer).0 in cc
one_outcome m p false false x y t u = left_same m p x t ∙ sym (left_same m p y u)

-- ---- payloads that are all kept

abbrev pub KeepsAll : MasterState → List (List ℕ) → MasterState → Type 0
KeepsAll m [] n = n ≡ m
KeepsAll m (p ∷ ps) n = (x : MasterState) × IsTaken m p true x × KeepsAll x ps n

pub keeps_all : (ps : List (List ℕ)) (m : MasterState) (kept : List (List ℕ)) (n : MasterState) → Keeps m ps kept n → KeepsAll m kept n
keeps_all [] m kept n (none, same) = subst (λ (ks : List (List ℕ)). KeepsAll m ks n) (sym none) same
keeps_all (p ∷ ps) m kept n (true, x, more, t, is, rest) = subst (λ (ks : List (List ℕ)). KeepsAll m ks n) (sym is) (x, t, keeps_all ps x more n rest)
keeps_all (p ∷ ps) m kept n (false, x, more, t, is, rest) =
    subst (λ (ks : List (List ℕ)). KeepsAll m ks n) (sym is) (subst (λ (y : MasterState). KeepsAll y more n) (left_same m p x t) (keeps_all ps x more n rest))

-- ---- masters alike

pub record AreAlike (m n : MasterState) : Type 0 where
  pub first : OpenCycle
  pub second : OpenCycle
  pub open_first : m.cycle ≡ Some first
  pub open_second : n.cycle ≡ Some second
  pub number : first.number ≡ second.number
  pub kept : first.kept ≡ second.kept
  pub rest : record m { cycle = None } ≡ record n { cycle = None }

pub begun_alike : (old m n : MasterState) (c d : OpenCycle) → Begun old m c → Begun old n d → AreAlike m n
begun_alike old m n c d g h = record {
  first = c;
  second = d;
  open_first = ap (λ (x : MasterState). x.cycle) g.is;
  open_second = ap (λ (x : MasterState). x.cycle) h.is;
  number = g.number ∙ sym h.number;
  kept = g.kept ∙ sym h.kept;
  rest = ap (λ (x : MasterState). record x { cycle = None }) g.is ∙ sym (ap (λ (x : MasterState). record x { cycle = None }) h.is);
}

same_plan : (m n : MasterState) → AreAlike m n → m.plan ≡ n.plan
same_plan m n a = ap (λ (x : MasterState). x.plan) a.rest

-- what answers a part of one answers it of the other
answers_both : (m n : MasterState) (a : AreAlike m n) (c : OpenCycle) (p : List ℕ) (k : ℕ) (y : Payload) → IsAnswer m c p k y → IsAnswer n a.second p k y
answers_both m n a c p k y h =
    let same : c ≡ a.first = some_same c a.first (sym h.is_open ∙ a.open_first) in
    let here : IsAnswer m a.first p k y = subst (λ (x : OpenCycle). IsAnswer m x p k y) same h in
    record {
      is_open = a.open_second;
      there = subst (λ (q : PlanState). k < length q.parts) (same_plan m n a) here.there;
      not_kept = ap (λ (ks : List (Option ReturnedPart)). get_or ks k None) (sym a.kept) ∙ here.not_kept;
      spelled = here.spelled;
      answers = subst (λ (i : ℕ). Answers n.plan i k y.datagrams) a.number (subst (λ (q : PlanState). Answers q a.first.number k y.datagrams) (same_plan m n a) here.answers);
    }

kept_alike : (m n x y : MasterState) (p : List ℕ) → AreAlike m n → IsTaken m p true x → IsTaken n p true y → AreAlike x y
kept_alike m n x y p a t u =
    let h = t.only refl in
    let k = h.part in
    let f = h.frame in
    let q = returned_part_of (part_at m.plan.parts k) f.datagrams in
    let same : h.cycle ≡ a.first = some_same h.cycle a.first (sym h.answer.is_open ∙ a.open_first) in
    let first_is : x ≡ with_returned m a.first k q = subst (λ (c : OpenCycle). x ≡ with_returned m c k q) same (t.kept h.cycle k f h.answer).1 in
    let second_is : y ≡ with_returned n a.second k q =
    subst (λ (plan : PlanState). y ≡ with_returned n a.second k (returned_part_of (part_at plan.parts k) f.datagrams)) (sym (same_plan m n a)) (u.kept a.second k f (answers_both m n a h.cycle p k f h.answer)).1 in
    record {
      first = record a.first { kept = set a.first.kept k (Some q) };
      second = record a.second { kept = set a.second.kept k (Some q) };
      open_first = ap (λ (z : MasterState). z.cycle) first_is;
      open_second = ap (λ (z : MasterState). z.cycle) second_is;
      number = a.number;
      kept = ap (λ (ks : List (Option ReturnedPart)). set ks k (Some q)) a.kept;
      rest = ap (λ (z : MasterState). record z { cycle = None }) first_is ∙ (a.rest ∙ sym (ap (λ (z : MasterState). record z { cycle = None }) second_is));
    }

pub all_alike : (kept : List (List ℕ)) (m n x y : MasterState) → AreAlike m n → KeepsAll m kept x → KeepsAll n kept y → AreAlike x y
all_alike [] m n x y a g h = subst (λ (z : MasterState). AreAlike z y) (sym g) (subst (λ (z : MasterState). AreAlike m z) (sym h) a)
all_alike (p ∷ ps) m n x y a (u, t, rest) (v, s, more) = all_alike ps u v x y (kept_alike m n u v p a t s) rest more

-- ---- both are closed

pub closed_alike : (m n : MasterState) (a : AreAlike m n) → closed m a.first ≡ closed n a.second
closed_alike m n a =
    ap (λ (z : MasterState). record z { inputs = inputs_closed z.plan a.first.kept z.inputs; cycle = None }) a.rest
    ∙ ap (λ (ks : List (Option ReturnedPart)). record n { inputs = inputs_closed n.plan ks n.inputs; cycle = None }) a.kept

pub reported_alike : (m n : MasterState) (a : AreAlike m n) → report_of m.plan a.first.kept ≡ report_of n.plan a.second.kept
reported_alike m n a = ap (λ (p : PlanState). report_of p a.first.kept) (same_plan m n a) ∙ ap (λ (ks : List (Option ReturnedPart)). report_of n.plan ks) a.kept

pub open_same : (o : Option OpenCycle) (c d : OpenCycle) → o ≡ Some c → o ≡ Some d → c ≡ d
open_same o c d e f = some_same c d (sym e ∙ f)
