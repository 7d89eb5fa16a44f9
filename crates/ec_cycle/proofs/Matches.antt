-- What `take` does, from what was compared.
use Rattle.std.proofs.Common.{ℕ, ◌<◌, ◌≤◌, ◌≡◌, ◌^◌, Bool, true, false, Option, Some, None, refl, sym, ◌∙◌, ap, subst, arith, List, [], ◌∷◌, length, map, get_or, set, slice_get, if◌then◌else◌, ◌==◌, ◌-◌, inl, inr, get_or-set_same, get_or-set_other}
use Rattle.std.proofs.lemmas.Bool.{cases_eq, eqb-true}
use Rattle.ec_bits.specs.Bits.{zeros}
use Rattle.ec_frame.specs.Building.{bare_payload}
use Rattle.ec_frame.specs.Datagram.{Datagram}
use Rattle.ec_frame.specs.Frame.{Payload, IsFrame}
use Rattle.ec_frame.proofs.FrameOrFault.{one_payload}
use Rattle.ec_link.specs.Plan.{PlanState, part_at}
use Rattle.ec_link.specs.declared.plan.PartPlan.{PartPlan}
use Rattle.ec_frame.specs.declared.command.Command.TheVariants.{Lrd, Lwr, Lrw}
use Rattle.ec_link.specs.Shares.{sum_of, lwr_count, lrd_count, lrw_count}
use Rattle.ec_cycle.specs.Frames.{name_datagram, status_datagram, process_datagram, process_bytes, returned_first, sent_datagrams}
use Rattle.ec_cycle.specs.Closing.{ReturnedPart, bytes_at, input_index, returned_part_of}
use Rattle.ec_cycle.specs.Interface.{MastersKeepTheirPlan}
use Rattle.ec_cycle.specs.Master.{MasterState, OpenCycle, Shape, shape, Answers, IsAnswer, IsTaken, with_returned}
use Rattle.ec_cycle.specs.Matching.{SameFrom, AnswersPart, Answered, Names}
use Rattle.ec_cycle.specs.MasterFields.{IsUnderWay}
use Rattle.ec_cycle.proofs.AnswersFrame.{answers_by_sent, sent_by_answers, length-returned_first}
use Rattle.ec_cycle.proofs.Comparing.{same_answers, answers_same, names_part, named_of}

-- ---- the data that holds the inputs is as long as the part

either_length : (b : Bool) (x y xs ys : List ℕ) → length x ≡ length y → length xs ≡ length ys → length (if b then x else xs) ≡ length (if b then y else ys)
either_length true x y xs ys e f = e
either_length false x y xs ys e f = f

pub bytes_alike : (ds es : List Datagram) (n : ℕ) → map shape ds ≡ map shape es → length (bytes_at ds n) ≡ length (bytes_at es n)
bytes_alike [] [] n e = refl
bytes_alike [] (y ∷ es) n e = absurd (cc)
bytes_alike (d ∷ ds) [] n e = absurd (cc)
bytes_alike (d ∷ ds) (y ∷ es) n e =
    let s : shape d ≡ shape y = cc in
    let ss : map shape ds ≡ map shape es = cc in
    either_length (n == 0) d.data_bytes y.data_bytes (bytes_at ds (n - 1)) (bytes_at es (n - 1)) (ap (λ (q : Shape). q.bytes) s) (bytes_alike ds es (n - 1) ss)

sent_size : (p : PlanState) (number k : ℕ) (image : List ℕ) → length (bytes_at (sent_datagrams p number k image) (input_index (part_at p.parts k).split)) ≡ (part_at p.parts k).bytes
sent_size p number k image = go ((part_at p.parts k).bytes == 0) (part_at p.parts k).split refl
  where
    part : PartPlan
    part = part_at p.parts k

    sent : List ℕ
    sent = process_bytes p k image

    go : (b y : Bool) → ((part_at p.parts k).bytes == 0) ≡ b
        → length (bytes_at (name_datagram number k ∷ status_datagram number 0 (zeros 2) ∷ (if b then [] else (if y
        then process_datagram Lwr number (part_at p.parts k).address (process_bytes p k image) (sum_of lwr_count []) ∷ process_datagram Lrd number (part_at p.parts k).address (returned_first (part_at p.parts k) (process_bytes p k image)) (sum_of lrd_count []) ∷ []
        else process_datagram Lrw number (part_at p.parts k).address (returned_first (part_at p.parts k) (process_bytes p k image)) (sum_of lrw_count []) ∷ []))) (if y then 3 else 2)) ≡ (part_at p.parts k).bytes
    go true true e = sym (eqb-true (part_at p.parts k).bytes 0 e)
    go true false e = sym (eqb-true (part_at p.parts k).bytes 0 e)
    go false true e = length-returned_first p k image
    go false false e = length-returned_first p k image

pub answer_size : (p : PlanState) (number k : ℕ) (ds : List Datagram) → Answers p number k ds → length (bytes_at ds (input_index (part_at p.parts k).split)) ≡ (part_at p.parts k).bytes
answer_size p number k ds h = bytes_alike ds (sent_datagrams p number k []) (input_index (part_at p.parts k).split) h.shapes ∙ sent_size p number k []

-- ---- what was compared, and what answers

pub part_answers : (p : PlanState) (number : ℕ) (frames : List (List ℕ)) (kept : List (Option ReturnedPart)) (k : ℕ) (ds : List Datagram) → IsUnderWay p number frames kept
    → length frames ≡ length p.parts → AnswersPart ds frames kept k → Answers p number k ds
part_answers p number frames kept k ds way count h =
    let there = h.there in
    let sent = way.sent k (omega arith) in
    let r = same_answers ds (sent_datagrams p number k sent.0) (h.same (bare_payload (sent_datagrams p number k sent.0)) sent.1) in
    answers_by_sent p number k sent.0 ds r.0 r.1 r.2

pub answers_part : (p : PlanState) (number : ℕ) (frames : List (List ℕ)) (kept : List (Option ReturnedPart)) (k : ℕ) (ds : List Datagram) → IsUnderWay p number frames kept
    → length frames ≡ length p.parts → length p.parts ≤ 32 → k < length p.parts → get_or kept k None ≡ None → Answers p number k ds → AnswersPart ds frames kept k
answers_part p number frames kept k ds way count few there none h =
    let sent = way.sent k there in
    let few_k : k < 2 ^ 16 = omega arith in
    record {
      there = omega arith;
      not_kept = none;
      named = named_of number k ds few_k h.named;
      same = λ q f.
          let r = sent_by_answers p number k sent.0 ds h in
          subst (λ (y : Payload). SameFrom 0 ds y.datagrams) (one_payload (get_or frames k []) (bare_payload (sent_datagrams p number k sent.0)) q sent.1 f) (answers_same ds (sent_datagrams p number k sent.0) r.0 r.1 r.2);
    }

pub open_state : MasterState → OpenCycle → MasterState
open_state m c = record m { cycle = Some c }

-- a payload that answers no part of the cycle
pub not_taken : (m : MasterState) (payload : List ℕ) → ((c : OpenCycle) (k : ℕ) (p : Payload) → IsAnswer m c payload k p → ⊥) → IsTaken m payload false m
not_taken m payload none = record {
  kept = λ c k p a. absurd (none c k p a);
  foreign = λ f. (refl, refl);
  only = λ e. absurd cc;
}

pub foreign : (m : MasterState) (c : OpenCycle) (payload : List ℕ) (p : Payload) → m.cycle ≡ Some c → IsFrame payload p → IsUnderWay m.plan c.number c.frames c.kept → length c.frames ≡ length m.plan.parts → length m.plan.parts ≤ 32
    → Answered p.datagrams c.frames c.kept None → IsTaken m payload false m
foreign m c payload p is spelled way count few none = record {
  kept = λ d k q h. absurd (no d k q h);
  foreign = λ f. (refl, refl);
  only = λ e. absurd cc;
}
  where
    no : (d : OpenCycle) (k : ℕ) (q : Payload) → IsAnswer m d payload k q → ⊥
    no d k q h =
        let same : d ≡ c = let x = h.is_open in cc in
        let this : q ≡ p = one_payload payload q p h.spelled spelled in
        let answer : Answers m.plan c.number k p.datagrams = subst (λ (y : Payload). Answers m.plan c.number k y.datagrams) this (subst (λ (y : OpenCycle). Answers m.plan y.number k q.datagrams) same h.answers) in
        let empty : get_or c.kept k None ≡ None = subst (λ (y : OpenCycle). get_or y.kept k None ≡ None) same h.not_kept in
        none k (answers_part m.plan c.number c.frames c.kept k p.datagrams way count few h.there empty answer)

-- one that answers part k
pub taken : (m : MasterState) (c : OpenCycle) (payload : List ℕ) (p : Payload) (k : ℕ) → m.cycle ≡ Some c → IsFrame payload p → IsUnderWay m.plan c.number c.frames c.kept → length c.frames ≡ length m.plan.parts → length m.plan.parts ≤ 32
    → AnswersPart p.datagrams c.frames c.kept k → IsTaken m payload true (with_returned m c k (returned_part_of (part_at m.plan.parts k) p.datagrams))
taken m c payload p k is spelled way count few h = record {
  kept = λ d j q a. (refl, told d j q a);
  foreign = λ f. absurd (f c k p answer);
  only = λ e. record { cycle = c; part = k; frame = p; answer = answer };
}
  where
    answer : IsAnswer m c payload k p
    answer = record { is_open = is; there = (let x = h.there in omega arith); not_kept = h.not_kept; spelled = spelled; answers = part_answers m.plan c.number c.frames c.kept k p.datagrams way count h }

    told : (d : OpenCycle) (j : ℕ) (q : Payload) → IsAnswer m d payload j q → with_returned m c k (returned_part_of (part_at m.plan.parts k) p.datagrams) ≡ with_returned m d j (returned_part_of (part_at m.plan.parts j) q.datagrams)
    told d j q a =
        let same : c ≡ d = let x = a.is_open in cc in
        let this : p ≡ q = one_payload payload p q spelled a.spelled in
        let there = a.there in
        let few_j : j < 2 ^ 16 = omega arith in
        let name : Some k ≡ Some j = names_part d.number j q.datagrams (Some k) few_j a.answers.named (subst (λ (y : Payload). Names (slice_get y.datagrams 0) (Some k)) this h.named) in
        let place : k ≡ j = cc in
        ap (λ (y : OpenCycle). with_returned m y k (returned_part_of (part_at m.plan.parts k) p.datagrams)) same
        ∙ (ap (λ (n : ℕ). with_returned m d n (returned_part_of (part_at m.plan.parts n) p.datagrams)) place
        ∙ ap (λ (y : Payload). with_returned m d j (returned_part_of (part_at m.plan.parts j) y.datagrams)) this)

-- what stays true of the cycle
pub kept_on : (p : PlanState) (number : ℕ) (frames : List (List ℕ)) (kept : List (Option ReturnedPart)) (k : ℕ) (ds : List Datagram) → IsUnderWay p number frames kept → length frames ≡ length p.parts → length kept ≡ length p.parts
    → AnswersPart ds frames kept k → IsUnderWay p number frames (set kept k (Some (returned_part_of (part_at p.parts k) ds)))
kept_on p number frames kept k ds way count kept_count h = record {
  small = way.small;
  sent = way.sent;
  sizes = λ j q e. elim (cases_eq j k) [
    | inl same ↦
        let there = h.there in
        let l : k < length kept = omega arith in
        let e2 : get_or (set kept k (Some (returned_part_of (part_at p.parts k) ds))) k None ≡ Some q = subst (λ (i : ℕ). get_or (set kept k (Some (returned_part_of (part_at p.parts k) ds))) i None ≡ Some q) same e in
        let is : Some (returned_part_of (part_at p.parts k) ds) ≡ Some q = sym (get_or-set_same kept k (Some (returned_part_of (part_at p.parts k) ds)) None l) ∙ e2 in
        let kept_is : returned_part_of (part_at p.parts k) ds ≡ q = cc in
        subst (λ (i : ℕ). length q.bytes ≡ (part_at p.parts i).bytes) (sym same) (subst (λ (y : ReturnedPart). length y.bytes ≡ (part_at p.parts k).bytes) kept_is (answer_size p number k ds (part_answers p number frames kept k ds way count h)))
    | inr ne ↦ way.sizes j q (sym (get_or-set_other kept k j (Some (returned_part_of (part_at p.parts k) ds)) None ne) ∙ e)
  ];
}

-- a master stays one of its plan
pub taken_plan : MastersKeepTheirPlan
taken_plan old new payload true h = let a = h.only refl in ap (λ (m : MasterState). m.plan) (h.kept a.cycle a.part a.frame a.answer).1
taken_plan old new payload false h = ap (λ (m : MasterState). m.plan) (h.foreign (λ c k p a. false_true (h.kept c k p a).0)).1
  where
    false_true : false ≡ true → ⊥
    false_true e = cc
