-- A frame comes back to the master.
use Rattle.ec_world.proofs.Words.{ℕ, ◌^◌, ◌<◌, ◌≡◌, ◌==◌, ◌&&◌, Bool, true, false, Option, Some, None, refl, sym, ◌∙◌, ap, subst, inl, inr, arith, List, length, get_or, set, is_some, is_none, option_map, unwrap_or, length-set, get_or-set_same, get_or-set_other, cases_Bool, cases_eq, and_from, and_parts, eq-eqb, eqb-true, both_ways, length-map, map-set, if_true, if_false, Payload, one_payload, PlanState, part_at, IsUsable, ReturnedPart, returned_part_of, MasterState, OpenCycle, IsAnswer, IsTaken, Answers, name_of, with_returned, Plain, PlainFrame, Note, Cycle, progress_of, may_return, keeping, returning, WorldState, flight_progress, flight_at, Returns, Refines, CyclesRefine, CycleRefines, FrameRefines, KeptRefines, theres, there_too, none_some, some_same, same_progress, flight_pairs, returns_there, is_some-guarded, names_tell}
use Rattle.ec_world.proofs.Refinement.FrameEvents.{emptied_shows}
use Rattle.ec_world.proofs.Refinement.Close.{answers_own, kept_shows}
use Rattle.ec_world.proofs.Refinement.ApplicationEvents.{master_changed}

none_is : {X : Type 0} (o : Option X) → is_none o ≡ true → o ≡ None
none_is None e = refl
none_is (Some x) e = absurd (let z : false ≡ true = e in cc)

-- where one list has nothing, the other has nothing
none_too : {X Y : Type 0} (xs : List (Option X)) (ys : List (Option Y)) (i : ℕ) → theres xs ≡ theres ys → get_or xs i None ≡ None → get_or ys i None ≡ None
none_too {X} {Y} xs ys i e h = go (get_or ys i None) refl
  where
    go : (o : Option Y) → get_or ys i None ≡ o → get_or ys i None ≡ None
    go None q = q
    go (Some y) q = let z = there_too xs ys i y e q in absurd (none_some z.0 (sym h ∙ z.1))

-- the master after it, as far as a world shows it
pub record Returned (plan : PlanState) (old new : MasterState) (o : Option Cycle) : Type 0 where
  pub is_ready : new.is_ready ≡ old.is_ready
  pub same_plan : new.plan ≡ old.plan
  pub outputs : new.outputs ≡ old.outputs
  pub inputs : new.inputs ≡ old.inputs
  pub next : new.next ≡ old.next
  pub cycle : CyclesRefine plan new.cycle o

unchanged : (plan : PlanState) (old new : MasterState) (o : Option Cycle) → new ≡ old → CyclesRefine plan old.cycle o → Returned plan old new o
unchanged plan old new o e h = subst (λ (m : MasterState). Returned plan old m o) (sym e) (assumption h)

module _ (plan : PlanState) (old new : MasterState) (f : PlainFrame) (bytes : List ℕ) (is_accepted : Bool) (sound : IsUsable plan) (same_plan : old.plan ≡ plan)
    (shows : FrameRefines plan f bytes) (all : length f.notes ≡ length plan.slaves) (taken : IsTaken old bytes is_accepted new) where
  -- it is an answer of its cycle, while its part is not kept
  own_answer : (c : OpenCycle) → old.cycle ≡ Some c → f.number ≡ c.number → get_or c.kept f.part None ≡ None → IsAnswer old c bytes f.part shows.payload
  own_answer c is_open number none = record {
    is_open = is_open;
    there = subst (λ (p : PlanState). f.part < length p.parts) (sym same_plan) shows.shows.part_there;
    not_kept = none;
    spelled = shows.spelled;
    answers = subst (λ (p : PlanState). Answers p c.number f.part shows.payload.datagrams) (sym same_plan) (subst (λ (n : ℕ). Answers plan n f.part shows.payload.datagrams) number (answers_own plan f shows.payload.datagrams shows.shows));
  }

  -- an answer is of its cycle and its part
  pub answer_tells : (c : OpenCycle) (k : ℕ) (p : Payload) → c.number < 2 ^ 64 → IsAnswer old c bytes k p → (f.number ≡ c.number) × (f.part ≡ k)
  answer_tells c k p fits a =
      let same : p ≡ shows.payload = one_payload bytes p shows.payload a.spelled shows.spelled in
      let few : k < 2 ^ 16 = let x = a.there in let y = sound.few_parts in let z = ap (λ (x : PlanState). length x.parts) same_plan in omega arith in
      let few2 : f.part < 2 ^ 16 = let x = shows.shows.part_there in let y = sound.few_parts in omega arith in
      names_tell f.number c.number f.part k shows.shows.number_fits fits few2 few
      (sym (ap name_of shows.shows.is) ∙ (ap (λ (x : Payload). name_of x.datagrams) (sym same) ∙ a.answers.named))

  keeps : (c : OpenCycle) (q : Cycle) → old.cycle ≡ Some c → CycleRefines plan c q → f.number ≡ q.number → get_or q.kept f.part None ≡ None
      → Returned plan old new (Some (record q { kept = set q.kept f.part (Some f.notes) }))
  keeps c q is_open h number none =
      let answer = own_answer c is_open (number ∙ sym h.number) (none_too q.kept c.kept f.part (sym h.same_parts) none) in
      let kept = returned_part_of (part_at old.plan.parts f.part) shows.payload.datagrams in
      let e : new ≡ with_returned old c f.part kept = (taken.kept c f.part shows.payload answer).1 in
      let there : KeptRefines plan f.part f.notes kept = subst (λ (p : PlanState). KeptRefines plan f.part f.notes (returned_part_of (part_at p.parts f.part) shows.payload.datagrams)) (sym same_plan) (kept_shows plan f shows.payload.datagrams sound shows.shows all) in
      let inside : f.part < length c.kept = let x = h.each_part in let y = shows.shows.part_there in omega arith in
      let len : length q.kept ≡ length c.kept = sym (length-map q.kept (λ o. is_some o)) ∙ (ap length (sym h.same_parts) ∙ length-map c.kept (λ o. is_some o)) in
      let parts : (j : ℕ) (part : ReturnedPart) (notes : List Note) → get_or (set c.kept f.part (Some kept)) j None ≡ Some part → get_or (set q.kept f.part (Some f.notes)) j None ≡ Some notes → KeptRefines plan j notes part
      = λ j part notes a b. elim (cases_eq j f.part) [
        | inl same ↦
            let a2 : kept ≡ part = some_same kept part (sym (get_or-set_same c.kept f.part (Some kept) None inside) ∙ subst (λ (i : ℕ). get_or (set c.kept f.part (Some kept)) i None ≡ Some part) same a) in
            let b2 : f.notes ≡ notes = some_same f.notes notes (sym (get_or-set_same q.kept f.part (Some f.notes) None (omega arith)) ∙ subst (λ (i : ℕ). get_or (set q.kept f.part (Some f.notes)) i None ≡ Some notes) same b) in
            subst (λ (i : ℕ). KeptRefines plan i notes part) (sym same) (subst (λ (x : ReturnedPart). KeptRefines plan f.part notes x) a2 (subst (λ (ns : List Note). KeptRefines plan f.part ns kept) b2 there))
        | inr ne ↦ h.kept j part notes (sym (get_or-set_other c.kept f.part j (Some kept) None ne) ∙ a) (sym (get_or-set_other q.kept f.part j (Some f.notes) None ne) ∙ b)
      ] in
      let cycle : CycleRefines plan (record c { kept = set c.kept f.part (Some kept) }) (record q { kept = set q.kept f.part (Some f.notes) })
      = assumption (
        length-set c.kept f.part (Some kept) ∙ h.each_part,
        parts,
        map-set (λ o. is_some o) c.kept f.part (Some kept) ∙ (ap (λ bs. set bs f.part true) h.same_parts ∙ sym (map-set (λ o. is_some o) q.kept f.part (Some f.notes))),
      ) in
      subst (λ (m : MasterState). Returned plan old m (Some (record q { kept = set q.kept f.part (Some f.notes) }))) (sym e) (assumption cycle)

  -- nothing else is kept
  refuses : (c : OpenCycle) (q : Cycle) → old.cycle ≡ Some c → CycleRefines plan c q → ((f.number == q.number) && is_none (get_or q.kept f.part None)) ≡ false → new ≡ old
  refuses c q is_open h off = (taken.foreign (λ c2 k p a.
      let same : c ≡ c2 = some_same c c2 (sym is_open ∙ a.is_open) in
      let tells = answer_tells c2 k p (subst (λ (x : OpenCycle). x.number < 2 ^ 64) same (let x = h.number in let y = h.number_fits in omega arith)) a in
      let number : f.number ≡ q.number = tells.0 ∙ (ap (λ (x : OpenCycle). x.number) (sym same) ∙ h.number) in
      let none : get_or c.kept f.part None ≡ None = ap (λ (x : OpenCycle). get_or x.kept f.part None) same ∙ (ap (λ i. get_or c2.kept i None) tells.1 ∙ a.not_kept) in
      both_ways _ off (and_from _ _ (eq-eqb _ _ number) (ap is_none (none_too c.kept q.kept f.part h.same_parts none))))).1

  pub returned : (co : Option OpenCycle) (o : Option Cycle) → old.cycle ≡ co → CyclesRefine plan co o → Returned plan old new (option_map (keeping f) o)
  returned None None e h = unchanged plan old new None ((taken.foreign (λ c k p a. none_some c (sym e ∙ a.is_open))).1) (subst (λ (x : Option OpenCycle). CyclesRefine plan x None) (sym e) tt)
  returned (Some c) (Some q) e h = elim (cases_Bool ((f.number == q.number) && is_none (get_or q.kept f.part None))) [
    | inl on ↦
        let both = and_parts (f.number == q.number) (is_none (get_or q.kept f.part None)) on in
        subst (λ (x : Cycle). Returned plan old new (Some x)) (sym (if_true _ _ _ on)) (keeps c q e h (eqb-true f.number q.number both.0) (none_is _ both.1))
    | inr off ↦
        subst (λ (x : Cycle). Returned plan old new (Some x)) (sym (if_false _ _ _ off))
        (unchanged plan old new (Some q) (refuses c q e h off) (subst (λ (x : Option OpenCycle). CyclesRefine plan x (Some q)) (sym e) h))
  ]
  returned _ _ e h = absurd h

-- ---- the event

pub return_can : (w : WorldState) (p : Plain) (k : ℕ) → Refines w p → may_return (length w.slaves) (option_map flight_progress (flight_at w k)) ≡ may_return (length p.slaves) (option_map progress_of (get_or p.slots k None))
return_can w p k s = ap (λ n. may_return n (option_map flight_progress (flight_at w k))) (s.count ∙ sym s.plain_count) ∙ ap (may_return (length p.slaves)) (same_progress w.slots p.slots k s.progress)

abbrev returned_plain : Plain → ℕ → PlainFrame → Plain
returned_plain p k f = record p { cycle = option_map (keeping f) p.cycle; slots = set p.slots k None }

pub return_made : (w : WorldState) (p : Plain) (k : ℕ) → Refines w p → may_return (length w.slaves) (option_map flight_progress (flight_at w k)) ≡ is_some (returning p k)
return_made w p k s = return_can w p k s ∙ sym (is_some-guarded _ (returned_plain p k) (get_or p.slots k None) (returns_there (length p.slaves) progress_of (get_or p.slots k None)))

pub return_shows : (w : WorldState) (p : Plain) (k : ℕ) (w2 : WorldState) → IsUsable w.plan → Refines w p
    → may_return (length w.slaves) (option_map flight_progress (flight_at w k)) ≡ true → Returns w k w2 → Refines w2 (unwrap_or (returning p k) p)
return_shows w p k w2 sound s can returns =
    let x = returns.flight in
    let both = flight_pairs w.slots p.slots k x s.progress returns.there in
    let f = both.frame in
    let may : may_return (length p.slaves) (option_map progress_of (Some f)) ≡ true = ap (λ o. may_return (length p.slaves) (option_map progress_of o)) (sym both.there) ∙ (sym (return_can w p k s) ∙ can) in
    let all : length f.notes ≡ length w.plan.slaves = eqb-true (length f.notes) (length p.slaves) may ∙ s.plain_count in
    let made : returning p k ≡ Some (returned_plain p k f) = if_true _ _ _ (sym (return_can w p k s) ∙ can) ∙ ap (option_map (returned_plain p k)) both.there in
    let shows = s.frames k x f returns.there both.there in
    let back = returned w.plan w.master w2.master f x.bytes returns.is_accepted sound s.same_plan shows all returns.master w.master.cycle p.cycle refl s.cycle in
    subst (λ (y : WorldState). Refines y (unwrap_or (returning p k) p)) (sym returns.is) (subst (λ (o : Option Plain). Refines (record w { master = w2.master; slots = set w.slots k None }) (unwrap_or o p)) (sym made)
    (master_changed (record w { slots = set w.slots k None }) (record p { slots = set p.slots k None }) (returned_plain p k f) w2.master w.report w.got (emptied_shows w p k s) (back.is_ready ∙ s.is_ready)
    (back.same_plan ∙ s.same_plan) (back.outputs ∙ s.outputs) (back.inputs ∙ s.inputs) (back.next ∙ s.next) s.got back.cycle s.report))
