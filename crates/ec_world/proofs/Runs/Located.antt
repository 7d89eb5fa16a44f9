-- Where the frames of an open cycle are: kept, on their way, or lost in an event since the cycle began.
use Rattle.ec_world.proofs.Words.{ℕ, ◌<◌, ◌≡◌, ◌==◌, ◌&&◌, Option, Some, None, refl, sym, ◌∙◌, ap, subst, inl, inr, arith, List, [], ◌∷◌, ◌++◌, length, get_or, set, is_none, option_map, get_or-set_same, get_or-set_other, cases_Bool, cases_eq, and_from, eq-eqb, length-map, append_assoc, if_true, if_false, Meaning, Event, Begin, Lose, Plain, PlainFrame, Note, Cycle, step, run, frame_at, plain_slave, keeping, with_note, met_note, none_some, some_same, cycle_begun, some_or}
use Rattle.ec_world.proofs.Runs.Leaves.{mapped, guarded, Leaves, Stays, Begins, Moves, Loses, Returns, Closes, leaves, room_there}
use Rattle.ec_world.proofs.Runs.SnapshotsLaw.{run_tells, keeping_number, next_left, keeping_length}
use Rattle.ec_world.proofs.Cycles.TakenLaw.{IsAway, Away, moved_away, new_away}

-- the frame of part k was lost on the way
pub record LostAt (m : Meaning) (begun : Plain) (number : ℕ) (done : List Event) (k : ℕ) : Type 0 where
  pub before : List Event
  pub slot : ℕ
  pub behind : List Event
  pub split : done ≡ before ++ (Lose slot ∷ behind)
  pub next : Plain
  pub made : step m (run m begun before).plain (Lose slot) ≡ Some next
  pub frame : PlainFrame
  pub there : frame_at (run m begun before).plain slot ≡ Some frame
  pub is : IsAway number k frame

pub data Place (m : Meaning) (begun : Plain) (number : ℕ) (done : List Event) (slots : List (Option PlainFrame)) (kept : List (Option (List Note))) (k : ℕ) : Type 0 where
  IsReturned : (notes : List Note) → get_or kept k None ≡ Some notes → Place m begun number done slots kept k
  OnItsWay : Away number k slots → Place m begun number done slots kept k
  Lost : LostAt m begun number done k → Place m begun number done slots kept k

pub record Located (m : Meaning) (begun : Plain) (number : ℕ) (done : List Event) (p : Plain) : Type 0 where
  pub past : number < p.next
  pub each : (c : Cycle) → p.cycle ≡ Some c → c.number ≡ number → (k : ℕ) → k < length c.kept → Place m begun number done p.slots c.kept k

later_lost : (m : Meaning) (begun : Plain) (number : ℕ) (done : List Event) (e : Event) (k : ℕ) → LostAt m begun number done k → LostAt m begun number (done ++ (e ∷ [])) k
later_lost m begun number done e k h =
    let split : done ++ (e ∷ []) ≡ h.before ++ (Lose h.slot ∷ (h.behind ++ (e ∷ []))) = ap (λ (xs : List Event). xs ++ (e ∷ [])) h.split ∙ append_assoc h.before (Lose h.slot ∷ h.behind) (e ∷ []) in
    search (h, split)

later_place : (m : Meaning) (begun : Plain) (number : ℕ) (done : List Event) (e : Event) (slots : List (Option PlainFrame)) (kept : List (Option (List Note))) (k : ℕ)
    → Place m begun number done slots kept k → Place m begun number (done ++ (e ∷ [])) slots kept k
later_place m begun number done e slots kept k (IsReturned notes h) = IsReturned notes h
later_place m begun number done e slots kept k (OnItsWay a) = OnItsWay a
later_place m begun number done e slots kept k (Lost l) = Lost (later_lost m begun number done e k l)

still : (m : Meaning) (begun : Plain) (number : ℕ) (done : List Event) (e : Event) (p : Plain) → Located m begun number done p → Located m begun number (done ++ (e ∷ [])) p
still m begun number done e p h = record { past = h.past; each = λ c at own k l. later_place m begun number done e p.slots c.kept k (h.each c at own k l) }

-- what is kept stays kept as a frame comes back
kept_on : (g : PlainFrame) (c : Cycle) (k : ℕ) (notes : List Note) → k < length c.kept → get_or c.kept k None ≡ Some notes → (ns : List Note) × (get_or (keeping g c).kept k None ≡ Some ns)
kept_on g c k notes l e = elim (cases_Bool ((g.number == c.number) && is_none (get_or c.kept g.part None))) [
  | inr off ↦ (notes, ap (λ (x : Cycle). get_or x.kept k None) (if_false _ _ _ off) ∙ e)
  | inl on ↦ elim (cases_eq k g.part) [
    | inl same ↦ (g.notes, ap (λ (x : Cycle). get_or x.kept k None) (if_true _ _ _ on) ∙ (ap (λ (n : ℕ). get_or (set c.kept g.part (Some g.notes)) n None) same ∙ get_or-set_same c.kept g.part (Some g.notes) None (omega (arith, l, same))))
    | inr ne ↦ (notes, ap (λ (x : Cycle). get_or x.kept k None) (if_true _ _ _ on) ∙ (get_or-set_other c.kept g.part k (Some g.notes) None ne ∙ e))
  ]
]

-- and the frame of part k is kept as it comes back
kept_now : (g : PlainFrame) (c : Cycle) (k : ℕ) → k < length c.kept → g.number ≡ c.number → g.part ≡ k → (ns : List Note) × (get_or (keeping g c).kept k None ≡ Some ns)
kept_now g c k l num part = elim (cases_Bool (is_none (get_or c.kept g.part None))) [
  | inl free ↦ (g.notes, ap (λ (x : Cycle). get_or x.kept k None) (if_true _ _ _ (and_from (g.number == c.number) _ (eq-eqb _ _ num) free)) ∙ (ap (λ (n : ℕ). get_or (set c.kept g.part (Some g.notes)) n None) (sym part) ∙ get_or-set_same c.kept g.part (Some g.notes) None (omega (arith, l, part))))
  | inr full ↦ (let r = some_or (get_or c.kept g.part None) full in kept_on g c k r.0 l (ap (λ (n : ℕ). get_or c.kept n None) (sym part) ∙ r.1))
]

located_step : (m : Meaning) (begun : Plain) (number : ℕ) (done : List Event) (e : Event) (q : Plain)
    → step m (run m begun done).plain e ≡ Some q → Located m begun number done (run m begun done).plain → Located m begun number (done ++ (e ∷ [])) q
located_step m begun number done e q h c = record { past = omega (arith, c.past, next_left m p e q (leaves m p e q h)); each = by (leaves m p e q h) }
  where
    p : Plain
    p = (run m begun done).plain

    now : Located m begun number (done ++ (e ∷ [])) p
    now = still m begun number done e p c

    P : List (Option PlainFrame) → List (Option (List Note)) → ℕ → Type 0
    P slots kept k = Place m begun number (done ++ (e ∷ [])) slots kept k

    by : Leaves m p e q → (d : Cycle) → q.cycle ≡ Some d → d.number ≡ number → (k : ℕ) → k < length d.kept → P q.slots d.kept k
    by (Stays slots next cycle) d at own k l = subst (λ os. P os d.kept k) (sym slots) (now.each d (sym cycle ∙ at) own k l)
    by (Closes slots next cycle) d at own k l = absurd (none_some d (sym cycle ∙ at))
    by (Begins is_begin slots next cycle slaves room) d at own k l = absurd (let n = ap (λ (x : Cycle). x.number) (some_same _ d (sym cycle ∙ at)) in let x = c.past in omega (arith, x, n, own))
    by (Moves j g own there inside is) d at num k l = subst (λ os. P os d.kept k) (sym (ap (λ (z : Plain). z.slots) is)) (move d.kept k (now.each d (sym (ap (λ (z : Plain). z.cycle) is) ∙ at) num k l))
      where
        moved_on : PlainFrame
        moved_on = with_note g (met_note m (length g.notes) g (plain_slave p (length g.notes)))

        move : (kept : List (Option (List Note))) (k : ℕ) → P p.slots kept k → P (set p.slots j (Some moved_on)) kept k
        move kept k (IsReturned notes x) = IsReturned notes x
        move kept k (OnItsWay a) = OnItsWay (moved_away number k p.slots j g moved_on there refl refl a.slot a.frame a.there a.is)
        move kept k (Lost x) = Lost x
    by (Loses j own is) d at num k l = subst (λ os. P os d.kept k) (sym (ap (λ (z : Plain). z.slots) is)) (lose d.kept k (now.each d (sym (ap (λ (z : Plain). z.cycle) is) ∙ at) num k l))
      where
        lose : (kept : List (Option (List Note))) (k : ℕ) → P p.slots kept k → P (set p.slots j None) kept k
        lose kept k (IsReturned notes x) = IsReturned notes x
        lose kept k (Lost x) = Lost x
        lose kept k (OnItsWay a) = elim (cases_eq a.slot j) [
          | inr ne ↦ OnItsWay (record { slot = a.slot; frame = a.frame; there = get_or-set_other p.slots j a.slot None None ne ∙ a.there; is = a.is })
          | inl same ↦ Lost (record {
            before = done;
            slot = j;
            behind = [];
            split = ap (λ (x : Event). done ++ (x ∷ [])) own;
            next = q;
            made = subst (λ (x : Event). step m p x ≡ Some q) own h;
            frame = a.frame;
            there = ap (λ (n : ℕ). frame_at p n) (sym same) ∙ a.there;
            is = a.is;
          })
        ]
    by (Returns j g there is all) d at own k l = subst (λ os. P os d.kept k) (sym (ap (λ (z : Plain). z.slots) is)) (back d (sym (ap (λ (z : Plain). z.cycle) is) ∙ at) own k l)
      where
        come : (r : Cycle) (k : ℕ) → k < length r.kept → r.number ≡ number → P p.slots r.kept k → P (set p.slots j None) (keeping g r).kept k
        come r k l num (IsReturned notes x) = let y = kept_on g r k notes l x in IsReturned y.0 y.1
        come r k l num (Lost x) = Lost x
        come r k l num (OnItsWay a) = elim (cases_eq a.slot j) [
          | inr ne ↦ OnItsWay (record { slot = a.slot; frame = a.frame; there = get_or-set_other p.slots j a.slot None None ne ∙ a.there; is = a.is })
          | inl same ↦ (
              let one : a.frame ≡ g = some_same a.frame g (sym a.there ∙ (ap (λ (n : ℕ). frame_at p n) same ∙ there)) in
              let y = kept_now g r k l (sym (ap (λ (x : PlainFrame). x.number) one) ∙ (a.is.number_is ∙ sym num)) (sym (ap (λ (x : PlainFrame). x.part) one) ∙ a.is.part_is) in
              IsReturned y.0 y.1)
        ]

        back : (d : Cycle) → option_map (keeping g) p.cycle ≡ Some d → d.number ≡ number → (k : ℕ) → k < length d.kept → P (set p.slots j None) d.kept k
        back d at own k l =
            let r = mapped (keeping g) p.cycle d at in
            let num : r.value.number ≡ number = sym (keeping_number g r.value) ∙ (ap (λ (x : Cycle). x.number) r.is ∙ own) in
            let few : k < length r.value.kept = let x = keeping_length g r.value in let y = ap (λ (z : Cycle). length z.kept) r.is in omega (arith, l, x, y) in
            subst (λ (z : Cycle). P (set p.slots j None) z.kept k) r.is (come r.value k few num (now.each r.value r.there num k few))

located_begun : (m : Meaning) (p begun : Plain) → step m p Begin ≡ Some begun → Located m begun p.next [] begun
located_begun m p begun h = record {
  past = let next = ap (λ (x : Plain). x.next) is in omega (arith, next);
  each = λ d at own k l. OnItsWay (subst (λ (x : Plain). Away p.next k x.slots) is (
      let same = some_same _ d (ap (λ (x : Plain). x.cycle) is ∙ at) in
      let few : k < length m.parts = let n = ap (λ (x : Cycle). length x.kept) same in let z = length-map {A = ℕ} {B = Option (List Note)} m.parts (λ v. None) in omega (arith, l, n, z) in
      new_away m p k few (room_there m p begun h)));
}
  where
    is : cycle_begun m p ≡ begun
    is = guarded _ _ begun h

pub located : (m : Meaning) (p begun : Plain) (after : List Event) → step m p Begin ≡ Some begun → Located m begun p.next after (run m begun after).plain
located m p begun after h = run_tells (Located m begun p.next) m begun after
    (λ before behind e q is made r. located_step m begun p.next before e q made r)
    (λ before e r. still m begun p.next before e (run m begun before).plain r)
    (located_begun m p begun h)
