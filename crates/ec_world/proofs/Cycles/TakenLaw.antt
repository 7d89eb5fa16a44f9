-- A cycle that is quiet for a unit takes it: its frames note whole shares, and each of its parts is kept or still on its way.
use Rattle.ec_world.proofs.Words.{ℕ, zero, suc, ◌+◌, ◌<◌, ◌≤◌, ◌≡◌, ◌≢◌, ◌⊎◌, ◌==◌, ◌&&◌, ◌||◌, Bool, true, false, Option, Some, None, refl, sym, ◌∙◌, ap, subst, inl, inr, arith, List, [], ◌∷◌, ◌++◌, length, get_or, set, is_none, if◌then◌else◌, option_map, get_or-set_same, get_or-set_other, length-set, list_all, list_any, cases_Bool, cases_eq, and_parts, and_from, eqb-true, eq-eqb, le-leb, true≢false, length-map, length_push, if_true, if_false, Meaning, share_of, has_outs, has_ins, unit_of_part, nones, all_from, Event, Lose, Fault, ResetSlave, Plain, PlainSlave, PlainFrame, Faulted, Reset, Note, Short, Cycle, step, run, frame_at, plain_slave, keeping, filled, new_frames, met_note, is_full, all_full, IsBegun, FallsShort, TakenLaw, unit_of_slave, holds_of_unit, still_comes, is_awaited, disturbs, none_some, some_same, cycle_begun, none_in, some_or, list_any_at, list_all-append, within_of}
use Rattle.ec_world.proofs.Runs.Leaves.{mapped, guarded, Leaves, Stays, Begins, Moves, Loses, Returns, Closes, leaves, room_there}
use Rattle.ec_world.proofs.Runs.SnapshotsLaw.{run_tells, begun_below, filled_has, filled_holds, new_one, new_at, as_many, set_at, keeping_number, count_kept, frames_left, next_left, passed_on, Rests, HasFailed, HasRestarted, became}
use Rattle.ec_world.proofs.Cycles.InputsLaw.{notes_law}

-- ---- frames on their way

-- the frame of part k of the cycle with this number
pub record IsAway (number k : ℕ) (f : PlainFrame) : Type 0 where
  pub number_is : f.number ≡ number
  pub part_is : f.part ≡ k

-- it is in a slot
pub record Away (number k : ℕ) (slots : List (Option PlainFrame)) : Type 0 where
  pub slot : ℕ
  pub frame : PlainFrame
  pub there : get_or slots slot None ≡ Some frame
  pub is : IsAway number k frame

-- part k is kept, or on its way
abbrev IsSomewhere : ℕ → List (Option PlainFrame) → Cycle → ℕ → Type 0
IsSomewhere number slots c k = ((notes : List Note) × (get_or c.kept k None ≡ Some notes)) ⊎ Away number k slots

pub moved_is : (number k : ℕ) (g y : PlainFrame) → y.number ≡ g.number → y.part ≡ g.part → IsAway number k g → IsAway number k y
moved_is number k g y num part a = record { number_is = num ∙ a.number_is; part_is = part ∙ a.part_is }

-- a frame that moved on is still away
pub moved_away : (number k : ℕ) (os : List (Option PlainFrame)) (j : ℕ) (g y : PlainFrame) → get_or os j None ≡ Some g → y.number ≡ g.number → y.part ≡ g.part
    → (i : ℕ) (f : PlainFrame) → get_or os i None ≡ Some f → IsAway number k f → Away number k (set os j (Some y))
moved_away number k [] j g y at num part i f there a = absurd (none_some f there)
moved_away number k (o ∷ os) zero g y at num part zero f there a =
    record { slot = 0; frame = y; there = refl; is = moved_is number k g y num part (subst (IsAway number k) (sym (some_same g f (sym at ∙ there))) a) }
moved_away number k (o ∷ os) zero g y at num part (suc i) f there a = record { slot = suc i; frame = f; there = there; is = a }
moved_away number k (o ∷ os) (suc j) g y at num part zero f there a = record { slot = 0; frame = f; there = there; is = a }
moved_away number k (o ∷ os) (suc j) g y at num part (suc i) f there a =
    let r = moved_away number k os j g y at num part i f there a in
    record { slot = suc r.slot; frame = r.frame; there = r.there; is = r.is }

-- the frame of part k, as its cycle begins
pub new_away : (m : Meaning) (p : Plain) (k : ℕ) → k < length m.parts → length m.parts ≤ nones p.slots → Away p.next k (filled (new_frames p.next p.outputs 0 m.parts) p.slots)
new_away m p k l room =
    let r = filled_holds (new_frames p.next p.outputs 0 m.parts) p.slots k _ (omega (arith, room, as_many p.next 0 p.outputs m.parts)) (new_at p.next 0 p.outputs m.parts k l) in
    record { slot = r.0; frame = _; there = r.1; is = record { number_is = refl; part_is = omega arith } }

-- another frame's slot becoming free leaves it away
pub left_away : (number k : ℕ) (os : List (Option PlainFrame)) (j : ℕ) → ((f : PlainFrame) → get_or os j None ≡ Some f → IsAway number k f → ⊥) → Away number k os → Away number k (set os j None)
left_away number k os j ne a = record {
  slot = a.slot;
  frame = a.frame;
  there = get_or-set_other os j a.slot None None (λ z. ne a.frame (ap (λ (n : ℕ). get_or os n None) (sym z) ∙ a.there) a.is) ∙ a.there;
  is = a.is;
}

-- ---- slaves that fall short

-- it goes by the slave's health
pub short_alike : (m : Meaning) (s : ℕ) (q r : PlainSlave) → r.health ≡ q.health → FallsShort m s r → FallsShort m s q
short_alike m s q r same (inl x) = inl (sym same ∙ x.0, x.1)
short_alike m s q r same (inr x) = inr (sym same ∙ x.0, x.1)

faulted_short : (m : Meaning) (s : ℕ) (q : PlainSlave) → q.health ≡ Faulted → FallsShort m s q → has_outs (share_of m s) ≡ true
faulted_short m s q is (inl x) = absurd (let z : Faulted ≡ Reset = sym is ∙ x.0 in cc)
faulted_short m s q is (inr x) = x.1

reset_short : (m : Meaning) (s : ℕ) (q : PlainSlave) → q.health ≡ Reset → FallsShort m s q → (has_outs (share_of m s) || has_ins (share_of m s)) ≡ true
reset_short m s q is (inl x) = x.1
reset_short m s q is (inr x) = absurd (let z : Reset ≡ Faulted = sym is ∙ x.0 in cc)

-- a slave that falls short after an event did so before, or the event made it
data ComesShort (m : Meaning) (e : Event) (s : ℕ) (old : PlainSlave) : Type 0 where
  Before : FallsShort m s old → ComesShort m e s old
  ByFault : e ≡ Fault s → has_outs (share_of m s) ≡ true → ComesShort m e s old
  ByReset : e ≡ ResetSlave s → (has_outs (share_of m s) || has_ins (share_of m s)) ≡ true → ComesShort m e s old

comes_short : (m : Meaning) (p : Plain) (e : Event) (q : Plain) (s : ℕ) → step m p e ≡ Some q → FallsShort m s (plain_slave q s) → ComesShort m e s (plain_slave p s)
comes_short m p e q s h short = elim (became m p e q s h) [
  | Rests same ↦ Before (short_alike m s (plain_slave p s) (plain_slave q s) same short)
  | HasFailed is now was ↦ ByFault is (faulted_short m s (plain_slave q s) now short)
  | HasRestarted is now ↦ ByReset is (reset_short m s (plain_slave q s) now short)
]

full_note : (n : Note) → (n ≡ Short → ⊥) → is_full n ≡ true
full_note Short h = absurd (h refl)
full_note _ h = refl

-- a slave that doesn't fall short gives its whole share
whole_full : (m : Meaning) (s : ℕ) (f : PlainFrame) (q : PlainSlave) → ((share_of m s).part ≡ f.part → FallsShort m s q → ⊥) → is_full (met_note m s f q) ≡ true
whole_full m s f q whole = full_note (met_note m s f q) (λ e. let r = (notes_law m s f q).short e in whole r.0 r.1)

-- ---- a frame that is awaited

any_at : {X : Type 0} (t : Option X → Bool) (os : List (Option X)) (k : ℕ) (x : X) → get_or os k None ≡ Some x → t (Some x) ≡ true → list_any t os ≡ true
any_at t os k x e h = list_any_at t os k None (within_of os k x e) (ap t e ∙ h)

awaited : (m : Meaning) (number s : ℕ) (p : Plain) (k : ℕ) (f : PlainFrame) → frame_at p k ≡ Some f → f.number ≡ number → (share_of m s).part ≡ f.part → length f.notes ≤ s → is_awaited m number s p ≡ true
awaited m number s p k f at num part le = any_at (still_comes m number s) p.slots k f at
    (and_from _ _ (eq-eqb f.number number num) (and_from _ _ (eq-eqb f.part (share_of m s).part (sym part)) (le-leb _ _ le)))

-- the slaves of its part that the frame has still to pass give their whole shares
abbrev IsAhead : Meaning → Plain → PlainFrame → Type 0
IsAhead m p f = (s : ℕ) → length f.notes ≤ s → s < length p.slaves → (share_of m s).part ≡ f.part → FallsShort m s (plain_slave p s) → ⊥

-- ---- a unit while nothing disturbs it

all_push : (ns : List Note) (n : Note) → list_all is_full ns ≡ true → is_full n ≡ true → list_all is_full (ns ++ (n ∷ [])) ≡ true
all_push ns n h e = list_all-append is_full ns (n ∷ []) ∙ and_from (list_all is_full ns) _ h (and_from (is_full n) true e refl)

-- what is kept of the unit's parts is full, and each of them is kept or on its way
pub record Complete (m : Meaning) (number u : ℕ) (slots : List (Option PlainFrame)) (c : Cycle) : Type 0 where
  pub full : (k : ℕ) (notes : List Note) → get_or c.kept k None ≡ Some notes → unit_of_part m k ≡ u → list_all is_full notes ≡ true
  pub each : (k : ℕ) → k < length c.kept → unit_of_part m k ≡ u → IsSomewhere number slots c k

pub record Peaceful (m : Meaning) (number u : ℕ) (p : Plain) : Type 0 where
  pub past : number < p.next
  pub ahead : (k : ℕ) (f : PlainFrame) → frame_at p k ≡ Some f → f.number ≡ number → unit_of_part m f.part ≡ u → IsAhead m p f
  pub full : (k : ℕ) (f : PlainFrame) → frame_at p k ≡ Some f → f.number ≡ number → unit_of_part m f.part ≡ u → list_all is_full f.notes ≡ true
  pub cycle : (c : Cycle) → p.cycle ≡ Some c → c.number ≡ number → Complete m number u p.slots c

-- the slots may change where no part of the unit gets lost
still : (m : Meaning) (number u : ℕ) (os us : List (Option PlainFrame)) (c : Cycle) → ((k : ℕ) → unit_of_part m k ≡ u → Away number k os → Away number k us) → Complete m number u os c → Complete m number u us c
still m number u os us c move h = record {
  full = h.full;
  each = λ k l mine. elim (h.each k l mine) [
    | inl kept ↦ inl kept
    | inr away ↦ inr (move k mine away)
  ];
}

-- a frame comes back to its own cycle
kept_more : (m : Meaning) (number u : ℕ) (os : List (Option PlainFrame)) (j : ℕ) (g : PlainFrame) (c : Cycle) → get_or os j None ≡ Some g
    → (g.number ≡ number → unit_of_part m g.part ≡ u → list_all is_full g.notes ≡ true) → c.number ≡ number → Complete m number u os c → Complete m number u (set os j None) (keeping g c)
kept_more m number u os j g c at full own h = elim (cases_Bool ((g.number == c.number) && is_none (get_or c.kept g.part None))) as (λ _. Complete m number u (set os j None) (keeping g c)) [
  | inl on ↦ subst (Complete m number u (set os j None)) (sym (if_true _ _ _ on)) (taken (eqb-true _ _ (and_parts (g.number == c.number) _ on).0 ∙ own))
  | inr off ↦ subst (Complete m number u (set os j None)) (sym (if_false _ _ _ off)) (foreign off)
]
  where
    -- another frame's slot
    other : (k : ℕ) → (IsAway number k g → ⊥) → Away number k os → Away number k (set os j None)
    other k ne a = left_away number k os j (λ f there is. ne (subst (IsAway number k) (some_same f g (sym there ∙ at)) is)) a

    taken : g.number ≡ number → Complete m number u (set os j None) (record c { kept = set c.kept g.part (Some g.notes) })
    taken num = record {
      full = set_at (λ k ns. unit_of_part m k ≡ u → list_all is_full ns ≡ true) c.kept g.part g.notes (full num) h.full;
      each = λ k l mine. one k (omega (arith, l, length-set c.kept g.part (Some g.notes))) mine (cases_eq k g.part);
    }
      where
        one : (k : ℕ) → k < length c.kept → unit_of_part m k ≡ u → (k ≡ g.part) ⊎ (k ≢ g.part) → IsSomewhere number (set os j None) (record c { kept = set c.kept g.part (Some g.notes) }) k
        one k l mine (inl same) = inl (g.notes, ap (λ (n : ℕ). get_or (set c.kept g.part (Some g.notes)) n None) same ∙ get_or-set_same c.kept g.part (Some g.notes) None (omega (arith, l, same)))
        one k l mine (inr ne) = elim (h.each k l mine) [
          | inl kept ↦ inl (kept.0, get_or-set_other c.kept g.part k (Some g.notes) None ne ∙ kept.1)
          | inr away ↦ inr (other k (λ a. ne (sym a.part_is)) away)
        ]

    foreign : ((g.number == c.number) && is_none (get_or c.kept g.part None)) ≡ false → Complete m number u (set os j None) c
    foreign off = record {
      full = h.full;
      each = λ k l mine. one k l mine (cases_eq k g.part);
    }
      where
        kept_there : g.number ≡ number → (notes : List Note) × (get_or c.kept g.part None ≡ Some notes)
        kept_there num = some_or (get_or c.kept g.part None) (sym (ap (λ (b : Bool). b && is_none (get_or c.kept g.part None)) (eq-eqb g.number c.number (num ∙ sym own))) ∙ off)

        by_away : (k : ℕ) → k < length c.kept → unit_of_part m k ≡ u → (IsAway number k g → ⊥) → IsSomewhere number (set os j None) c k
        by_away k l mine ne = elim (h.each k l mine) [
          | inl kept ↦ inl kept
          | inr away ↦ inr (other k ne away)
        ]

        one : (k : ℕ) → k < length c.kept → unit_of_part m k ≡ u → (k ≡ g.part) ⊎ (k ≢ g.part) → IsSomewhere number (set os j None) c k
        one k l mine (inr ne) = by_away k l mine (λ a. ne (sym a.part_is))
        one k l mine (inl same) = elim (cases_eq g.number number) [
          | inl num ↦ let r = kept_there num in inl (r.0, ap (λ (n : ℕ). get_or c.kept n None) same ∙ r.1)
          | inr foreign_number ↦ by_away k l mine (λ a. foreign_number a.number_is)
        ]

peaceful_step : (m : Meaning) (number u : ℕ) (p : Plain) (e : Event) (q : Plain) → disturbs m number u p e ≡ false → step m p e ≡ Some q → Peaceful m number u p → Peaceful m number u q
peaceful_step m number u p e q ok h c = record {
  past = omega (arith, c.past, next_left m p e q l);
  ahead = frames_left m p e q l A (λ g is next new own. absurd (omega (arith, new.number_is, c.past, own)))
      (λ j g is there inside num mine s le. later j g there num mine s (let more = length_push g.notes (met_note m (length g.notes) g (plain_slave p (length g.notes))) in omega (arith, le, more))) later;
  full = frames_left m p e q l R (λ g is next new own mine. ap (list_all is_full) new.notes)
      (λ j g is there inside num mine. all_push g.notes _ (c.full j g there num mine) (whole_full m (length g.notes) g (plain_slave p (length g.notes)) (c.ahead j g there num mine (length g.notes) (omega arith) inside))) c.full;
  cycle = by l;
}
  where
    l : Leaves m p e q
    l = leaves m p e q h

    R : PlainFrame → Type 0
    R f = f.number ≡ number → unit_of_part m f.part ≡ u → list_all is_full f.notes ≡ true

    quiet : (x : Event) → e ≡ x → disturbs m number u p x ≡ true → ⊥
    quiet x same bad = true≢false (sym bad ∙ (ap (disturbs m number u p) (sym same) ∙ ok))

    -- no slave came to fall short before a frame that was there
    A : PlainFrame → Type 0
    A f = f.number ≡ number → unit_of_part m f.part ≡ u → IsAhead m q f

    later : (k : ℕ) (f : PlainFrame) → frame_at p k ≡ Some f → A f
    later k f at num mine s le l part short = one (comes_short m p e q s h short)
      where
        inside : s < length p.slaves
        inside = let n = count_kept m p e q h in omega (arith, l, n)

        unit : (unit_of_slave m s == u) ≡ true
        unit = eq-eqb (unit_of_slave m s) u (ap (unit_of_part m) part ∙ mine)

        here : is_awaited m number s p ≡ true
        here = awaited m number s p k f at num part le

        one : ComesShort m e s (plain_slave p s) → ⊥
        one (Before old) = c.ahead k f at num mine s le inside part old
        one (ByFault is outs) = quiet (Fault s) is (and_from _ _ unit (and_from _ _ outs here))
        one (ByReset is bits) = quiet (ResetSlave s) is (and_from _ _ unit (and_from _ _ bits here))

    by : Leaves m p e q → (d : Cycle) → q.cycle ≡ Some d → d.number ≡ number → Complete m number u q.slots d
    by (Stays slots next cycle) d is own = subst (λ os. Complete m number u os d) (sym slots) (c.cycle d (sym cycle ∙ is) own)
    by (Closes slots next cycle) d is own = absurd (none_some d (sym cycle ∙ is))
    by (Begins is_begin slots next cycle slaves room) d is own = absurd (let n = ap (λ (x : Cycle). x.number) (some_same _ d (sym cycle ∙ is)) in let x = c.past in omega (arith, x, n, own))
    by (Moves j g own there inside is) d at num = subst (λ os. Complete m number u os d) (sym (ap (λ (z : Plain). z.slots) is))
        (still m number u p.slots (set p.slots j (Some (passed_on m p g))) d (λ k mine a. moved_away number k p.slots j g (passed_on m p g) there refl refl a.slot a.frame a.there a.is)
        (c.cycle d (sym (ap (λ (z : Plain). z.cycle) is) ∙ at) num))
    by (Loses j own is) d at num = subst (λ os. Complete m number u os d) (sym (ap (λ (z : Plain). z.slots) is))
        (still m number u p.slots (set p.slots j None) d (λ k mine a. left_away number k p.slots j (λ f there away. lost k f mine there away) a)
        (c.cycle d (sym (ap (λ (z : Plain). z.cycle) is) ∙ at) num))
      where
        lost : (k : ℕ) (f : PlainFrame) → unit_of_part m k ≡ u → frame_at p j ≡ Some f → IsAway number k f → ⊥
        lost k f mine there away =
            quiet (Lose j) own (ap (holds_of_unit m number u) there ∙ and_from _ _ (eq-eqb f.number number away.number_is) (eq-eqb (unit_of_part m f.part) u (ap (unit_of_part m) away.part_is ∙ mine)))
    by (Returns j g there is all) d at own = subst (λ os. Complete m number u os d) (sym (ap (λ (z : Plain). z.slots) is)) (back d (sym (ap (λ (z : Plain). z.cycle) is) ∙ at) own)
      where
        back : (d : Cycle) → option_map (keeping g) p.cycle ≡ Some d → d.number ≡ number → Complete m number u (set p.slots j None) d
        back d at own =
            let r = mapped (keeping g) p.cycle d at in
            let num : r.value.number ≡ number = sym (keeping_number g r.value) ∙ (ap (λ (x : Cycle). x.number) r.is ∙ own) in
            subst (Complete m number u (set p.slots j None)) r.is (kept_more m number u p.slots j g r.value there (c.full j g there) num (c.cycle r.value r.there num))

peaceful_begun : (m : Meaning) (p begun : Plain) (u : ℕ) → IsBegun m p begun → ((s : ℕ) → s < length p.slaves → unit_of_slave m s ≡ u → FallsShort m s (plain_slave p s) → ⊥) → Peaceful m p.next u begun
peaceful_begun m p begun u b whole = record {
  past = let next = ap (λ (x : Plain). x.next) is in omega (arith, next);
  ahead = λ k f at num mine s le l part short. whole s (let n = ap (λ (x : Plain). length x.slaves) is in omega (arith, l, n)) (ap (unit_of_part m) part ∙ mine)
      (subst (λ (x : Plain). FallsShort m s (plain_slave x s)) (sym is) short);
  full = λ k f at. filled_has (λ (g : PlainFrame). g.number ≡ p.next → unit_of_part m g.part ≡ u → list_all is_full g.notes ≡ true) (new_frames p.next p.outputs 0 m.parts) p.slots
      (λ i g there own mine. ap (list_all is_full) (new_one p.next 0 p.outputs m.parts i g there).notes)
      (λ i g there own mine. absurd (let x = begun_below m p begun b i g there in omega (arith, x, own))) k f (ap (λ (x : Plain). frame_at x k) is ∙ at);
  cycle = λ d at own. subst (λ os. Complete m p.next u os d) (ap (λ (x : Plain). x.slots) is)
      (subst (Complete m p.next u (filled (new_frames p.next p.outputs 0 m.parts) p.slots)) (some_same _ d (ap (λ (x : Plain). x.cycle) is ∙ at)) (record {
        full = λ k notes e mine. absurd (none_in m.parts k notes e);
        each = λ k l mine. inr (new_away m p k (omega (arith, l, length-map {A = ℕ} {B = Option (List Note)} m.parts (λ v. None))) (room_there m p begun b.begins));
      }));
}
  where
    is : cycle_begun m p ≡ begun
    is = guarded _ _ begun b.begins

-- a test that each place passes
all_places : (t : ℕ → Option (List Note) → Bool) (k : ℕ) (xs : List (Option (List Note))) → ((i : ℕ) → i < length xs → t (k + i) (get_or xs i None) ≡ true) → all_from t k xs ≡ true
all_places t k [] h = refl
all_places t k (x ∷ xs) h = and_from (t k x) (all_from t (k + 1) xs)
    (subst (λ (n : ℕ). t n x ≡ true) (omega arith) (h 0 (omega arith)))
    (all_places t (k + 1) xs (λ i l. let z : k + suc i ≡ k + 1 + i = omega arith in subst (λ (n : ℕ). t n (get_or xs i None) ≡ true) z (h (suc i) (omega (arith, l)))))

pub taken_law : TakenLaw
taken_law m p begun after c u b quiet opened own = all_places (λ k notes. if unit_of_part m k == u then all_full notes else true) 0 c.kept (λ k l. one k l)
  where
    end : Peaceful m p.next u (run m begun after).plain
    end = run_tells (λ done x. Peaceful m p.next u x) m begun after
        (λ before behind e q is h r. peaceful_step m p.next u (run m begun before).plain e q (quiet.undisturbed before behind e q is h) h r)
        (λ before e r. r) (peaceful_begun m p begun u b quiet.whole)

    whole : Complete m p.next u (run m begun after).plain.slots c
    whole = end.cycle c opened own

    gone : (k : ℕ) → unit_of_part m k ≡ u → Away p.next k (run m begun after).plain.slots → ⊥
    gone k mine a =
        true≢false (sym (and_from _ _ (eq-eqb a.frame.number p.next a.is.number_is) (eq-eqb (unit_of_part m a.frame.part) u (ap (unit_of_part m) a.is.part_is ∙ mine))) ∙ quiet.back a.slot a.frame a.there)

    kept : (k : ℕ) → k < length c.kept → unit_of_part m k ≡ u → all_full (get_or c.kept k None) ≡ true
    kept k l mine = elim (whole.each k l mine) [
      | inl r ↦ ap all_full r.1 ∙ whole.full k r.0 r.1 mine
      | inr a ↦ absurd (gone k mine a)
    ]

    one : (k : ℕ) → k < length c.kept → (if unit_of_part m (0 + k) == u then all_full (get_or c.kept k None) else true) ≡ true
    one k l =
        let z : k ≡ 0 + k = omega arith in
        subst (λ (n : ℕ). (if unit_of_part m n == u then all_full (get_or c.kept k None) else true) ≡ true) z
        (elim (cases_Bool (unit_of_part m k == u)) [
          | inl on ↦ if_true _ _ _ on ∙ kept k l (eqb-true _ _ on)
          | inr off ↦ if_false _ _ _ off
        ])
