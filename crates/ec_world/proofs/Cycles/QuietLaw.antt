-- What disturbs a cycle for a unit keeps the unit from being taken: one of its parts is spoiled, and stays so.
use Rattle.ec_world.proofs.Words.{ℕ, suc, ◌<◌, ◌≤◌, ◌≡◌, ◌==◌, ◌&&◌, ◌||◌, Bool, true, false, Option, Some, None, refl, sym, ◌∙◌, ap, subst, inl, inr, arith, List, [], ◌∷◌, ◌++◌, length, get_or, set, nat_le, get_or-set_same, length-set, list_all, list_any, cases_Bool, cases_eq, and_parts, and_left, and_right, or_cases, or_left, eqb-true, eq-eqb, leb-true, true≢false, length-map, length_push, if_true, Meaning, share_of, meaning, has_outs, has_ins, unit_of_part, PartPlan, PlanState, IsUsable, Event, Pass, Lose, Fault, ResetSlave, Plain, PlainSlave, PlainFrame, Health, Working, Faulted, Reset, Note, Short, Cycle, unit_full, step, run, frame_at, plain_slave, no_plain_slave, keeping, new_frames, with_note, with_slot, met_note, giving, is_full, all_full, IsBegun, FallsShort, QuietLaw, unit_of_slave, is_of_unit, holds_of_unit, still_comes, is_awaited, disturbs, none_some, some_same, cycle_begun, none_in, list_all-append}
use Rattle.ec_world.proofs.Refinement.Close.{all_full_kept, part_full}
use Rattle.ec_world.proofs.Refinement.CyclicFrame.{share_is}
use Rattle.ec_world.proofs.Runs.Leaves.{guarded, Leaves, leaves, Turned, faulted, switched}
use Rattle.ec_world.proofs.Runs.SnapshotsLaw.{run_always, begun_below, filled_has, new_one, keeping_number, count_kept, frames_left, cycle_left, next_left, kept_on, Rests, HasFailed, HasRestarted, became, run_cut}
use Rattle.ec_world.proofs.Cycles.TakenLaw.{short_alike}
use Rattle.ec_world.proofs.Runs.Single.{left_there, Single, single_step, single_begun}

-- ---- a slave that falls short goes on to do so

pub in_op_whole : (m : Meaning) (s : ℕ) (q : PlainSlave) → q.health ≡ Working → FallsShort m s q → ⊥
in_op_whole m s q is (inl x) = let z : Working ≡ Reset = sym is ∙ x.0 in cc
in_op_whole m s q is (inr x) = let z : Working ≡ Faulted = sym is ∙ x.0 in cc

has_bits : (m : Meaning) (s : ℕ) (q : PlainSlave) → FallsShort m s q → (has_outs (share_of m s) || has_ins (share_of m s)) ≡ true
has_bits m s q (inl x) = x.1
has_bits m s q (inr x) = or_left _ _ x.1

short_stays : (m : Meaning) (p : Plain) (e : Event) (q : Plain) (s : ℕ) → step m p e ≡ Some q → FallsShort m s (plain_slave p s) → FallsShort m s (plain_slave q s)
short_stays m p e q s h short = elim (became m p e q s h) [
  | Rests same ↦ short_alike m s (plain_slave q s) (plain_slave p s) (sym same) short
  | HasFailed is now was ↦ absurd (in_op_whole m s (plain_slave p s) was short)
  | HasRestarted is now ↦ inl (now, has_bits m s (plain_slave p s) short)
]

giving_short : (m : Meaning) (s : ℕ) (q : PlainSlave) (h : Health) → q.health ≡ h → FallsShort m s q → giving (share_of m s) q h ≡ Short
giving_short m s q Working is short = absurd (in_op_whole m s q is short)
giving_short m s q Faulted is (inl x) = absurd (let z : Faulted ≡ Reset = sym is ∙ x.0 in cc)
giving_short m s q Faulted is (inr x) = if_true _ _ _ x.1
giving_short m s q Reset is short = if_true _ _ _ (has_bits m s q short)

short_note : (m : Meaning) (s : ℕ) (f : PlainFrame) (q : PlainSlave) → (share_of m s).part ≡ f.part → FallsShort m s q → met_note m s f q ≡ Short
short_note m s f q part short = if_true _ _ _ (eq-eqb _ _ part) ∙ giving_short m s q q.health refl short

-- ---- a part that is spoiled

not_full_then : (ns : List Note) (n : Note) → list_all is_full ns ≡ false → list_all is_full (ns ++ (n ∷ [])) ≡ false
not_full_then ns n e = list_all-append is_full ns (n ∷ []) ∙ and_left (list_all is_full ns) _ e

not_full_at_last : (ns : List Note) → list_all is_full (ns ++ (Short ∷ [])) ≡ false
not_full_at_last ns = list_all-append is_full ns (Short ∷ []) ∙ and_right (list_all is_full ns) _ refl

-- the frame has a short note, or will have one
pub data IsBad (m : Meaning) (p : Plain) (f : PlainFrame) : Type 0 where
  Noted : list_all is_full f.notes ≡ false → IsBad m p f
  Coming : (s : ℕ) → length f.notes ≤ s → s < length p.slaves → (share_of m s).part ≡ f.part → FallsShort m s (plain_slave p s) → IsBad m p f

bad_stays : (m : Meaning) (p : Plain) (e : Event) (q : Plain) (f : PlainFrame) → step m p e ≡ Some q → IsBad m p f → IsBad m q f
bad_stays m p e q f h (Noted x) = Noted x
bad_stays m p e q f h (Coming s le l part short) = Coming s le (let n = count_kept m p e q h in omega (arith, l, n)) part (short_stays m p e q s h short)

bad_moves : (m : Meaning) (p : Plain) (e : Event) (q : Plain) (f : PlainFrame) → step m p e ≡ Some q → IsBad m p f
    → IsBad m q (with_note f (met_note m (length f.notes) f (plain_slave p (length f.notes))))
bad_moves m p e q f h (Noted x) = Noted (not_full_then f.notes _ x)
bad_moves m p e q f h (Coming s le l part short) = elim (cases_eq s (length f.notes)) [
  | inl same ↦ Noted (subst (λ (n : Note). list_all is_full (f.notes ++ (n ∷ [])) ≡ false) (sym (subst (λ (t : ℕ). met_note m t f (plain_slave p t) ≡ Short) same (short_note m s f (plain_slave p s) part short)))
      (not_full_at_last f.notes))
  | inr ne ↦ Coming s (let more = length_push f.notes (met_note m (length f.notes) f (plain_slave p (length f.notes))) in omega (arith, le, ne, more))
      (let n = count_kept m p e q h in omega (arith, l, n)) part (short_stays m p e q s h short)
]

-- No whole frame of the part is on its way or kept.
pub record Spoiled (m : Meaning) (number k : ℕ) (p : Plain) : Type 0 where
  pub past : number < p.next
  pub ways : (i : ℕ) (f : PlainFrame) → frame_at p i ≡ Some f → f.number ≡ number → f.part ≡ k → IsBad m p f
  pub kept : (c : Cycle) → p.cycle ≡ Some c → c.number ≡ number → (notes : List Note) → get_or c.kept k None ≡ Some notes → list_all is_full notes ≡ false

spoiled_step : (m : Meaning) (number k : ℕ) (p : Plain) (e : Event) (q : Plain) → step m p e ≡ Some q → Spoiled m number k p → Spoiled m number k q
spoiled_step m number k p e q h c = record {
  past = omega (arith, c.past, next_left m p e q l);
  ways = frames_left m p e q l B (λ g is next new own part. absurd (omega (arith, new.number_is, c.past, own))) (λ j g own there inside num part. bad_moves m p e q g h (c.ways j g there num part))
      (λ i f at num part. bad_stays m p e q f h (c.ways i f at num part));
  kept = cycle_left m p e q l (λ d. d.number ≡ number → (notes : List Note) → get_or d.kept k None ≡ Some notes → list_all is_full notes ≡ false) (λ is own. absurd (omega (arith, c.past, own))) back c.kept;
}
  where
    l : Leaves m p e q
    l = leaves m p e q h

    B : PlainFrame → Type 0
    B f = f.number ≡ number → f.part ≡ k → IsBad m q f

    -- it passed all slaves
    noted : (g : PlainFrame) → length g.notes ≡ length p.slaves → IsBad m p g → list_all is_full g.notes ≡ false
    noted g all (Noted x) = x
    noted g all (Coming s le few part short) = absurd (omega (arith, le, few, all))

    back : (j : ℕ) (g : PlainFrame) (x : Cycle) → frame_at p j ≡ Some g → length g.notes ≡ length p.slaves → p.cycle ≡ Some x → (keeping g x).number ≡ number
        → (notes : List Note) → get_or (keeping g x).kept k None ≡ Some notes → list_all is_full notes ≡ false
    back j g x there all at num notes e =
        let own : x.number ≡ number = sym (keeping_number g x) ∙ num in
        kept_on (λ i ns. i ≡ k → list_all is_full ns ≡ false) number g x (λ mine part. noted g all (c.ways j g there mine part)) own
        (λ i ns here same. c.kept x at own ns (ap (λ (n : ℕ). get_or x.kept n None) (sym same) ∙ here)) k notes e refl

-- ---- what spoils a part

pub record SpoiledPart (m : Meaning) (number u : ℕ) (p : Plain) : Type 0 where
  pub part : ℕ
  pub inside : part < length m.parts
  pub mine : unit_of_part m part ≡ u
  pub spoiled : Spoiled m number part p

-- its frame is lost
lost_spoils : (m : Meaning) (number u : ℕ) (p : Plain) (j : ℕ) (f : PlainFrame) (q : Plain) → Single m number p → frame_at p j ≡ Some f → with_slot p j None ≡ q
    → is_of_unit m number u f ≡ true → SpoiledPart m number u q
lost_spoils m number u p j f q c there is own = record {
  part = f.part;
  inside = c.inside j f there num;
  mine = eqb-true _ _ (and_parts (f.number == number) _ own).1;
  spoiled = record {
    past = let x = c.past in let next = ap (λ (z : Plain). z.next) is in omega (arith, x, next);
    ways = λ i g at same part. absurd (let r = left_there p.slots j i g (ap (λ (z : Plain). frame_at z i) is ∙ at) in r.1 (c.once i j g f r.0 there same num part));
    kept = λ d at mine notes e. absurd (none_some notes (sym (c.missing d (ap (λ (z : Plain). z.cycle) is ∙ at) mine j f there num) ∙ e));
  };
}
  where
    num : f.number ≡ number
    num = eqb-true _ _ (and_parts (f.number == number) _ own).0

pub record Found {X : Type 0} (t : Option X → Bool) (os : List (Option X)) : Type 0 where
  pub slot : ℕ
  pub value : X
  pub there : get_or os slot None ≡ Some value
  pub meets : t (Some value) ≡ true

found : {X : Type 0} (t : Option X → Bool) (os : List (Option X)) → t None ≡ false → list_any t os ≡ true → Found t os
found t [] never e = absurd (let z : false ≡ true = e in cc)
found {X} t (o ∷ os) never e = elim (or_cases (t o) (list_any t os) e) [
  | inl here ↦ first o refl here
  | inr later ↦ let r = found t os never later in record { slot = suc r.slot; value = r.value; there = r.there; meets = r.meets }
]
  where
    first : (x : Option X) → o ≡ x → t o ≡ true → Found t (o ∷ os)
    first None is on = absurd (true≢false (sym on ∙ (ap t is ∙ never)))
    first (Some x) is on = record { slot = 0; value = x; there = is; meets = sym (ap t is) ∙ on }

-- a slave comes to fall short before the frame of its part
short_spoils : (m : Meaning) (number u : ℕ) (p : Plain) (s : ℕ) (x : Health) (q : Plain) (r : Turned p s x q) → Single m number p → FallsShort m s r.slave
    → (unit_of_slave m s == u) ≡ true → is_awaited m number s p ≡ true → SpoiledPart m number u q
short_spoils m number u p s x q r c short unit awaited = record {
  part = f.part;
  inside = c.inside w.slot f w.there num;
  mine = ap (unit_of_part m) part ∙ eqb-true _ _ unit;
  spoiled = record {
    past = let y = c.past in let next = ap (λ (z : Plain). z.next) r.is in omega (arith, y, next);
    ways = λ i g at same own.
        let old : frame_at p i ≡ Some g = ap (λ (z : Plain). frame_at z i) r.is ∙ at in
        let slot : w.slot ≡ i = c.once w.slot i f g w.there old num same (sym own) in
        let is : f ≡ g = some_same f g (sym w.there ∙ (ap (frame_at p) slot ∙ old)) in
        Coming s (let l = le in let z = ap (λ (y : PlainFrame). length y.notes) is in omega (arith, l, z))
        (let l = r.inside in let n = ap (λ (z : Plain). length z.slaves) r.is in omega (arith, l, n, many))
        (sym part ∙ sym own) there;
    kept = λ d at mine notes e. absurd (none_some notes (sym (c.missing d (ap (λ (z : Plain). z.cycle) r.is ∙ at) mine w.slot f w.there num) ∙ e));
  };
}
  where
    w : Found (still_comes m number s) p.slots
    w = found (still_comes m number s) p.slots refl awaited

    f : PlainFrame
    f = w.value

    tests : ((f.number == number) ≡ true) × (((f.part == (share_of m s).part) && nat_le (length f.notes) s) ≡ true)
    tests = and_parts (f.number == number) _ w.meets

    num : f.number ≡ number
    num = eqb-true _ _ tests.0

    part : f.part ≡ (share_of m s).part
    part = eqb-true _ _ (and_parts (f.part == (share_of m s).part) _ tests.1).0

    le : length f.notes ≤ s
    le = leb-true _ _ (and_parts (f.part == (share_of m s).part) _ tests.1).1

    many : length (set p.slaves s r.slave) ≡ length p.slaves
    many = length-set p.slaves s r.slave

    there : FallsShort m s (plain_slave q s)
    there = subst (λ (z : Plain). FallsShort m s (plain_slave z s)) r.is (subst (FallsShort m s) (sym (get_or-set_same p.slaves s r.slave no_plain_slave r.inside)) short)

spoils : (m : Meaning) (number u : ℕ) (p : Plain) (e : Event) (q : Plain) → Single m number p → step m p e ≡ Some q → disturbs m number u p e ≡ true → SpoiledPart m number u q
spoils m number u p (Lose k) q c h d = by (frame_at p k) refl d
  where
    by : (o : Option PlainFrame) → frame_at p k ≡ o → holds_of_unit m number u o ≡ true → SpoiledPart m number u q
    by None at own = absurd (true≢false (sym own))
    by (Some f) at own = lost_spoils m number u p k f q c at (guarded _ _ q h) own
spoils m number u p (Fault s) q c h d =
    let r = faulted m p s q h in
    let both = and_parts (unit_of_slave m s == u) _ d in
    let more = and_parts (has_outs (share_of m s)) _ both.1 in
    short_spoils m number u p s Faulted q r c (inr (r.now, more.0)) both.0 more.1
spoils m number u p (ResetSlave s) q c h d =
    let r = switched m p s q h in
    let both = and_parts (unit_of_slave m s == u) _ d in
    let more = and_parts (has_outs (share_of m s) || has_ins (share_of m s)) _ both.1 in
    short_spoils m number u p s Reset q r c (inl (r.now, more.0)) both.0 more.1
spoils m number u p _ q c h d = absurd (true≢false (sym d))

-- a slave that falls short as the cycle begins
begun_spoiled : (m : Meaning) (p begun : Plain) (s : ℕ) → IsBegun m p begun → Single m p.next begun → s < length p.slaves → FallsShort m s (plain_slave p s) → Spoiled m p.next (share_of m s).part begun
begun_spoiled m p begun s b c inside short = record {
  past = c.past;
  ways = λ i f at own part.
      Coming s (let n = ap (λ (ns : List Note). length ns) (fresh i f at own) in omega (arith, n)) (let n = ap (λ (x : Plain). length x.slaves) is in omega (arith, inside, n)) (sym part)
      (subst (λ (x : Plain). FallsShort m s (plain_slave x s)) is short);
  kept = λ d at own notes e. absurd (none_in m.parts (share_of m s).part notes
      (ap (λ (x : Cycle). get_or x.kept (share_of m s).part None) (some_same _ d (ap (λ (x : Plain). x.cycle) is ∙ at)) ∙ e));
}
  where
    is : cycle_begun m p ≡ begun
    is = guarded _ _ begun b.begins

    fresh : (i : ℕ) (f : PlainFrame) → frame_at begun i ≡ Some f → f.number ≡ p.next → f.notes ≡ []
    fresh i f at = filled_has (λ (g : PlainFrame). g.number ≡ p.next → g.notes ≡ []) (new_frames p.next p.outputs 0 m.parts) p.slots
        (λ a g there own. (new_one p.next 0 p.outputs m.parts a g there).notes)
        (λ a g there own. absurd (let x = begun_below m p begun b a g there in omega (arith, x, own))) i f (ap (λ (x : Plain). frame_at x i) is ∙ at)

-- ---- a unit that is taken

-- each slave of a usable plan is in one of its parts
pub in_parts : (plan : PlanState) (p : Plain) → IsUsable plan → length p.slaves ≡ length plan.slaves → (s : ℕ) → s < length p.slaves → (share_of (meaning plan) s).part < length (meaning plan).parts
in_parts plan p sound count s l =
    let x = sound.in_parts s (omega (arith, l, count)) in
    let y = ap (λ z. z.part) (share_is plan s) in
    let n = length-map plan.parts (λ (k : PartPlan). k.unit) in
    omega (arith, x, y, n)

pub quiet_law : QuietLaw
quiet_law m p begun after c u inside b opened own taken = record {
  whole = λ s l mine short.
      not_spoiled (share_of m s).part (inside s l) mine (run_always (Spoiled m p.next (share_of m s).part) m (λ x e q h r. spoiled_step m p.next (share_of m s).part x e q h r) begun after
      (begun_spoiled m p begun s b first l short));
  undisturbed = λ before rest e next split made. elim (cases_Bool (disturbs m p.next u (run m begun before).plain e)) [
    | inr off ↦ off
    | inl on ↦ absurd (
        let s = spoils m p.next u (run m begun before).plain e next (run_always (Single m p.next) m (λ x y q h r. single_step m p.next x y q h r) begun before first) made on in
        not_spoiled s.part s.inside s.mine (subst (Spoiled m p.next s.part) (sym (run_cut m begun after before rest e next split made))
        (run_always (Spoiled m p.next s.part) m (λ x y q h r. spoiled_step m p.next s.part x y q h r) next rest s.spoiled)))
  ];
  back = λ k f at. elim (cases_Bool (is_of_unit m p.next u f)) [
    | inr off ↦ off
    | inl on ↦ absurd (
        let tests = and_parts (f.number == p.next) _ on in
        let num = eqb-true _ _ tests.0 in
        true≢false (sym (whole_part f.part (end.inside k f at num) (eqb-true _ _ tests.1)) ∙ ap all_full (end.missing c opened own k f at num)))
  ];
}
  where
    first : Single m p.next begun
    first = single_begun m p begun b

    end : Single m p.next (run m begun after).plain
    end = run_always (Single m p.next) m (λ x e q h r. single_step m p.next x e q h r) begun after first

    whole_part : (k : ℕ) → k < length m.parts → unit_of_part m k ≡ u → all_full (get_or c.kept k None) ≡ true
    whole_part k l mine = part_full m c u k taken (let n = end.size c opened own in omega (arith, l, n)) mine

    not_spoiled : (k : ℕ) → k < length m.parts → unit_of_part m k ≡ u → Spoiled m p.next k (run m begun after).plain → ⊥
    not_spoiled k l mine s =
        let r = all_full_kept (get_or c.kept k None) (whole_part k l mine) in
        true≢false (sym (sym (ap all_full r.1) ∙ whole_part k l mine) ∙ s.kept c opened own r.0 r.1)

-- ---- a slave that fell short as its frame passed it

pub spoiled_not_full : (m : Meaning) (p begun : Plain) (after : List Event) (c : Cycle) (u : ℕ) → IsBegun m p begun
    → (run m begun after).plain.cycle ≡ Some c → c.number ≡ p.next → unit_full m c u ≡ true
    → (before behind : List Event) (slot : ℕ) (q : Plain) (f : PlainFrame) (s : ℕ) → after ≡ before ++ (Pass slot ∷ behind) → step m (run m begun before).plain (Pass slot) ≡ Some q
    → frame_at (run m begun before).plain slot ≡ Some f → f.number ≡ p.next → length f.notes ≡ s → (share_of m s).part ≡ f.part
    → FallsShort m s (plain_slave (run m begun before).plain s) → unit_of_slave m s ≡ u → s < length (run m begun before).plain.slaves → ⊥
spoiled_not_full m p begun after c u b opened own taken before behind slot q f s split made there num meets part short mine few =
    let single : Single m p.next x = run_always (Single m p.next) m (λ y e z h r. single_step m p.next y e z h r) begun before (single_begun m p begun b) in
    let spoiled : Spoiled m p.next f.part x = record {
      past = single.past;
      ways = λ i g at same own_part.
          let one : slot ≡ i = single.once slot i f g there at num same (sym own_part) in
          let is : f ≡ g = some_same f g (sym there ∙ (ap (frame_at x) one ∙ at)) in
          Coming s (let z = ap (λ (y : PlainFrame). length y.notes) is in omega (arith, z, meets)) (omega (arith, few, meets)) (part ∙ sym own_part) short;
      kept = λ d at num_d notes e. absurd (none_some notes (sym (single.missing d at num_d slot f there num) ∙ e));
    } in
    let later : Spoiled m p.next f.part (run m q behind).plain = run_always (Spoiled m p.next f.part) m (λ y e z h r. spoiled_step m p.next f.part y e z h r) q behind (spoiled_step m p.next f.part x (Pass slot) q made spoiled) in
    let here : f.part < length c.kept = let n = at_end.size c opened own in let l = single.inside slot f there num in omega (arith, l, n) in
    let full = part_full m c u f.part taken here (ap (unit_of_part m) (sym part) ∙ mine) in
    let r = all_full_kept (get_or c.kept f.part None) full in
    true≢false (sym (sym (ap all_full r.1) ∙ full) ∙ (subst (Spoiled m p.next f.part) (sym (run_cut m begun after before behind (Pass slot) q split made)) later).kept c opened own r.0 r.1)
  where
    x : Plain
    x = (run m begun before).plain

    -- it is of a part of the plan
    at_end : Single m p.next (run m begun after).plain
    at_end = run_always (Single m p.next) m (λ y e z h r. single_step m p.next y e z h r) begun after (single_begun m p begun b)
