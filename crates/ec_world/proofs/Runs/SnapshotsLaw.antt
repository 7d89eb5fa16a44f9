-- What holds over runs of the plain machine: frames keep the image of their beginning, and slaves in OP stay there.
use Rattle.ec_world.proofs.Words.{ℕ, zero, suc, ◌+◌, ◌<◌, ◌≤◌, ◌≡◌, ◌≢◌, ◌==◌, ◌&&◌, Bool, true, Option, Some, None, refl, sym, ◌∙◌, ap, subst, inl, inr, arith, List, [], ◌∷◌, ◌++◌, length, map, get_or, set, is_none, unwrap_or, slice_get, length-set, list_all, and_parts, cases_Bool, eqb-true, append-nil, append_assoc, if_true, if_false, Meaning, nones, Event, Begin, Pass, Fault, ResetSlave, Plain, PlainSlave, PlainFrame, Note, Cycle, step, run, frame_at, plain_slave, no_plain_slave, keeping, filled, new_frames, with_note, met_note, Working, Faulted, Reset, IsBegun, SnapshotsLaw, WorkingLaw, none_some, some_same}
use Rattle.ec_world.proofs.SlotLaws.Clearance.{at_set}
use Rattle.ec_world.proofs.Runs.Leaves.{guarded, Leaves, Stays, Begins, Moves, Loses, Returns, Closes, leaves, Treats, Same, Uses, Fails, Resets, treats, mapped}

-- ---- a run by its steps

-- what each step keeps, a run keeps
pub run_keeps : (R : Plain → Type 0) (m : Meaning) (ok : Event → Bool) → ((p : Plain) (e : Event) (q : Plain) → ok e ≡ true → step m p e ≡ Some q → R p → R q)
    → (p : Plain) (es : List Event) → list_all ok es ≡ true → R p → R (run m p es).plain
run_keeps R m ok h p [] all r = r
run_keeps R m ok h p (e ∷ es) all r = run_keeps R m ok h (unwrap_or (step m p e) p) es (and_parts (ok e) (list_all ok es) all).1 (one (step m p e) refl)
  where
    one : (o : Option Plain) → step m p e ≡ o → R (unwrap_or o p)
    one None q = r
    one (Some x) q = h p e x (and_parts (ok e) (list_all ok es) all).0 q r

-- two runs, one after the other
pub run_joins : (m : Meaning) (p : Plain) (xs ys : List Event) → (run m p (xs ++ ys)).plain ≡ (run m (run m p xs).plain ys).plain
run_joins m p [] ys = refl
run_joins m p (x ∷ xs) ys = run_joins m (unwrap_or (step m p x) p) xs ys

-- a run past one of its events
pub run_cut : (m : Meaning) (p : Plain) (es before behind : List Event) (e : Event) (q : Plain) → es ≡ before ++ (e ∷ behind) → step m (run m p before).plain e ≡ Some q → (run m p es).plain ≡ (run m q behind).plain
run_cut m p es before behind e q split made =
    ap (λ (xs : List Event). (run m p xs).plain) split
    ∙ (run_joins m p before (e ∷ behind) ∙ ap (λ (o : Option Plain). (run m (unwrap_or o (run m p before).plain) behind).plain) made)

-- what each event of a run keeps, given the events before it, the run keeps
pub run_tells : (R : List Event → Plain → Type 0) (m : Meaning) (p : Plain) (es : List Event)
    → ((before behind : List Event) (e : Event) (q : Plain) → es ≡ before ++ (e ∷ behind) → step m (run m p before).plain e ≡ Some q → R before (run m p before).plain → R (before ++ (e ∷ [])) q)
    → ((before : List Event) (e : Event) → R before (run m p before).plain → R (before ++ (e ∷ [])) (run m p before).plain)
    → R [] p → R es (run m p es).plain
run_tells R m p es made idle first = go [] es refl first
  where
    go : (done rest : List Event) → es ≡ done ++ rest → R done (run m p done).plain → R es (run m p es).plain
    go done [] is r = subst (λ (xs : List Event). R xs (run m p xs).plain) (sym (is ∙ append-nil done)) r
    go done (e ∷ rest) is r = go (done ++ (e ∷ [])) rest (is ∙ sym (append_assoc done (e ∷ []) rest)) (one (step m (run m p done).plain e) refl)
      where
        at : (run m p (done ++ (e ∷ []))).plain ≡ unwrap_or (step m (run m p done).plain e) (run m p done).plain
        at = run_joins m p done (e ∷ [])

        one : (o : Option Plain) → step m (run m p done).plain e ≡ o → R (done ++ (e ∷ [])) (run m p (done ++ (e ∷ []))).plain
        one None q = subst (R (done ++ (e ∷ []))) (sym (at ∙ ap (λ o. unwrap_or o (run m p done).plain) q)) (idle done e r)
        one (Some x) q = subst (R (done ++ (e ∷ []))) (sym (at ∙ ap (λ o. unwrap_or o (run m p done).plain) q)) (made done rest e x is q r)

abbrev pub any_event : Event → Bool
any_event e = true

all_any : (es : List Event) → list_all any_event es ≡ true
all_any [] = refl
all_any (e ∷ es) = all_any es

-- what each event keeps, a run keeps
pub run_always : (R : Plain → Type 0) (m : Meaning) → ((p : Plain) (e : Event) (q : Plain) → step m p e ≡ Some q → R p → R q) → (p : Plain) (es : List Event) → R p → R (run m p es).plain
run_always R m h p es r = run_keeps R m any_event (λ x e q ok made s. h x e q made s) p es (all_any es) r

-- ---- frames in slots

-- a slot of the filled ones has one of the new frames, or what it had
pub filled_has : {X : Type 0} (R : X → Type 0) (fs : List X) (os : List (Option X)) → ((i : ℕ) (x : X) → slice_get fs i ≡ Some x → R x)
    → ((k : ℕ) (x : X) → get_or os k None ≡ Some x → R x) → (k : ℕ) (x : X) → get_or (filled fs os) k None ≡ Some x → R x
filled_has R fs [] new old k x e = absurd (none_some x e)
filled_has R [] (o ∷ os) new old k x e = old k x e
filled_has R (f ∷ fs) (None ∷ os) new old zero x e = new 0 x e
filled_has R (f ∷ fs) (None ∷ os) new old (suc k) x e = filled_has R fs os (λ i y q. new (suc i) y q) (λ i y q. old (suc i) y q) k x e
filled_has R (f ∷ fs) (Some g ∷ os) new old zero x e = old 0 x e
filled_has R (f ∷ fs) (Some g ∷ os) new old (suc k) x e = filled_has R (f ∷ fs) os new (λ i y q. old (suc i) y q) k x e

-- and where there is room, each of the new frames has a slot
pub filled_holds : {X : Type 0} (fs : List X) (os : List (Option X)) (i : ℕ) (x : X) → length fs ≤ nones os → slice_get fs i ≡ Some x → (k : ℕ) × (get_or (filled fs os) k None ≡ Some x)
filled_holds [] os i x room e = absurd (none_some x e)
filled_holds (f ∷ fs) [] i x room e = absurd (omega (arith, room))
filled_holds (f ∷ fs) (None ∷ os) zero x room e = (0, e)
filled_holds (f ∷ fs) (None ∷ os) (suc i) x room e = let r = filled_holds fs os i x (omega (arith, room)) e in (suc r.0, r.1)
filled_holds (f ∷ fs) (Some g ∷ os) i x room e = let r = filled_holds (f ∷ fs) os i x room e in (suc r.0, r.1)

-- a frame as its cycle begins
pub record IsNew (number : ℕ) (image : List ℕ) (f : PlainFrame) : Type 0 where
  pub number_is : f.number ≡ number
  pub snapshot : f.snapshot ≡ image
  pub notes : f.notes ≡ []

pub new_one : (number k : ℕ) (image us : List ℕ) (i : ℕ) (f : PlainFrame) → slice_get (new_frames number image k us) i ≡ Some f → IsNew number image f
new_one number k image [] i f e = absurd (none_some f e)
new_one number k image (u ∷ us) zero f e = subst (λ (x : PlainFrame). IsNew number image x) (some_same _ f e) (record { number_is = refl; snapshot = refl; notes = refl })
new_one number k image (u ∷ us) (suc i) f e = new_one number (k + 1) image us i f e

pub new_at : (number k : ℕ) (image us : List ℕ) (i : ℕ) → i < length us → slice_get (new_frames number image k us) i ≡ Some (record { number = number; part = k + i; snapshot = image; notes = [] })
new_at number k image [] i l = absurd (omega (arith, l))
new_at number k image (u ∷ us) zero l = ap (λ (n : ℕ). Some (record { number = number; part = n; snapshot = image; notes = [] })) (omega arith)
new_at number k image (u ∷ us) (suc i) l =
    new_at number (k + 1) image us i (omega (arith, l)) ∙ ap (λ (n : ℕ). Some (record { number = number; part = n; snapshot = image; notes = [] })) (omega arith)

pub as_many : (number k : ℕ) (image us : List ℕ) → length (new_frames number image k us) ≡ length us
as_many number k image [] = refl
as_many number k image (u ∷ us) = ap (λ (n : ℕ). suc n) (as_many number (k + 1) image us)

-- the slots after one was set
pub set_has : {X : Type 0} (R : X → Type 0) (os : List (Option X)) (j : ℕ) (o : Option X) → ((x : X) → o ≡ Some x → R x) → ((k : ℕ) (x : X) → get_or os k None ≡ Some x → R x)
    → (k : ℕ) (x : X) → get_or (set os j o) k None ≡ Some x → R x
set_has R os j o own old k x e = elim (at_set os j k o None) [ inl same ↦ old k x (sym same ∙ e) | inr new ↦ own x (sym new.1 ∙ e) ]

-- a list after one of its elements was set
pub set_at : {X : Type 0} (R : ℕ → X → Type 0) (os : List (Option X)) (j : ℕ) (x : X) → R j x → ((k : ℕ) (y : X) → get_or os k None ≡ Some y → R k y)
    → (k : ℕ) (y : X) → get_or (set os j (Some x)) k None ≡ Some y → R k y
set_at R os j x new old k y e = elim (at_set os j k (Some x) None) [
  | inl same ↦ old k y (sym same ∙ e)
  | inr own ↦ subst (λ (i : ℕ). R i y) (sym own.0) (subst (R j) (some_same x y (sym own.1 ∙ e)) new)
]

-- a frame that comes back leaves what keeping its notes leaves
pub keeping_leaves : {X : Type 0} (h : Cycle → X) (g : PlainFrame) (c : Cycle) → (g.number ≡ c.number → h (record c { kept = set c.kept g.part (Some g.notes) }) ≡ h c) → h (keeping g c) ≡ h c
keeping_leaves h g c same = elim (cases_Bool ((g.number == c.number) && is_none (get_or c.kept g.part None))) [
  | inl on ↦ ap h (if_true _ _ _ on) ∙ same (eqb-true _ _ (and_parts (g.number == c.number) _ on).0)
  | inr off ↦ ap h (if_false _ _ _ off)
]

pub keeping_length : (g : PlainFrame) (c : Cycle) → length (keeping g c).kept ≡ length c.kept
keeping_length g c = keeping_leaves (λ (x : Cycle). length x.kept) g c (λ own. length-set c.kept g.part (Some g.notes))

pub keeping_number : (g : PlainFrame) (c : Cycle) → (keeping g c).number ≡ c.number
keeping_number g c = keeping_leaves (λ (x : Cycle). x.number) g c (λ own. refl)

-- what is kept of the parts of a cycle, after a frame came back to it
pub kept_on : (R : ℕ → List Note → Type 0) (number : ℕ) (g : PlainFrame) (c : Cycle) → (g.number ≡ number → R g.part g.notes) → c.number ≡ number
    → ((k : ℕ) (notes : List Note) → get_or c.kept k None ≡ Some notes → R k notes) → (k : ℕ) (notes : List Note) → get_or (keeping g c).kept k None ≡ Some notes → R k notes
kept_on R number g c new own old k notes e = elim (cases_Bool ((g.number == c.number) && is_none (get_or c.kept g.part None))) [
  | inl on ↦ set_at R c.kept g.part g.notes (new (eqb-true _ _ (and_parts (g.number == c.number) _ on).0 ∙ own)) old k notes (ap (λ (x : Cycle). get_or x.kept k None) (sym (if_true _ _ _ on)) ∙ e)
  | inr off ↦ old k notes (ap (λ (x : Cycle). get_or x.kept k None) (sym (if_false _ _ _ off)) ∙ e)
]

-- ---- what an event leaves, frame by frame, and of the open cycle

-- a frame that passed its next slave
abbrev pub passed_on : Meaning → Plain → PlainFrame → PlainFrame
passed_on m p g = with_note g (met_note m (length g.notes) g (plain_slave p (length g.notes)))

-- a frame on its way is one of a cycle that begins, one that passed a slave, or one that was there
pub frames_left : (m : Meaning) (p : Plain) (e : Event) (q : Plain) → Leaves m p e q → (R : PlainFrame → Type 0)
    → ((g : PlainFrame) → e ≡ Begin → q.next ≡ p.next + 1 → IsNew p.next p.outputs g → R g)
    → ((k : ℕ) (g : PlainFrame) → e ≡ Pass k → frame_at p k ≡ Some g → length g.notes < length p.slaves → R (passed_on m p g))
    → ((k : ℕ) (g : PlainFrame) → frame_at p k ≡ Some g → R g) → (k : ℕ) (f : PlainFrame) → frame_at q k ≡ Some f → R f
frames_left m p e q (Stays slots next cycle) R new on old k f at = old k f (ap (λ os. get_or os k None) (sym slots) ∙ at)
frames_left m p e q (Closes slots next cycle) R new on old k f at = old k f (ap (λ os. get_or os k None) (sym slots) ∙ at)
frames_left m p e q (Begins is slots next cycle slaves room) R new on old k f at =
    filled_has R (new_frames p.next p.outputs 0 m.parts) p.slots (λ i g there. new g is next (new_one p.next 0 p.outputs m.parts i g there)) old k f (ap (λ os. get_or os k None) (sym slots) ∙ at)
frames_left m p e q (Moves j g own there inside is) R new on old k f at =
    set_has R p.slots j (Some (passed_on m p g)) (λ x same. subst R (some_same (passed_on m p g) x same) (on j g own there inside)) old k f (ap (λ (z : Plain). frame_at z k) (sym is) ∙ at)
frames_left m p e q (Loses j own is) R new on old k f at = set_has R p.slots j None (λ x no. absurd (none_some x no)) old k f (ap (λ (z : Plain). frame_at z k) (sym is) ∙ at)
frames_left m p e q (Returns j g there is all) R new on old k f at = set_has R p.slots j None (λ x no. absurd (none_some x no)) old k f (ap (λ (z : Plain). frame_at z k) (sym is) ∙ at)

-- the open cycle is one that begins, one to which a frame came back, or the one that was open
pub cycle_left : (m : Meaning) (p : Plain) (e : Event) (q : Plain) → Leaves m p e q → (K : Cycle → Type 0)
    → (e ≡ Begin → K (record { number = p.next; kept = map (λ u. None) m.parts }))
    → ((k : ℕ) (g : PlainFrame) (c : Cycle) → frame_at p k ≡ Some g → length g.notes ≡ length p.slaves → p.cycle ≡ Some c → K (keeping g c))
    → ((c : Cycle) → p.cycle ≡ Some c → K c) → (d : Cycle) → q.cycle ≡ Some d → K d
cycle_left m p e q (Stays slots next cycle) K new back old d at = old d (sym cycle ∙ at)
cycle_left m p e q (Closes slots next cycle) K new back old d at = absurd (none_some d (sym cycle ∙ at))
cycle_left m p e q (Begins is slots next cycle slaves room) K new back old d at = subst K (some_same _ d (sym cycle ∙ at)) (new is)
cycle_left m p e q (Moves j g own there inside is) K new back old d at = old d (sym (ap (λ (z : Plain). z.cycle) is) ∙ at)
cycle_left m p e q (Loses j own is) K new back old d at = old d (sym (ap (λ (z : Plain). z.cycle) is) ∙ at)
cycle_left m p e q (Returns j g there is all) K new back old d at =
    let r = mapped (keeping g) p.cycle d (sym (ap (λ (z : Plain). z.cycle) is) ∙ at) in
    subst K r.is (back j g r.value there all r.there)

-- and numbers only go up
pub next_left : (m : Meaning) (p : Plain) (e : Event) (q : Plain) → Leaves m p e q → p.next ≤ q.next
next_left m p e q (Stays slots next cycle) = omega (arith, next)
next_left m p e q (Closes slots next cycle) = omega (arith, next)
next_left m p e q (Begins is slots next cycle slaves room) = omega (arith, next)
next_left m p e q (Moves j g own there inside is) = let next = ap (λ (z : Plain). z.next) is in omega (arith, next)
next_left m p e q (Loses j own is) = let next = ap (λ (z : Plain). z.next) is in omega (arith, next)
next_left m p e q (Returns j g there is all) = let next = ap (λ (z : Plain). z.next) is in omega (arith, next)

-- ---- frames keep the image of their beginning

-- frames have numbers below the next one; those of this number carry this image
pub record Carry (number : ℕ) (image : List ℕ) (p : Plain) : Type 0 where
  pub past : number < p.next
  pub below : (k : ℕ) (f : PlainFrame) → frame_at p k ≡ Some f → f.number < p.next
  pub same : (k : ℕ) (f : PlainFrame) → frame_at p k ≡ Some f → f.number ≡ number → f.snapshot ≡ image

abbrev pub AreBelow : Plain → Type 0
AreBelow p = (k : ℕ) (f : PlainFrame) → frame_at p k ≡ Some f → f.number < p.next

pub below_step : (m : Meaning) (p : Plain) (e : Event) (q : Plain) → any_event e ≡ true → step m p e ≡ Some q → AreBelow p → AreBelow q
below_step m p e q ok h b =
    let l = leaves m p e q h in
    frames_left m p e q l (λ f. f.number < q.next) (λ g is next new. omega (arith, new.number_is, next)) (λ k g is there inside. omega (arith, b k g there, next_left m p e q l)) (λ k g there. omega (arith, b k g there, next_left m p e q l))

same_step : (n : ℕ) (image : List ℕ) (m : Meaning) (p : Plain) (e : Event) (q : Plain) → any_event e ≡ true → step m p e ≡ Some q → Carry n image p → Carry n image q
same_step n image m p e q ok h c =
    let l = leaves m p e q h in
    record {
      past = omega (arith, c.past, next_left m p e q l);
      below = below_step m p e q ok h c.below;
      same = frames_left m p e q l (λ f. f.number ≡ n → f.snapshot ≡ image) (λ g is next new own. absurd (omega (arith, new.number_is, c.past, own))) (λ k g is there inside. c.same k g there) c.same;
    }

-- before a cycle begins, frames have earlier numbers
pub begun_below : (m : Meaning) (p begun : Plain) → IsBegun m p begun → AreBelow p
begun_below m p begun b = subst (λ (x : Plain). (k : ℕ) (f : PlainFrame) → frame_at x k ≡ Some f → f.number < x.next) (sym b.reached)
    (run_keeps AreBelow m any_event (below_step m) b.first b.before (all_any b.before) (λ k f at. absurd (none_some f (sym (b.no_frame k) ∙ at))))

pub snapshots_law : SnapshotsLaw
snapshots_law m p begun after b = (run_keeps (Carry p.next p.outputs) m any_event (same_step p.next p.outputs m) begun after (all_any after) first).same
  where
    below : AreBelow p
    below = begun_below m p begun b

    slots : begun.slots ≡ filled (new_frames p.next p.outputs 0 m.parts) p.slots
    slots = sym (ap (λ (x : Plain). x.slots) (guarded _ _ begun b.begins))

    next : begun.next ≡ p.next + 1
    next = sym (ap (λ (x : Plain). x.next) (guarded _ _ begun b.begins))

    first : Carry p.next p.outputs begun
    first = record {
      past = omega (arith, next);
      below = λ k f at. filled_has (λ (g : PlainFrame). g.number < begun.next) (new_frames p.next p.outputs 0 m.parts) p.slots
          (λ i g there. let x = (new_one p.next 0 p.outputs m.parts i g there).number_is in omega (arith, x, next))
          (λ i g there. let x = below i g there in omega (arith, x, next)) k f (ap (λ os. get_or os k None) (sym slots) ∙ at);
      same = λ k f at. filled_has (λ (g : PlainFrame). g.number ≡ p.next → g.snapshot ≡ p.outputs) (new_frames p.next p.outputs 0 m.parts) p.slots
          (λ i g there own. (new_one p.next 0 p.outputs m.parts i g there).snapshot)
          (λ i g there own. absurd (let x = below i g there in omega (arith, x, own))) k f (ap (λ os. get_or os k None) (sym slots) ∙ at);
    }

-- ---- slaves in OP stay there

-- what an element that is set has as the old one had, each has
pub used : {X : Type 0} (g : PlainSlave → X) (qs : List PlainSlave) (t : ℕ) (y : PlainSlave) (s : ℕ) → g y ≡ g (get_or qs t no_plain_slave) → g (get_or (set qs t y) s no_plain_slave) ≡ g (get_or qs s no_plain_slave)
used g qs t y s e = elim (at_set qs t s y no_plain_slave) [ inl same ↦ ap g same | inr new ↦ ap g new.1 ∙ (e ∙ ap (λ (n : ℕ). g (get_or qs n no_plain_slave)) (sym new.0)) ]

-- what an event makes of one slave: its health stays, or it was a fault of it, or a reset
pub data Became (e : Event) (s : ℕ) (old new : PlainSlave) : Type 0 where
  Rests : new.health ≡ old.health → Became e s old new
  HasFailed : e ≡ Fault s → new.health ≡ Faulted → old.health ≡ Working → Became e s old new
  HasRestarted : e ≡ ResetSlave s → new.health ≡ Reset → Became e s old new

pub became : (m : Meaning) (p : Plain) (e : Event) (q : Plain) (s : ℕ) → step m p e ≡ Some q → Became e s (plain_slave p s) (plain_slave q s)
became m p e q s h = by (treats m p e q h)
  where
    in_slaves : (qs : List PlainSlave) → q.slaves ≡ qs → (plain_slave q s).health ≡ (get_or qs s no_plain_slave).health
    in_slaves qs is = ap (λ (xs : List PlainSlave). (get_or xs s no_plain_slave).health) is

    by : Treats m p e q → Became e s (plain_slave p s) (plain_slave q s)
    by (Same is) = Rests (in_slaves p.slaves is)
    by (Uses t y is own) = Rests (in_slaves (set p.slaves t y) is ∙ used (λ (x : PlainSlave). x.health) p.slaves t y s own)
    by (Fails t y own is now before) = elim (at_set p.slaves t s y no_plain_slave) [
      | inl same ↦ Rests (in_slaves (set p.slaves t y) is ∙ ap (λ (x : PlainSlave). x.health) same)
      | inr new ↦ HasFailed (own ∙ ap (λ (n : ℕ). Fault n) (sym new.0)) (in_slaves (set p.slaves t y) is ∙ (ap (λ (x : PlainSlave). x.health) new.1 ∙ now)) (ap (λ (n : ℕ). (plain_slave p n).health) new.0 ∙ before)
    ]
    by (Resets t y own is now) = elim (at_set p.slaves t s y no_plain_slave) [
      | inl same ↦ Rests (in_slaves (set p.slaves t y) is ∙ ap (λ (x : PlainSlave). x.health) same)
      | inr new ↦ HasRestarted (own ∙ ap (λ (n : ℕ). ResetSlave n) (sym new.0)) (in_slaves (set p.slaves t y) is ∙ (ap (λ (x : PlainSlave). x.health) new.1 ∙ now))
    ]

pub health_kept : (m : Meaning) (p : Plain) (e : Event) (q : Plain) (s : ℕ) → step m p e ≡ Some q → e ≢ Fault s → e ≢ ResetSlave s → (plain_slave q s).health ≡ (plain_slave p s).health
health_kept m p e q s h nf nr = elim (became m p e q s h) [ Rests same ↦ same | HasFailed is now was ↦ absurd (nf is) | HasRestarted is now ↦ absurd (nr is) ]

pub working_law : WorkingLaw
working_law m p e q s h nf nr w = health_kept m p e q s h nf nr ∙ w

pub count_kept : (m : Meaning) (p : Plain) (e : Event) (q : Plain) → step m p e ≡ Some q → length q.slaves ≡ length p.slaves
count_kept m p e q h = elim (treats m p e q h) [
  | Same is ↦ ap length is
  | Uses t y is own ↦ ap length is ∙ length-set p.slaves t y
  | Fails t y own is now before ↦ ap length is ∙ length-set p.slaves t y
  | Resets t y own is now ↦ ap length is ∙ length-set p.slaves t y
]
