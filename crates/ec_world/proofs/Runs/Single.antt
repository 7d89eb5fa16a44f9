-- Of each part of a cycle there is at most one frame: in its slot, kept, or lost.
use Rattle.ec_world.proofs.Words.{ℕ, zero, suc, ◌+◌, ◌<◌, ◌≤◌, ◌≡◌, ◌≢◌, Option, Some, None, refl, sym, ◌∙◌, ap, subst, arith, List, [], ◌∷◌, length, map, get_or, set, slice_get, get_or-set_other, length-map, Meaning, Event, Plain, PlainFrame, Note, Cycle, step, frame_at, plain_slave, keeping, filled, new_frames, with_note, met_note, IsBegun, none_some, some_same, cycle_begun, get_or-set_default, inl, inr}
use Rattle.ec_world.proofs.SlotLaws.Clearance.{at_set}
use Rattle.ec_world.proofs.Runs.Leaves.{mapped, guarded, Leaves, Stays, Begins, Moves, Loses, Returns, Closes, leaves}
use Rattle.ec_world.proofs.Runs.SnapshotsLaw.{begun_below, filled_has, new_one, keeping_number, keeping_length, keeping_leaves}

-- ---- slots

-- what isn't new was there
pub filled_was : {X : Type 0} (R : X → Type 0) (fs : List X) (os : List (Option X)) → ((i : ℕ) (x : X) → slice_get fs i ≡ Some x → R x → ⊥)
    → (k : ℕ) (x : X) → get_or (filled fs os) k None ≡ Some x → R x → get_or os k None ≡ Some x
filled_was R fs [] new k x e r = absurd (none_some x e)
filled_was R [] (o ∷ os) new k x e r = e
filled_was R (f ∷ fs) (None ∷ os) new zero x e r = absurd (new 0 f refl (subst R (sym (some_same f x e)) r))
filled_was R (f ∷ fs) (None ∷ os) new (suc k) x e r = filled_was R fs os (λ i y q s. new (suc i) y q s) k x e r
filled_was R (f ∷ fs) (Some g ∷ os) new zero x e r = e
filled_was R (f ∷ fs) (Some g ∷ os) new (suc k) x e r = filled_was R (f ∷ fs) os new k x e r

-- what is there after a slot was freed was there, in another slot
pub left_there : (os : List (Option PlainFrame)) (j i : ℕ) (f : PlainFrame) → get_or (set os j None) i None ≡ Some f → (get_or os i None ≡ Some f) × (i ≢ j)
left_there os j i f e =
    let ne : i ≢ j = λ z. none_some f (sym (ap (λ (n : ℕ). get_or (set os j None) n None) z ∙ get_or-set_default os j None) ∙ e) in
    (sym (get_or-set_other os j i None None ne) ∙ e, ne)

-- a frame of its part and cycle was in the slot
pub record WasIn (os : List (Option PlainFrame)) (i : ℕ) (f : PlainFrame) : Type 0 where
  pub frame : PlainFrame
  pub there : get_or os i None ≡ Some frame
  pub number_is : frame.number ≡ f.number
  pub part_is : frame.part ≡ f.part

was_in : (os : List (Option PlainFrame)) (j : ℕ) (g y : PlainFrame) → get_or os j None ≡ Some g → y.number ≡ g.number → y.part ≡ g.part
    → (i : ℕ) (f : PlainFrame) → get_or (set os j (Some y)) i None ≡ Some f → WasIn os i f
was_in os j g y at num part i f e = elim (at_set os j i (Some y) None) [
  | inl same ↦ record { frame = f; there = sym same ∙ e; number_is = refl; part_is = refl }
  | inr new ↦
      let own = some_same y f (sym new.1 ∙ e) in
      record { frame = g; there = ap (λ (n : ℕ). get_or os n None) new.0 ∙ at; number_is = sym num ∙ ap (λ (x : PlainFrame). x.number) own; part_is = sym part ∙ ap (λ (x : PlainFrame). x.part) own }
]

-- ---- new frames

new_part : (number k : ℕ) (image us : List ℕ) (i : ℕ) (f : PlainFrame) → slice_get (new_frames number image k us) i ≡ Some f → (k ≤ f.part) × (f.part < k + length us)
new_part number k image [] i f e = absurd (none_some f e)
new_part number k image (u ∷ us) zero f e = let z : k ≡ f.part = ap (λ (x : PlainFrame). x.part) (some_same _ f e) in (omega (arith, z), omega (arith, z))
new_part number k image (u ∷ us) (suc i) f e = let r = new_part number (k + 1) image us i f e in let a = r.0 in let b = r.1 in (omega (arith, a), omega (arith, b))

-- new frames, by their numbers and parts: all of one number, and one part after another
abbrev pub InParts : {X : Type 0} (N P : X → ℕ) (number k : ℕ) → List X → Type 0
InParts N P number k [] = Unit {0}
InParts N P number k (x ∷ xs) = (N x ≡ number) × (P x ≡ k) × InParts N P number (k + 1) xs

pub in_parts_number : {X : Type 0} (N P : X → ℕ) (number k : ℕ) (xs : List X) (i : ℕ) (x : X) → InParts N P number k xs → slice_get xs i ≡ Some x → N x ≡ number
in_parts_number N P number k [] i x h e = absurd (none_some x e)
in_parts_number N P number k (y ∷ xs) zero x h e = sym (ap N (some_same y x e)) ∙ h.0
in_parts_number N P number k (y ∷ xs) (suc i) x h e = in_parts_number N P number (k + 1) xs i x h.2 e

in_parts_least : {X : Type 0} (N P : X → ℕ) (number k : ℕ) (xs : List X) (i : ℕ) (x : X) → InParts N P number k xs → slice_get xs i ≡ Some x → k ≤ P x
in_parts_least N P number k [] i x h e = absurd (none_some x e)
in_parts_least N P number k (y ∷ xs) zero x h e = let z : P x ≡ k = sym (ap P (some_same y x e)) ∙ h.1 in omega (arith, z)
in_parts_least N P number k (y ∷ xs) (suc i) x h e = let l = in_parts_least N P number (k + 1) xs i x h.2 e in omega (arith, l)

-- no slot has a frame with the number
abbrev pub IsForeign : {X : Type 0} (N : X → ℕ) (number : ℕ) → List (Option X) → Type 0
IsForeign N number os = (i : ℕ) (f : _) → get_or os i None ≡ Some f → N f ≡ number → ⊥

least : {X : Type 0} (N P : X → ℕ) (number k : ℕ) (fs : List X) (os : List (Option X)) → InParts N P number k fs → IsForeign N number os
    → (j : ℕ) (g : X) → get_or (filled fs os) j None ≡ Some g → N g ≡ number → k ≤ P g
least N P number k fs os parts old j g e own = filled_has (λ h. N h ≡ number → k ≤ P h) fs os
    (λ i h there num. in_parts_least N P number k fs i h parts there) (λ i h there num. absurd (old i h there num)) j g e own

-- the new frames of two slots are of two parts
pub once_new : {X : Type 0} (N P : X → ℕ) (number k : ℕ) (fs : List X) (os : List (Option X)) → InParts N P number k fs → IsForeign N number os
    → (i j : ℕ) (f g : X) → get_or (filled fs os) i None ≡ Some f → get_or (filled fs os) j None ≡ Some g → N f ≡ number → N g ≡ number → P f ≡ P g → i ≡ j
once_new N P number k fs [] parts old i j f g ef eg nf ng same = absurd (none_some f ef)
once_new N P number k [] (o ∷ os) parts old i j f g ef eg nf ng same = absurd (old i f ef nf)
once_new N P number k (x ∷ fs) (None ∷ os) parts old zero zero f g ef eg nf ng same = refl
once_new N P number k (x ∷ fs) (None ∷ os) parts old zero (suc j) f g ef eg nf ng same =
    absurd (let z : k ≡ P f = sym parts.1 ∙ ap P (some_same x f ef) in let l = least N P number (k + 1) fs os parts.2 (λ a. old (suc a)) j g eg ng in omega (arith, z, l, same))
once_new N P number k (x ∷ fs) (None ∷ os) parts old (suc i) zero f g ef eg nf ng same =
    absurd (let z : k ≡ P g = sym parts.1 ∙ ap P (some_same x g eg) in let l = least N P number (k + 1) fs os parts.2 (λ a. old (suc a)) i f ef nf in omega (arith, z, l, same))
once_new N P number k (x ∷ fs) (None ∷ os) parts old (suc i) (suc j) f g ef eg nf ng same =
    ap (λ (n : ℕ). suc n) (once_new N P number (k + 1) fs os parts.2 (λ a. old (suc a)) i j f g ef eg nf ng same)
once_new N P number k (x ∷ fs) (Some h ∷ os) parts old zero j f g ef eg nf ng same = absurd (old 0 f ef nf)
once_new N P number k (x ∷ fs) (Some h ∷ os) parts old (suc i) zero f g ef eg nf ng same = absurd (old 0 g eg ng)
once_new N P number k (x ∷ fs) (Some h ∷ os) parts old (suc i) (suc j) f g ef eg nf ng same =
    ap (λ (n : ℕ). suc n) (once_new N P number k (x ∷ fs) os parts (λ a. old (suc a)) i j f g ef eg nf ng same)

abbrev number_in : PlainFrame → ℕ
number_in f = f.number

abbrev part_in : PlainFrame → ℕ
part_in f = f.part

new_parts : (number k : ℕ) (image us : List ℕ) → InParts number_in part_in number k (new_frames number image k us)
new_parts number k image [] = tt
new_parts number k image (u ∷ us) = (refl, refl, new_parts number (k + 1) image us)

-- ---- frames of one cycle

pub record Single (m : Meaning) (number : ℕ) (p : Plain) : Type 0 where
  pub past : number < p.next
  pub inside : (i : ℕ) (f : PlainFrame) → frame_at p i ≡ Some f → f.number ≡ number → f.part < length m.parts
  pub once : (i j : ℕ) (f g : PlainFrame) → frame_at p i ≡ Some f → frame_at p j ≡ Some g → f.number ≡ number → g.number ≡ number → f.part ≡ g.part → i ≡ j
  pub size : (c : Cycle) → p.cycle ≡ Some c → c.number ≡ number → length c.kept ≡ length m.parts
  pub missing : (c : Cycle) → p.cycle ≡ Some c → c.number ≡ number → (i : ℕ) (f : PlainFrame) → frame_at p i ≡ Some f → f.number ≡ number → get_or c.kept f.part None ≡ None

-- a frame that comes back leaves the other parts
keeping_other : (g : PlainFrame) (c : Cycle) (n : ℕ) → (g.number ≡ c.number → n ≡ g.part → ⊥) → get_or (keeping g c).kept n None ≡ get_or c.kept n None
keeping_other g c n ne = keeping_leaves (λ (x : Cycle). get_or x.kept n None) g c (λ own. get_or-set_other c.kept g.part n (Some g.notes) None (ne own))

-- each frame was there before, with its number and its part, and the cycle is the same
single_kept : (m : Meaning) (number : ℕ) (p q : Plain) → Single m number p → p.next ≤ q.next → p.cycle ≡ q.cycle → ((i : ℕ) (f : PlainFrame) → frame_at q i ≡ Some f → WasIn p.slots i f) → Single m number q
single_kept m number p q c next cycle was = record {
  past = omega (arith, c.past, next);
  inside = λ i f at num. let r = was i f at in subst (λ (n : ℕ). n < length m.parts) r.part_is (c.inside i r.frame r.there (r.number_is ∙ num));
  once = λ i k f y ef ey nf ny same.
      let a = was i f ef in
      let b = was k y ey in
      c.once i k a.frame b.frame a.there b.there (a.number_is ∙ nf) (b.number_is ∙ ny) (a.part_is ∙ (same ∙ sym b.part_is));
  size = λ d at. c.size d (cycle ∙ at);
  missing = λ d at mine i f here num.
      let r = was i f here in
      subst (λ (n : ℕ). get_or d.kept n None ≡ None) r.part_is (c.missing d (cycle ∙ at) mine i r.frame r.there (r.number_is ∙ num));
}

pub single_step : (m : Meaning) (number : ℕ) (p : Plain) (e : Event) (q : Plain) → step m p e ≡ Some q → Single m number p → Single m number q
single_step m number p e q h c = by (leaves m p e q h)
  where
    by : Leaves m p e q → Single m number q
    by (Stays slots next cycle) = single_kept m number p q c (omega (arith, next)) (sym cycle) (λ i f at. record { frame = f; there = ap (λ os. get_or os i None) (sym slots) ∙ at; number_is = refl; part_is = refl })
    by (Closes slots next cycle) = record {
      past = let x = c.past in omega (arith, x, next);
      inside = λ i f at. c.inside i f (in_slot i ∙ at);
      once = λ i j f g ef eg. c.once i j f g (in_slot i ∙ ef) (in_slot j ∙ eg);
      size = λ d is. absurd (none_some d (sym cycle ∙ is));
      missing = λ d is. absurd (none_some d (sym cycle ∙ is));
    }
      where
        in_slot : (i : ℕ) → frame_at p i ≡ frame_at q i
        in_slot i = ap (λ os. get_or os i None) (sym slots)
    by (Begins is_begin slots next cycle slaves room) = record {
      past = let x = c.past in omega (arith, x, next);
      inside = λ i f at own. c.inside i f (was i f at own) own;
      once = λ i j f g ef eg nf ng. c.once i j f g (was i f ef nf) (was j g eg ng) nf ng;
      size = λ d is own. absurd (later d is own);
      missing = λ d is own. absurd (later d is own);
    }
      where
        was : (i : ℕ) (f : PlainFrame) → frame_at q i ≡ Some f → f.number ≡ number → frame_at p i ≡ Some f
        was i f at own = filled_was (λ (g : PlainFrame). g.number ≡ number) (new_frames p.next p.outputs 0 m.parts) p.slots
            (λ a g there num. let x = c.past in let n = (new_one p.next 0 p.outputs m.parts a g there).number_is in omega (arith, x, n, num))
            i f (ap (λ os. get_or os i None) (sym slots) ∙ at) own

        later : (d : Cycle) → q.cycle ≡ Some d → d.number ≡ number → ⊥
        later d is own = let n = ap (λ (x : Cycle). x.number) (some_same _ d (sym cycle ∙ is)) in let x = c.past in omega (arith, x, n, own)
    by (Moves j g own there held is) = single_kept m number p q c (let next = ap (λ (z : Plain). z.next) is in omega (arith, next)) (sym (ap (λ (z : Plain). z.cycle) is))
        (λ i f at. was_in p.slots j g (with_note g (met_note m (length g.notes) g (plain_slave p (length g.notes)))) there refl refl i f (ap (λ (z : Plain). frame_at z i) (sym is) ∙ at))
    by (Loses j own is) = single_kept m number p q c (let next = ap (λ (z : Plain). z.next) is in omega (arith, next)) (sym (ap (λ (z : Plain). z.cycle) is))
        (λ i f at. record { frame = f; there = (left_there p.slots j i f (ap (λ (z : Plain). frame_at z i) (sym is) ∙ at)).0; number_is = refl; part_is = refl })
    by (Returns j g there is all) = record {
      past = let x = c.past in let next = ap (λ (z : Plain). z.next) is in omega (arith, x, next);
      inside = λ i f at. c.inside i f (was i f at).0;
      once = λ i k f y ef ey. c.once i k f y (was i f ef).0 (was k y ey).0;
      size = λ d at mine.
          let r = mapped (keeping g) p.cycle d (sym (ap (λ (z : Plain). z.cycle) is) ∙ at) in
          ap (λ (x : Cycle). length x.kept) (sym r.is) ∙ (keeping_length g r.value ∙ c.size r.value r.there (same_number d r.value r.is mine));
      missing = λ d at mine i f here num.
          let r = mapped (keeping g) p.cycle d (sym (ap (λ (z : Plain). z.cycle) is) ∙ at) in
          let x = was i f here in
          let own = same_number d r.value r.is mine in
          ap (λ (y : Cycle). get_or y.kept f.part None) (sym r.is)
          ∙ (keeping_other g r.value f.part (λ nums part. x.1 (c.once i j f g x.0 there num (nums ∙ own) part))
          ∙ c.missing r.value r.there own i f x.0 num);
    }
      where
        was : (i : ℕ) (f : PlainFrame) → frame_at q i ≡ Some f → (frame_at p i ≡ Some f) × (i ≢ j)
        was i f at = left_there p.slots j i f (ap (λ (z : Plain). frame_at z i) (sym is) ∙ at)

        same_number : (d x : Cycle) → keeping g x ≡ d → d.number ≡ number → x.number ≡ number
        same_number d x e mine = sym (keeping_number g x) ∙ (ap (λ (y : Cycle). y.number) e ∙ mine)

none_all : (xs : List ℕ) (k : ℕ) → (let none : Option (List Note) = None in get_or (map (λ x. none) xs) k none) ≡ None
none_all [] k = refl
none_all (x ∷ xs) zero = refl
none_all (x ∷ xs) (suc k) = none_all xs k

-- a cycle as it begins
pub single_begun : (m : Meaning) (p begun : Plain) → IsBegun m p begun → Single m p.next begun
single_begun m p begun b = record {
  past = let next = ap (λ (x : Plain). x.next) is in omega (arith, next);
  inside = λ i f at own. filled_has (λ (g : PlainFrame). g.number ≡ p.next → g.part < length m.parts) (new_frames p.next p.outputs 0 m.parts) p.slots
      (λ a g there num. let r = (new_part p.next 0 p.outputs m.parts a g there).1 in omega (arith, r))
      (λ a g there num. absurd (old a g there num)) i f (ap (λ (x : Plain). frame_at x i) is ∙ at) own;
  once = λ i j f g ef eg. once_new number_in part_in p.next 0 (new_frames p.next p.outputs 0 m.parts) p.slots (new_parts p.next 0 p.outputs m.parts) old i j f g (ap (λ (x : Plain). frame_at x i) is ∙ ef) (ap (λ (x : Plain). frame_at x j) is ∙ eg);
  size = λ d at own. ap (λ (x : Cycle). length x.kept) (sym (some_same _ d (ap (λ (x : Plain). x.cycle) is ∙ at))) ∙ length-map {A = ℕ} {B = Option (List Note)} m.parts (λ v. None);
  missing = λ d at own i f here num.
      ap (λ (x : Cycle). get_or x.kept f.part None) (sym (some_same _ d (ap (λ (x : Plain). x.cycle) is ∙ at))) ∙ none_all m.parts f.part;
}
  where
    old : IsForeign number_in p.next p.slots
    old i f at own = let x = begun_below m p begun b i f at in omega (arith, x, own)

    is : cycle_begun m p ≡ begun
    is = guarded _ _ begun b.begins
