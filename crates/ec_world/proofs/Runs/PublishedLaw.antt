-- What a cycle keeps was noted as its frames passed: each note of a frame, and each that is kept, goes back to its pass.
use Rattle.ec_world.proofs.Words.{ℕ, zero, suc, ◌<◌, ◌≡◌, ◌⊎◌, Some, None, refl, sym, ◌∙◌, ap, subst, inl, inr, arith, List, [], ◌∷◌, ◌++◌, length, get_or, slice_get, append_assoc, Meaning, Event, Pass, Plain, PlainFrame, Note, Cycle, step, run, frame_at, plain_slave, new_frames, met_note, IsBegun, IsNotedAt, PublishedLaw, none_some, some_same, cycle_begun, none_in}
use Rattle.ec_world.proofs.Runs.Leaves.{guarded, Leaves, leaves}
use Rattle.ec_world.proofs.Cycles.InputsLaw.{notes_law}
use Rattle.ec_world.proofs.Runs.SnapshotsLaw.{run_tells, begun_below, filled_has, new_one, keeping_number, frames_left, cycle_left, next_left, passed_on, kept_on}

-- a note behind others is one of them, or the last
pushed_note : (ns : List Note) (n : Note) (s : ℕ) (x : Note) → slice_get (ns ++ (n ∷ [])) s ≡ Some x → (slice_get ns s ≡ Some x) ⊎ ((length ns ≡ s) × (x ≡ n))
pushed_note [] n zero x e = inr (refl, sym (some_same n x e))
pushed_note [] n (suc s) x e = absurd (none_some x e)
pushed_note (y ∷ ns) n zero x e = inl e
pushed_note (y ∷ ns) n (suc s) x e = elim (pushed_note ns n s x e) [
  | inl old ↦ inl old
  | inr new ↦ inr (ap (λ (i : ℕ). suc i) new.0, new.1)
]

-- the notes of a frame of part k were made at its passes
abbrev AreNoted : Meaning → Plain → ℕ → List Event → ℕ → List Note → Type 0
AreNoted m begun number done k notes = (s : ℕ) (n : Note) → slice_get notes s ≡ Some n → IsNotedAt m begun number done k s n

-- of the frames with this number, and of what their cycle keeps
pub record Traced (m : Meaning) (begun : Plain) (number : ℕ) (done : List Event) (p : Plain) : Type 0 where
  pub past : number < p.next
  pub frames : (j : ℕ) (f : PlainFrame) → frame_at p j ≡ Some f → f.number ≡ number → AreNoted m begun number done f.part f.notes
  pub kept : (c : Cycle) → p.cycle ≡ Some c → c.number ≡ number → (k : ℕ) (notes : List Note) → get_or c.kept k None ≡ Some notes → AreNoted m begun number done k notes

-- with one event more
later : (m : Meaning) (begun : Plain) (number : ℕ) (done : List Event) (e : Event) (k s : ℕ) (n : Note) → IsNotedAt m begun number done k s n → IsNotedAt m begun number (done ++ (e ∷ [])) k s n
later m begun number done e k s n h =
    let split : done ++ (e ∷ []) ≡ h.before ++ (Pass h.slot ∷ (h.behind ++ (e ∷ []))) = ap (λ (xs : List Event). xs ++ (e ∷ [])) h.split ∙ append_assoc h.before (Pass h.slot ∷ h.behind) (e ∷ []) in
    search (h, split)

still_traced : (m : Meaning) (begun : Plain) (number : ℕ) (done : List Event) (e : Event) (p : Plain) → Traced m begun number done p → Traced m begun number (done ++ (e ∷ [])) p
still_traced m begun number done e p h = record {
  past = h.past;
  frames = λ j f at own s n is. later m begun number done e f.part s n (h.frames j f at own s n is);
  kept = λ c at own k notes back s n is. later m begun number done e k s n (h.kept c at own k notes back s n is);
}

-- a note that is made now
noted_now : (m : Meaning) (begun : Plain) (number : ℕ) (done : List Event) (j : ℕ) (q : Plain) (f : PlainFrame) (s : ℕ) (n : Note)
    → step m (run m begun done).plain (Pass j) ≡ Some q → frame_at (run m begun done).plain j ≡ Some f → f.number ≡ number → length f.notes ≡ s
    → n ≡ met_note m (length f.notes) f (plain_slave (run m begun done).plain (length f.notes)) → IsNotedAt m begun number (done ++ (Pass j ∷ [])) f.part s n
noted_now m begun number done j q f s n made there own meets is =
    let p = (run m begun done).plain in
    let note : n ≡ met_note m s f (plain_slave p s) = is ∙ ap (λ (t : ℕ). met_note m t f (plain_slave p t)) meets in
    record {
      before = done;
      slot = j;
      behind = [];
      split = refl;
      next = q;
      made = made;
      frame = f;
      there = there;
      number_is = own;
      part_is = refl;
      meets = meets;
      is = note;
      published = λ v e. (notes_law m s f (plain_slave p s)).full v (sym note ∙ e);
    }

traced_step : (m : Meaning) (begun : Plain) (number : ℕ) (done : List Event) (e : Event) (q : Plain)
    → step m (run m begun done).plain e ≡ Some q → Traced m begun number done (run m begun done).plain → Traced m begun number (done ++ (e ∷ [])) q
traced_step m begun number done e q h c = record {
  past = omega (arith, c.past, next_left m p e q l);
  frames = frames_left m p e q l R (λ g is next new own. absurd (omega (arith, new.number_is, c.past, own))) on now.frames;
  kept = cycle_left m p e q l (λ d. d.number ≡ number → (k : ℕ) (notes : List Note) → get_or d.kept k None ≡ Some notes → AreNoted m begun number (done ++ (e ∷ [])) k notes)
      (λ is own. absurd (omega (arith, c.past, own)))
      (λ k g x there all at num.
      let own : x.number ≡ number = sym (keeping_number g x) ∙ num in
      kept_on (AreNoted m begun number (done ++ (e ∷ []))) number g x (now.frames k g there) own (now.kept x at own))
      now.kept;
}
  where
    p : Plain
    p = (run m begun done).plain

    l : Leaves m p e q
    l = leaves m p e q h

    now : Traced m begun number (done ++ (e ∷ [])) p
    now = still_traced m begun number done e p c

    R : PlainFrame → Type 0
    R f = f.number ≡ number → AreNoted m begun number (done ++ (e ∷ [])) f.part f.notes

    on : (j : ℕ) (g : PlainFrame) → e ≡ Pass j → frame_at p j ≡ Some g → length g.notes < length p.slaves → R (passed_on m p g)
    on j g own there inside num s n at = elim (pushed_note g.notes (met_note m (length g.notes) g (plain_slave p (length g.notes))) s n at) [
      | inl old ↦ now.frames j g there num s n old
      | inr last ↦ subst (λ (x : Event). IsNotedAt m begun number (done ++ (x ∷ [])) g.part s n) (sym own)
          (noted_now m begun number done j q g s n (subst (λ (x : Event). step m p x ≡ Some q) own h) there num last.0 last.1)
    ]

traced_begun : (m : Meaning) (p begun : Plain) → IsBegun m p begun → Traced m begun p.next [] begun
traced_begun m p begun b = record {
  past = let next = ap (λ (x : Plain). x.next) is in omega (arith, next);
  frames = λ j f at. filled_has (λ (g : PlainFrame). g.number ≡ p.next → AreNoted m begun p.next [] g.part g.notes) (new_frames p.next p.outputs 0 m.parts) p.slots
      (λ i g there own s n told. absurd (none_some n (ap (λ ns. slice_get ns s) (sym (new_one p.next 0 p.outputs m.parts i g there).notes) ∙ told)))
      (λ i g there own. absurd (let x = begun_below m p begun b i g there in omega (arith, x, own))) j f (ap (λ (x : Plain). frame_at x j) is ∙ at);
  kept = λ d at own k notes back. absurd (none_in m.parts k notes (ap (λ (x : Cycle). get_or x.kept k None) (some_same _ d (ap (λ (x : Plain). x.cycle) is ∙ at)) ∙ back));
}
  where
    is : cycle_begun m p ≡ begun
    is = guarded _ _ begun b.begins

pub published_law : PublishedLaw
published_law m p begun after c b opened own k s notes n back at = end.kept c opened own k notes back s n at
  where
    end : Traced m begun p.next after (run m begun after).plain
    end = run_tells (Traced m begun p.next) m begun after
        (λ before behind e q is h r. traced_step m begun p.next before e q h r)
        (λ before e r. still_traced m begun p.next before e (run m begun before).plain r)
        (traced_begun m p begun b)
