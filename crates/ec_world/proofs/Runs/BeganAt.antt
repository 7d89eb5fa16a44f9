-- Each frame on its way, and each open cycle, goes back to the event that began it.
use Rattle.ec_world.proofs.Words.{ℕ, ◌≡◌, Some, None, refl, sym, ◌∙◌, ap, subst, List, [], ◌∷◌, ◌++◌, append_assoc, Meaning, Event, Begin, Plain, PlainFrame, Cycle, step, run, frame_at, IsBegun, HasNoFrame, none_some}
use Rattle.ec_world.proofs.Runs.Leaves.{Leaves, leaves}
use Rattle.ec_world.proofs.Runs.SnapshotsLaw.{run_tells, keeping_number, frames_left, cycle_left, run_cut}

-- the cycle with this number was begun on the way
pub record BeganAt (m : Meaning) (first : Plain) (done : List Event) (number : ℕ) : Type 0 where
  pub before : List Event
  pub behind : List Event
  pub split : done ≡ before ++ (Begin ∷ behind)
  pub begun : Plain
  pub begins : step m (run m first before).plain Begin ≡ Some begun
  pub number_is : (run m first before).plain.next ≡ number

pub record AreBegun (m : Meaning) (first : Plain) (done : List Event) (p : Plain) : Type 0 where
  pub frames : (k : ℕ) (f : PlainFrame) → frame_at p k ≡ Some f → BeganAt m first done f.number
  pub cycle : (c : Cycle) → p.cycle ≡ Some c → BeganAt m first done c.number

later : (m : Meaning) (first : Plain) (done : List Event) (e : Event) (n : ℕ) → BeganAt m first done n → BeganAt m first (done ++ (e ∷ [])) n
later m first done e n b =
    let split : done ++ (e ∷ []) ≡ b.before ++ (Begin ∷ (b.behind ++ (e ∷ []))) = ap (λ (xs : List Event). xs ++ (e ∷ [])) b.split ∙ append_assoc b.before (Begin ∷ b.behind) (e ∷ []) in
    search (b, split)

still : (m : Meaning) (first : Plain) (done : List Event) (e : Event) (p : Plain) → AreBegun m first done p → AreBegun m first (done ++ (e ∷ [])) p
still m first done e p h = record {
  frames = λ k f at. later m first done e f.number (h.frames k f at);
  cycle = λ c at. later m first done e c.number (h.cycle c at);
}

begun_step : (m : Meaning) (first : Plain) (done : List Event) (e : Event) (q : Plain)
    → step m (run m first done).plain e ≡ Some q → AreBegun m first done (run m first done).plain → AreBegun m first (done ++ (e ∷ [])) q
begun_step m first done e q h c = record {
  frames = frames_left m p e q l (λ f. BeganAt m first (done ++ (e ∷ [])) f.number) (λ g is next new. own is g.number (sym new.number_is)) (λ k g is there inside. now.frames k g there) now.frames;
  cycle = cycle_left m p e q l (λ d. BeganAt m first (done ++ (e ∷ [])) d.number) (λ is. own is p.next refl)
      (λ k g x there all at. subst (λ (n : ℕ). BeganAt m first (done ++ (e ∷ [])) n) (sym (keeping_number g x)) (now.cycle x at)) now.cycle;
}
  where
    p : Plain
    p = (run m first done).plain

    l : Leaves m p e q
    l = leaves m p e q h

    now : AreBegun m first (done ++ (e ∷ [])) p
    now = still m first done e p c

    own : e ≡ Begin → (n : ℕ) → p.next ≡ n → BeganAt m first (done ++ (e ∷ [])) n
    own is n same = record {
      before = done;
      behind = [];
      split = ap (λ (x : Event). done ++ (x ∷ [])) is;
      begun = q;
      begins = subst (λ (x : Event). step m p x ≡ Some q) is h;
      number_is = same;
    }

-- of a run that finds no frame and no cycle
pub are_begun : (m : Meaning) (first : Plain) (es : List Event) → HasNoFrame first → first.cycle ≡ None → AreBegun m first es (run m first es).plain
are_begun m first es free shut = run_tells (AreBegun m first) m first es
    (λ before behind e q is h r. begun_step m first before e q h r)
    (λ before e r. still m first before e (run m first before).plain r)
    (record { frames = λ k f at. absurd (none_some f (sym (free k) ∙ at)); cycle = λ c at. absurd (none_some c (sym shut ∙ at)) })

-- and as the promises say it
pub begun_of : (m : Meaning) (first : Plain) (done : List Event) (n : ℕ) → HasNoFrame first → (b : BeganAt m first done n) → IsBegun m (run m first b.before).plain b.begun
begun_of m first done n free b = record { first = first; no_frame = free; before = b.before; reached = refl; begins = b.begins }

-- the run goes on from the beginning
pub begun_on : (m : Meaning) (first : Plain) (done : List Event) (n : ℕ) (b : BeganAt m first done n) → (run m first done).plain ≡ (run m b.begun b.behind).plain
begun_on m first done n b = run_cut m first done b.before b.behind Begin b.begun b.split b.begins
