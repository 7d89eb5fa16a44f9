-- How many slaves and slots there are stays, where the slots hold frames.
use Rattle.std.proofs.Common.{◌≡◌, ◌∙◌, ℕ, zero, suc, ◌+◌, ◌<◌, List, [], ◌∷◌, length, set, get_or, Bool, true, false, Option, Some, None, refl, sym, ap, subst, arith, length-set}
use Rattle.ec_frame.specs.Frame.{Payload, IsFrame}
use Rattle.ec_cycle.specs.Closing.{nones}
use Rattle.ec_world.specs.declared.event.Event.{Event}
use Rattle.ec_world.specs.declared.event.Event.TheVariants.{StartNext, Set, Begin, Pass, Lose, Return, Close, Serve, AppPut, AppGet, Fault, Reset, Stop}
use Rattle.ec_world.specs.Plain.{filled}
use Rattle.ec_world.specs.World.{WorldState, Flight, IsStep, ByStart, Begins, Closes, Gets, GivesUp, Passes, Puts, Returns, Sends, StartReturns, awaits, flights_from}
use Rattle.ec_simulation.specs.Work.{Onward}
use Rattle.ec_simulation.proofs.Goes.{Goes}
use Rattle.ec_simulation.proofs.SlotsSent.{not_full}

abbrev pub Spells : List ℕ → Type 0
Spells bytes = (p : Payload) × IsFrame bytes p

abbrev pub AreFrames : List (Option Flight) → Type 0
AreFrames [] = Unit {0}
AreFrames (None ∷ slots) = AreFrames slots
AreFrames (Some f ∷ slots) = Spells f.bytes × AreFrames slots

abbrev AreFlights : List Flight → Type 0
AreFlights [] = Unit {0}
AreFlights (f ∷ fs) = Spells f.bytes × AreFlights fs

pub free_frames : (slots : List (Option Flight)) → nones slots ≡ length slots → AreFrames slots
free_frames [] e = tt
free_frames (None ∷ slots) e = free_frames slots (omega arith)
free_frames (Some f ∷ slots) e = absurd (not_full f slots e)

frame_at : (slots : List (Option Flight)) (k : ℕ) (f : Flight) → AreFrames slots → get_or slots k None ≡ Some f → Spells f.bytes
frame_at [] k f h is = cc
frame_at (None ∷ slots) zero f h is = cc
frame_at (None ∷ slots) (suc k) f h is = frame_at slots k f h is
frame_at (Some g ∷ slots) zero f h is = let same : g ≡ f = cc in subst (λ (x : Flight). Spells x.bytes) same h.0
frame_at (Some g ∷ slots) (suc k) f h is = frame_at slots k f h.1 is

none_set : (slots : List (Option Flight)) (k : ℕ) → AreFrames slots → AreFrames (set slots k None)
none_set [] k h = tt
none_set (None ∷ slots) zero h = h
none_set (None ∷ slots) (suc k) h = none_set slots k h
none_set (Some g ∷ slots) zero h = h.1
none_set (Some g ∷ slots) (suc k) h = (h.0, none_set slots k h.1)

some_set : (slots : List (Option Flight)) (k : ℕ) (f : Flight) → AreFrames slots → Spells f.bytes → AreFrames (set slots k (Some f))
some_set [] k f h s = tt
some_set (None ∷ slots) zero f h s = (s, h)
some_set (None ∷ slots) (suc k) f h s = some_set slots k f h s
some_set (Some g ∷ slots) zero f h s = (s, h.1)
some_set (Some g ∷ slots) (suc k) f h s = (h.0, some_set slots k f h.1 s)

some_filled : (fs : List Flight) (slots : List (Option Flight)) → AreFrames slots → AreFlights fs → AreFrames (filled fs slots)
some_filled [] [] h s = tt
some_filled (f ∷ fs) [] h s = tt
some_filled [] (None ∷ slots) h s = h
some_filled [] (Some g ∷ slots) h s = h
some_filled (f ∷ fs) (None ∷ slots) h s = (s.0, some_filled fs slots h s.1)
some_filled (f ∷ fs) (Some g ∷ slots) h s = (h.0, some_filled (f ∷ fs) slots h.1 s)

length_filled : {X : Type 0} (xs : List X) (slots : List (Option X)) → length (filled xs slots) ≡ length slots
length_filled [] [] = refl
length_filled (x ∷ xs) [] = refl
length_filled [] (o ∷ slots) = refl
length_filled (x ∷ xs) (None ∷ slots) = let h : length (filled xs slots) ≡ length slots = length_filled xs slots in omega arith
length_filled (x ∷ xs) (Some y ∷ slots) = let h : length (filled (x ∷ xs) slots) ≡ length slots = length_filled (x ∷ xs) slots in omega arith

flights_spell : (number k : ℕ) (fs : List (List ℕ)) → ((i : ℕ) → i < length fs → Spells (get_or fs i [])) → AreFlights (flights_from number k fs)
flights_spell number k [] h = tt
flights_spell number k (f ∷ fs) h = (h 0 (omega arith), flights_spell number (k + 1) fs (λ i lt. h (suc i) (omega arith)))

-- ---- a step

pub record Kept (old new : WorldState) : Type 0 where
  pub slaves : length new.slaves ≡ length old.slaves
  pub slots : length new.slots ≡ length old.slots
  pub frames : AreFrames new.slots

-- slaves and slots are the same
same_kept : (old new : WorldState) → new.slaves ≡ old.slaves → new.slots ≡ old.slots → AreFrames old.slots → Kept old new
same_kept old new slaves slots h = record { slaves = ap length slaves; slots = ap length slots; frames = subst AreFrames (sym slots) h }

-- the slaves stay as many
many_kept : (old new : WorldState) → length new.slaves ≡ length old.slaves → new.slots ≡ old.slots → AreFrames old.slots → Kept old new
many_kept old new slaves slots h = record { slaves = slaves; slots = ap length slots; frames = subst AreFrames (sym slots) h }

-- the slaves are the same, and a slot is free
freed : (old new : WorldState) (k : ℕ) → new.slaves ≡ old.slaves → new.slots ≡ set old.slots k None → AreFrames old.slots → Kept old new
freed old new k slaves slots h = record {
  slaves = ap length slaves;
  slots = ap length slots ∙ length-set old.slots k None;
  frames = subst AreFrames (sym slots) (none_set old.slots k h);
}

sent : (old new : WorldState) (fs : List Flight) → new.slaves ≡ old.slaves → new.slots ≡ filled fs old.slots → AreFlights fs → AreFrames old.slots → Kept old new
sent old new fs slaves slots spell h = record {
  slaves = ap length slaves;
  slots = ap length slots ∙ length_filled fs old.slots;
  frames = subst AreFrames (sym slots) (some_filled fs old.slots h spell);
}

begun : (old new : WorldState) → Begins old new → AreFrames old.slots → Kept old new
begun old new p h =
    sent old new (flights_from old.master.next 0 p.cycle.frames) (ap (λ (w : WorldState). w.slaves) p.is) (ap (λ (w : WorldState). w.slots) p.is)
    (flights_spell old.master.next 0 p.cycle.frames (λ i lt. (_, p.master.frames i (subst (λ n. i < n) p.master.count lt)))) h

passed : (old : WorldState) (k : ℕ) (new : WorldState) → Passes old k new → AreFrames old.slots → Kept old new
passed old k new p h =
    let before : Spells p.flight.bytes = frame_at old.slots k p.flight h p.there in
    let slots = ap (λ (w : WorldState). w.slots) p.is in
    record {
      slaves = ap length (p.passed.slaves before.0 before.1) ∙ length-set old.slaves p.flight.passed _;
      slots = ap length slots ∙ length-set old.slots k _;
      frames = subst AreFrames (sym slots) (some_set old.slots k _ h (_, p.passed.frame before.0 before.1));
    }

returned : (b : Bool) (old : WorldState) (k : ℕ) (new : WorldState) → ByStart b (StartReturns old k new) (Returns old k new) → AreFrames old.slots → Kept old new
returned true old k new p h = freed old new k (ap (λ (w : WorldState). w.slaves) p.is) (ap (λ (w : WorldState). w.slots) p.is) h
returned false old k new p h = freed old new k (ap (λ (w : WorldState). w.slaves) p.is) (ap (λ (w : WorldState). w.slots) p.is) h

closed : (b : Bool) (old new : WorldState) → ByStart b (GivesUp old new) (Closes old new) → AreFrames old.slots → Kept old new
closed true old new p h = same_kept old new (ap (λ (w : WorldState). w.slaves) p) (ap (λ (w : WorldState). w.slots) p) h
closed false old new p h = same_kept old new (ap (λ (w : WorldState). w.slaves) p.is) (ap (λ (w : WorldState). w.slots) p.is) h

made_kept : (e : Event) (old new : WorldState) → IsStep old e new true → AreFrames old.slots → Kept old new
made_kept StartNext old new step h =
    let p : Sends old new = step.happens refl in
    sent old new _ (ap (λ (w : WorldState). w.slaves) p.is) (ap (λ (w : WorldState). w.slots) p.is) ((_, p.spelled), tt) h
made_kept (Set v x) old new step h = let p = step.happens refl in same_kept old new (ap (λ (w : WorldState). w.slaves) p) (ap (λ (w : WorldState). w.slots) p) h
made_kept Begin old new step h = begun old new (step.happens refl) h
made_kept (Pass k) old new step h = passed old k new (step.happens refl) h
made_kept (Lose k) old new step h = let p = step.happens refl in freed old new k (ap (λ (w : WorldState). w.slaves) p) (ap (λ (w : WorldState). w.slots) p) h
made_kept (Return k) old new step h = returned (awaits old.start) old k new (step.happens refl) h
made_kept Close old new step h = closed (awaits old.start) old new (step.happens refl) h
made_kept (Serve s) old new step h =
    let p = step.happens refl in many_kept old new (ap (λ (w : WorldState). length w.slaves) p ∙ length-set old.slaves s _) (ap (λ (w : WorldState). w.slots) p) h
made_kept (AppPut s i x) old new step h =
    let p : Puts old s i x new = step.happens refl in
    many_kept old new (ap (λ (w : WorldState). length w.slaves) p.is ∙ length-set old.slaves s _) (ap (λ (w : WorldState). w.slots) p.is) h
made_kept (AppGet s i) old new step h =
    let p : Gets old s i new = step.happens refl in
    many_kept old new (ap (λ (w : WorldState). length w.slaves) p.is ∙ length-set old.slaves s _) (ap (λ (w : WorldState). w.slots) p.is) h
made_kept (Fault s) old new step h =
    let p = step.happens refl in many_kept old new (ap (λ (w : WorldState). length w.slaves) p ∙ length-set old.slaves s _) (ap (λ (w : WorldState). w.slots) p) h
made_kept (Reset s) old new step h =
    let p = step.happens refl in many_kept old new (ap (λ (w : WorldState). length w.slaves) p ∙ length-set old.slaves s _) (ap (λ (w : WorldState). w.slots) p) h
made_kept Stop old new step h = let p = step.happens refl in same_kept old new (ap (λ (w : WorldState). w.slaves) p) (ap (λ (w : WorldState). w.slots) p) h

step_kept : (e : Event) (old new : WorldState) (one : Bool) → IsStep old e new one → AreFrames old.slots → Kept old new
step_kept e old new true step h = made_kept e old new step h
step_kept e old new false step h = let p = step.refused refl in same_kept old new (ap (λ (w : WorldState). w.slaves) p) (ap (λ (w : WorldState). w.slots) p) h

-- ---- events

kept_on : (old mid new : WorldState) → Kept old mid → Kept mid new → Kept old new
kept_on old mid new h g = record { slaves = g.slaves ∙ h.slaves; slots = g.slots ∙ h.slots; frames = g.frames }

kept_onward : {X : Type 0} (one : Bool) (old mid new : WorldState) (all : Bool) → Kept old mid → (X → Kept mid new) → Onward one X ((new ≡ mid) × (all ≡ false)) → Kept old new
kept_onward true old mid new all h f g = kept_on old mid new h (f g)
kept_onward false old mid new all h f g = subst (λ w. Kept old w) (sym g.0) h

pub goes_kept : (es : List Event) (old new : WorldState) (all : Bool) → Goes es old new all → AreFrames old.slots → Kept old new
goes_kept [] old new all h f = same_kept old new (ap (λ (w : WorldState). w.slaves) h.0) (ap (λ (w : WorldState). w.slots) h.0) f
goes_kept (e ∷ es) old new all h f =
    let one : Kept old h.0 = step_kept e old h.0 h.1 h.2 f in
    kept_onward h.1 old h.0 new all one (λ g. goes_kept es h.0 new all g one.frames) h.3
