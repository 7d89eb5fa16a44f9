-- Numbers of frames, over every run of a new world: each frame on its way has a number below the next one, and there is one frame of
-- its number and part.
use Rattle.ec_world.proofs.Words.{ℕ, ◌+◌, ◌<◌, ◌≤◌, ◌≡◌, ◌⊎◌, not, Bool, true, false, Some, None, refl, sym, ◌∙◌, ap, subst, inl, inr, arith, if◌then◌else◌, List, [], ◌∷◌, get_or, set, cases_Bool, cases_lt, and_parts, false≢true, MasterState, StartState, readied, given_up_by, Phase, Idle, Sent, Ready, Failed, Event, StartNext, Begin, Pass, Lose, Return, Close, AppPut, AppGet, Stop, WorldState, Flight, flight_at, flights_from, awaits, is_up, phase_awaits, phase_ready, resumed, ready_with, can_happen, Happens, IsStep, ByStart, StartReturns, Returns, GivesUp, Closes, IsRun, filled, none_some, some_same, none_free, slot_count, Contents, Identity, IsNew}
use Rattle.std.specs.Prelude.{max}
use Rattle.std.proofs.Math.Nat.{le-max_right}
use Rattle.ec_world.proofs.SlotLaws.Clearance.{at_set}
use Rattle.ec_world.proofs.Runs.SnapshotsLaw.{filled_has, set_has}
use Rattle.ec_world.proofs.Runs.Single.{InParts, in_parts_number, once_new, filled_was}
use Rattle.ec_world.proofs.Runs.Sizes.{taken_cycle}
use Rattle.ec_world.proofs.Runs.Unstopped.{taken_next, resumed_next, stopped_low, stopped_number}

-- ---- the number of the next frame

abbrev pub number_next : Bool → StartState → MasterState → ℕ
number_next true s m = m.next
number_next false s m = s.next

abbrev pub newest : WorldState → ℕ
newest w = number_next (is_up w.start) w.start w.master

newest_up : (w : WorldState) → is_up w.start ≡ true → newest w ≡ w.master.next
newest_up w up = ap (λ b. number_next b w.start w.master) up

newest_low : (w : WorldState) → is_up w.start ≡ false → newest w ≡ w.start.next
newest_low w low = ap (λ b. number_next b w.start w.master) low

-- ---- what an event leaves of the frames

abbrev number_in : Flight → ℕ
number_in f = f.number

abbrev part_in : Flight → ℕ
part_in f = f.part

-- as they are; new ones, of the next number; one that passed a slave; one slot emptied
pub data Frames (w v : WorldState) : Type 0 where
  Stay : v.slots ≡ w.slots → newest w ≤ newest v → Frames w v
  Come : (fs : List Flight) → InParts number_in part_in (newest w) 0 fs → v.slots ≡ filled fs w.slots → newest w < newest v → Frames w v
  Move : (k : ℕ) (f : Flight) (bytes : List ℕ) → flight_at w k ≡ Some f → v.slots ≡ set w.slots k (Some (record f { bytes = bytes; passed = f.passed + 1 })) → newest w ≤ newest v → Frames w v
  Leave : (k : ℕ) → v.slots ≡ set w.slots k None → newest w ≤ newest v → Frames w v

-- the start-up and the master's number are as before
same_newest : (w v : WorldState) → v.start ≡ w.start → v.master.next ≡ w.master.next → newest w ≤ newest v
same_newest w v start next =
    let z : newest v ≡ newest w = ap (λ (s : StartState). number_next (is_up s) s v.master) start ∙ by (is_up w.start) in
    omega (arith, z)
  where
    by : (b : Bool) → number_next b w.start v.master ≡ number_next b w.start w.master
    by true = next
    by false = refl

-- a start-up that isn't Ready goes on
low_newest : (w v : WorldState) (s : StartState) → is_up w.start ≡ false → v.start ≡ s → w.start.next ≤ s.next → v.master ≡ ready_with w.master s → newest w ≤ newest v
low_newest w v s low start more master = elim (cases_Bool (is_up s)) [
  | inl up ↦ (
      let a = newest_low w low in
      let b = newest_up v (ap is_up start ∙ up) in
      let c : v.master.next ≡ max w.master.next s.next = ap (λ (m : MasterState). m.next) master ∙ ap (λ b. (let m : MasterState = if b then readied w.master s.next else w.master in m.next)) up in
      let d = le-max_right w.master.next s.next in
      omega (arith, a, b, c, d, more))
  | inr off ↦ (
      let a = newest_low w low in
      let b = newest_low v (ap is_up start ∙ off) in
      let c : v.start.next ≡ s.next = ap (λ (x : StartState). x.next) start in
      omega (arith, a, b, c, more))
]

numbered : (number k : ℕ) (bs : List (List ℕ)) → InParts number_in part_in number k (flights_from number k bs)
numbered number k [] = tt
numbered number k (b ∷ bs) = (refl, refl, numbered number (k + 1) bs)

awaits_low : (p : Phase) → phase_awaits p ≡ true → phase_ready p ≡ false
awaits_low (Sent number) e = refl
awaits_low _ e = absurd (let z : false ≡ true = e in cc)

is_not : (b : Bool) → not b ≡ true → b ≡ false
is_not true e = absurd (false≢true e)
is_not false e = refl

return_frames : (b : Bool) (w : WorldState) (k : ℕ) (v : WorldState) → awaits w.start ≡ b → ByStart b (StartReturns w k v) (Returns w k v) → Frames w v
return_frames true w k v on h =
    Leave k (ap (λ (x : WorldState). x.slots) h.is)
    (low_newest w v v.start (awaits_low w.start.phase on) refl (let z = taken_next w.start v.start h.flight.bytes h.is_accepted h.start in omega (arith, z)) (ap (λ (x : WorldState). x.master) h.is))
return_frames false w k v off h =
    Leave k (ap (λ (x : WorldState). x.slots) h.is)
    (same_newest w v (ap (λ (x : WorldState). x.start) h.is) (ap (λ (m : MasterState). m.next) (taken_cycle w.master h.flight.bytes h.is_accepted v.master h.master)))

given_next : (s : StartState) (p : Phase) → (given_up_by s p).next ≡ s.next
given_next s Idle = refl
given_next s (Sent number) = refl
given_next s Ready = refl
given_next s (Failed failure) = refl

given_low : (s : StartState) (p : Phase) → s.phase ≡ p → phase_ready p ≡ false → is_up (given_up_by s p) ≡ false
given_low s Idle e low = refl
given_low s (Sent number) e low = refl
given_low s Ready e low = absurd (false≢true (sym low))
given_low s (Failed failure) e low = ap phase_ready e

close_frames : (b : Bool) (w v : WorldState) → awaits w.start ≡ b → ByStart b (GivesUp w v) (Closes w v) → Frames w v
close_frames true w v on h =
    let low = awaits_low w.start.phase on in
    let a = newest_low w low in
    let b = newest_low v (ap (λ (x : WorldState). is_up x.start) h ∙ given_low w.start w.start.phase refl low) in
    let c : v.start.next ≡ w.start.next = ap (λ (x : WorldState). x.start.next) h ∙ given_next w.start w.start.phase in
    Stay (ap (λ (x : WorldState). x.slots) h) (omega (arith, a, b, c))
close_frames false w v off h = Stay (ap (λ (x : WorldState). x.slots) h.is) (same_newest w v (ap (λ (x : WorldState). x.start) h.is) (ap (λ (x : WorldState). x.master.next) h.is))

pub event_frames : (w : WorldState) (e : Event) (v : WorldState) → can_happen w e ≡ true → Happens w e v → Frames w v
event_frames w StartNext v can h =
    let low : is_up w.start ≡ false = is_not (is_up w.start) (and_parts (not (is_up w.start)) _ can).0 in
    let a = newest_low w low in
    let b = newest_low v (ap (λ (x : WorldState). is_up x.start) h.is) in
    let c : v.start.next ≡ (resumed w.start w.start.phase).next + 1 = ap (λ (x : WorldState). x.start.next) h.is in
    let d = resumed_next w.start w.start.phase in
    Come (record { bytes = h.bytes; number = w.start.next; part = 0; passed = 0 } ∷ []) (sym a, refl, tt) (ap (λ (x : WorldState). x.slots) h.is) (omega (arith, a, b, c, d))
event_frames w Begin v can h =
    let up : is_up w.start ≡ true = (and_parts (is_up w.start) _ can).0 in
    let a = newest_up w up in
    let b = newest_up v (ap (λ (x : WorldState). is_up x.start) h.is ∙ up) in
    let c : v.master.next ≡ w.master.next + 1 = ap (λ (m : MasterState). m.next) h.master.is in
    Come (flights_from w.master.next 0 h.cycle.frames)
    (subst (λ (n : ℕ). InParts number_in part_in n 0 (flights_from w.master.next 0 h.cycle.frames)) (sym a) (numbered w.master.next 0 h.cycle.frames))
    (ap (λ (x : WorldState). x.slots) h.is) (omega (arith, a, b, c))
event_frames w (Pass k) v can h = Move k h.flight h.bytes h.there (ap (λ (x : WorldState). x.slots) h.is) (same_newest w v (ap (λ (x : WorldState). x.start) h.is) (ap (λ (x : WorldState). x.master.next) h.is))
event_frames w (Lose k) v can h = Leave k (ap (λ (x : WorldState). x.slots) h) (same_newest w v (ap (λ (x : WorldState). x.start) h) (ap (λ (x : WorldState). x.master.next) h))
event_frames w (Return k) v can h = return_frames (awaits w.start) w k v refl h
event_frames w Close v can h = close_frames (awaits w.start) w v refl h
event_frames w (AppPut s i x) v can h = Stay (ap (λ (y : WorldState). y.slots) h.is) (same_newest w v (ap (λ (y : WorldState). y.start) h.is) (ap (λ (y : WorldState). y.master.next) h.is))
event_frames w (AppGet s i) v can h = Stay (ap (λ (y : WorldState). y.slots) h.is) (same_newest w v (ap (λ (y : WorldState). y.start) h.is) (ap (λ (y : WorldState). y.master.next) h.is))
event_frames w Stop v can h =
    let up : is_up w.start ≡ true = (and_parts (is_up w.start) _ can).0 in
    let a = newest_up w up in
    let b = newest_low v (ap (λ (x : WorldState). is_up x.start) h ∙ stopped_low w.start w.master) in
    let c : v.start.next ≡ max w.start.next w.master.next = ap (λ (x : WorldState). x.start.next) h ∙ stopped_number w.start w.master in
    let d = le-max_right w.start.next w.master.next in
    Stay (ap (λ (x : WorldState). x.slots) h) (omega (arith, a, b, c, d))
event_frames w _ v can h = Stay (ap (λ (y : WorldState). y.slots) h) (same_newest w v (ap (λ (y : WorldState). y.start) h) (ap (λ (y : WorldState). y.master.next) h))

pub step_frames : (w : WorldState) (e : Event) (v : WorldState) (one : Bool) → IsStep w e v one → Frames w v
step_frames w e v true h = event_frames w e v (sym h.can) (h.happens refl)
step_frames w e v false h = let same = h.refused refl in Stay (ap (λ (x : WorldState). x.slots) same) (same_newest w v (ap (λ (x : WorldState). x.start) same) (ap (λ (x : WorldState). x.master.next) same))

-- ---- each frame is of a number that was used, and alone of its number and part

pub record Numbered (w : WorldState) : Type 0 where
  pub below : (k : ℕ) (f : Flight) → flight_at w k ≡ Some f → f.number < newest w
  pub once : (i j : ℕ) (f g : Flight) → flight_at w i ≡ Some f → flight_at w j ≡ Some g → f.number ≡ g.number → f.part ≡ g.part → i ≡ j

-- where a frame was
pub record WasAt (w : WorldState) (k : ℕ) (f : Flight) : Type 0 where
  pub flight : Flight
  pub there : flight_at w k ≡ Some flight
  pub number : flight.number ≡ f.number
  pub part : flight.part ≡ f.part
  pub passed : flight.passed ≤ f.passed

stays_at : (w : WorldState) (k : ℕ) (f : Flight) → flight_at w k ≡ Some f → WasAt w k f
stays_at w k f at = record { flight = f; there = at; number = refl; part = refl; passed = omega arith }

-- a frame behind an event was in its slot, or is new
abbrev Came : WorldState → WorldState → ℕ → Flight → Type 0
Came w v k f = WasAt w k f ⊎ ((f.number ≡ newest w) × (newest w < newest v))

came : (w v : WorldState) → Numbered w → Frames w v → (k : ℕ) (f : Flight) → flight_at v k ≡ Some f → Came w v k f
came w v h (Stay slots more) k f at = inl (stays_at w k f (ap (λ os. get_or os k None) (sym slots) ∙ at))
came w v h (Come fs parts slots more) k f at = elim (cases_lt f.number (newest w)) [
  | inl low ↦ inl (stays_at w k f (filled_was (λ (g : Flight). g.number < newest w) fs w.slots (λ i x there few. let n = in_parts_number number_in part_in (newest w) 0 fs i x parts there in omega (arith, n, few)) k f here low))
  | inr high ↦
      let most : f.number ≤ newest w = filled_has (λ (g : Flight). g.number ≤ newest w) fs w.slots
      (λ i x there. let n = in_parts_number number_in part_in (newest w) 0 fs i x parts there in omega (arith, n)) (λ i x there. let n = h.below i x there in omega (arith, n)) k f here in
      let e : f.number ≡ newest w = omega (arith, most, high) in
      inr (e, more)
]
  where
    here : get_or (filled fs w.slots) k None ≡ Some f
    here = ap (λ os. get_or os k None) (sym slots) ∙ at
came w v h (Move j g bytes there slots more) k f at = elim (at_set w.slots j k (Some on) None) [
  | inl same ↦ inl (stays_at w k f (sym same ∙ (ap (λ os. get_or os k None) (sym slots) ∙ at)))
  | inr new ↦ inl (subst (λ (x : Flight). WasAt w k x) (some_same on f (sym new.1 ∙ (ap (λ os. get_or os k None) (sym slots) ∙ at)))
      (record { flight = g; there = ap (λ (n : ℕ). flight_at w n) new.0 ∙ there; number = refl; part = refl; passed = omega arith }))
]
  where
    on : Flight
    on = record g { bytes = bytes; passed = g.passed + 1 }
came w v h (Leave j slots more) k f at = elim (at_set w.slots j k None None) [
  | inl same ↦ inl (stays_at w k f (sym same ∙ (ap (λ os. get_or os k None) (sym slots) ∙ at)))
  | inr new ↦ absurd (none_some f (sym new.1 ∙ (ap (λ os. get_or os k None) (sym slots) ∙ at)))
]

newest_grows : (w v : WorldState) → Frames w v → newest w ≤ newest v
newest_grows w v (Stay slots more) = more
newest_grows w v (Come fs parts slots more) = omega (arith, more)
newest_grows w v (Move j g bytes there slots more) = more
newest_grows w v (Leave j slots more) = more

-- of two new ones
new_once : (w v : WorldState) → Numbered w → Frames w v → (i j : ℕ) (f g : Flight) → flight_at v i ≡ Some f → flight_at v j ≡ Some g → f.number ≡ newest w → g.number ≡ newest w → f.part ≡ g.part → i ≡ j
new_once w v h (Come fs parts slots more) i j f g ef eg nf ng part =
    once_new number_in part_in (newest w) 0 fs w.slots parts (λ k x at e. let l = h.below k x at in omega (arith, l, e)) i j f g
    (ap (λ os. get_or os i None) (sym slots) ∙ ef) (ap (λ os. get_or os j None) (sym slots) ∙ eg) nf ng part
new_once w v h (Stay slots more) i j f g ef eg nf ng part = absurd (let l = h.below i f (ap (λ os. get_or os i None) (sym slots) ∙ ef) in omega (arith, l, nf))
new_once w v h (Move k x bytes there slots more) i j f g ef eg nf ng part = absurd (
    let l = set_has (λ (y : Flight). y.number < newest w) w.slots k (Some (record x { bytes = bytes; passed = x.passed + 1 }))
    (λ y q. let n = ap (λ (z : Flight). z.number) (some_same _ y q) in let m = h.below k x there in omega (arith, n, m)) (λ a y q. h.below a y q) i f (ap (λ os. get_or os i None) (sym slots) ∙ ef) in
    omega (arith, l, nf))
new_once w v h (Leave k slots more) i j f g ef eg nf ng part = absurd (
    let l = set_has (λ (y : Flight). y.number < newest w) w.slots k None (λ y q. absurd (none_some y q)) (λ a y q. h.below a y q) i f (ap (λ os. get_or os i None) (sym slots) ∙ ef) in
    omega (arith, l, nf))

numbered_step : (w v : WorldState) → Frames w v → Numbered w → Numbered v
numbered_step w v fr h = record {
  below = λ k f at. (let more = newest_grows w v fr in elim (came w v h fr k f at) [
    | inl was ↦ (let l = h.below k was.flight was.there in let n = was.number in omega (arith, l, n, more))
    | inr new ↦ (let e = new.0 in let l = new.1 in omega (arith, e, l))
  ]);
  once = λ i j f g ef eg number part. elim (came w v h fr i f ef) [
    | inl a ↦ elim (came w v h fr j g eg) [
      | inl b ↦ h.once i j a.flight b.flight a.there b.there (a.number ∙ (number ∙ sym b.number)) (a.part ∙ (part ∙ sym b.part))
      | inr new ↦ absurd (let l = h.below i a.flight a.there in let n = a.number in let e = new.0 in omega (arith, l, n, e, number))
    ]
    | inr new ↦ elim (came w v h fr j g eg) [
      | inl b ↦ absurd (let l = h.below j b.flight b.there in let n = b.number in let e = new.0 in omega (arith, l, n, e, number))
      | inr other ↦ new_once w v h fr i j f g ef eg new.0 other.0 part
    ]
  ];
}

pub numbered_run : (es : List Event) (w v : WorldState) (made : ℕ) → IsRun w es v made → Numbered w → Numbered v
numbered_run [] w v made h n = subst Numbered (sym h.0) n
numbered_run (e ∷ es) w v made h n = numbered_run es h.0 v h.2 h.4 (numbered_step w h.0 (step_frames w e h.0 h.1 h.3) n)

-- a new world has no frames
pub new_numbered : (t : Contents) (ids : List Identity) (w : WorldState) → IsNew t ids w → Numbered w
new_numbered t ids w n = record {
  below = λ k f at. absurd (none_some f (sym (none k) ∙ at));
  once = λ i j f g ef eg number part. absurd (none_some f (sym (none i) ∙ ef));
}
  where
    none : (k : ℕ) → flight_at w k ≡ None
    none k = ap (λ (x : WorldState). flight_at x k) n.is ∙ none_free slot_count k

-- ---- a frame that was there is where it was, and no further

-- the frames of a later world that aren't newer
pub record Stayed (base w : WorldState) : Type 0 where
  pub past : newest base ≤ newest w
  pub each : (k : ℕ) (f : Flight) → flight_at w k ≡ Some f → f.number < newest base → WasAt base k f

stayed_step : (base w v : WorldState) → Numbered w → Frames w v → Stayed base w → Stayed base v
stayed_step base w v n fr h = record {
  past = (let a = h.past in let b = newest_grows w v fr in omega (arith, a, b));
  each = λ k f at low. elim (came w v n fr k f at) [
    | inl was ↦
        let a = h.each k was.flight was.there (let z = was.number in omega (arith, z, low)) in
        record { flight = a.flight; there = a.there; number = a.number ∙ was.number; part = a.part ∙ was.part; passed = (let x = a.passed in let y = was.passed in omega (arith, x, y)) }
    | inr new ↦ absurd (let e = new.0 in let a = h.past in omega (arith, e, a, low))
  ];
}

stayed_run : (base : WorldState) (es : List Event) (w v : WorldState) (made : ℕ) → IsRun w es v made → Numbered w → Stayed base w → Stayed base v
stayed_run base [] w v made h n s = subst (Stayed base) (sym h.0) s
stayed_run base (e ∷ es) w v made h n s =
    let fr = step_frames w e h.0 h.1 h.3 in
    stayed_run base es h.0 v h.2 h.4 (numbered_step w h.0 fr n) (stayed_step base w h.0 n fr s)

pub stayed : (base : WorldState) (es : List Event) (v : WorldState) (made : ℕ) → Numbered base → IsRun base es v made → Stayed base v
stayed base es v made n h = stayed_run base es base v made h n (record { past = omega arith; each = λ k f at low. stays_at base k f at })
