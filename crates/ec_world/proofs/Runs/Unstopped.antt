-- Only a stop changes the start-up of a Ready world.
use Rattle.ec_world.proofs.Words.{ℕ, suc, ◌+◌, ◌*◌, ◌<◌, ◌≤◌, ◌≡◌, ◌==◌, ◌&&◌, ◌⊎◌, not, Bool, true, false, refl, sym, ◌∙◌, ap, subst, inl, inr, arith, if◌then◌else◌, List, [], ◌∷◌, length, is_some, list_all, unwrap_or, cases_Bool, and_parts, false≢true, true≢false, Some, Phase, Idle, Sent, Ready, Failed, StartState, IsStartTaken, IsOutstanding, begun, sending, given_up_by, action_of, name_datagram, datagram_of, MasterState, Event, StartNext, Begin, Pass, Return, Close, AppPut, AppGet, Stop, Meaning, Plain, step, run, WorldState, IsStep, Happens, can_happen, awaits, is_up, phase_awaits, phase_ready, resumed, stopped, ByStart, StartReturns, Returns, GivesUp, Closes, IsRun, IsMade, UnstoppedLaw}
use Rattle.std.specs.Prelude.{max}
use Rattle.std.proofs.Math.Nat.{le-max_left}
use Rattle.std.specs.List.{Contains}
use Rattle.ec_start.specs.Running.{polled, judged, type_of, max_polls}
use Rattle.ec_start.specs.Verdicts.{verdict}
use Rattle.ec_start.specs.declared.error.StartError.TheVariants.{TooSlow}
use Rattle.ec_start.specs.declared.verdict.Verdict.{Verdict}
use Rattle.ec_start.specs.declared.verdict.Verdict.TheVariants.{Again, Aside}
use Rattle.ec_world.proofs.Runs.OneOutcomeLaw.{second_there}

-- ---- how far a start-up is

abbrev pub is_low : Phase → ℕ
is_low Idle = 1
is_low (Sent number) = 0
is_low Ready = 0
is_low (Failed failure) = 1

-- it grows with each frame that is sent, and with a stop
abbrev pub height : StartState → ℕ
height s = 2 * s.next + is_low s.phase

low_few : (p : Phase) → is_low p ≤ 1
low_few Idle = omega arith
low_few (Sent number) = omega arith
low_few Ready = omega arith
low_few (Failed failure) = omega arith

low_up : (p : Phase) → phase_ready p ≡ true → is_low p ≡ 0
low_up Ready e = refl
low_up _ e = absurd (let z : false ≡ true = e in cc)

up_awaits : (p : Phase) → phase_ready p ≡ true → phase_awaits p ≡ false
up_awaits Ready e = refl
up_awaits _ e = absurd (let z : false ≡ true = e in cc)

pub resumed_next : (s : StartState) (p : Phase) → (resumed s p).next ≡ s.next
unfolding begun
resumed_next s (Failed failure) = refl
resumed_next s _ = refl

polled_next : (s : StartState) → (polled s).next ≡ s.next
polled_next s = elim (s.polls + 1 == max_polls) as (λ b. (let t : StartState = if b then record s { phase = Failed (TooSlow s.place) } else record s { fed = 0; polls = s.polls + 1; phase = Idle } in t.next) ≡ s.next) [ true ↦ refl | false ↦ refl ]

judged_next : (s : StartState) (v : Verdict) → (judged s v).next ≡ s.next
judged_next s Again = polled_next s
judged_next s (Aside heard) = polled_next (record s { heard = Some heard })
judged_next s _ = refl

pub taken_next : (s t : StartState) (payload : List ℕ) (is_accepted : Bool) → IsStartTaken s payload is_accepted t → t.next ≡ s.next
taken_next s t payload false h = ap (λ (x : StartState). x.next) (h.foreign refl)
taken_next s t payload true h =
    let o : IsOutstanding s payload = h.only refl in
    let d = second_there o.frame.datagrams (name_datagram o.number 0) (datagram_of (action_of s) o.number) o.answer.shapes in
    ap (λ (x : StartState). x.next) (h.kept o.frame d.0 refl o.spelled d.1) ∙ judged_next s (verdict (length s.plan) s.place s.seen (type_of s.plan) (action_of s) d.0)

taken_height : (s t : StartState) (payload : List ℕ) (is_accepted : Bool) → IsStartTaken s payload is_accepted t → height s ≤ height t
taken_height s t payload false h = let same : height t ≡ height s = ap height (h.foreign refl) in omega (arith, same)
taken_height s t payload true h =
    let low : is_low s.phase ≡ 0 = ap is_low (h.only refl).sent in
    let same = taken_next s t payload true h in
    omega (arith, low, same)

given_height : (s : StartState) (p : Phase) → s.phase ≡ p → height s ≤ height (given_up_by s p)
given_height s Idle e = let low : is_low s.phase ≡ 1 = ap is_low e in omega (arith, low)
given_height s (Sent number) e = let low : is_low s.phase ≡ 0 = ap is_low e in omega (arith, low)
given_height s Ready e = omega arith
given_height s (Failed failure) e = omega arith

pub stopped_number : (s : StartState) (m : MasterState) → (stopped s m).next ≡ max s.next m.next
unfolding begun
stopped_number s m = refl

stopped_next : (s : StartState) (m : MasterState) → s.next ≤ (stopped s m).next
stopped_next s m = let n = stopped_number s m in let l = le-max_left s.next m.next in omega (arith, n, l)

pub stopped_low : (s : StartState) (m : MasterState) → is_up (stopped s m) ≡ false
unfolding begun
stopped_low s m = refl

pub stopped_plan : (s : StartState) (m : MasterState) → (stopped s m).plan ≡ s.plan
unfolding begun
stopped_plan s m = refl

pub stopped_feeds : (s : StartState) (m : MasterState) → (stopped s m).feeds ≡ s.feeds
unfolding begun
stopped_feeds s m = refl

stopped_height : (s : StartState) (m : MasterState) → is_low (stopped s m).phase ≡ 1
unfolding begun
stopped_height s m = refl

stop_raises : (s : StartState) (m : MasterState) → is_up s ≡ true → height s < height (stopped s m)
stop_raises s m up =
    let a = low_up s.phase up in
    let b = stopped_height s m in
    let c = stopped_next s m in
    omega (arith, a, b, c)

sent_height : (s : StartState) → height (sending s) ≡ 2 * (s.next + 1)
sent_height s = let z : 2 * (s.next + 1) + 0 ≡ 2 * (s.next + 1) = omega arith in z

-- ---- each event raises it, or leaves it as it is

rests : (old new : WorldState) → new.start ≡ old.start → height old.start ≤ height new.start
rests old new e = let same : height new.start ≡ height old.start = ap height e in omega (arith, same)

return_height : (b : Bool) (old : WorldState) (k : ℕ) (new : WorldState) → ByStart b (StartReturns old k new) (Returns old k new) → height old.start ≤ height new.start
return_height true old k new h = taken_height old.start new.start h.flight.bytes h.is_accepted h.start
return_height false old k new h = rests old new (ap (λ (x : WorldState). x.start) h.is)

close_height : (b : Bool) (old new : WorldState) → ByStart b (GivesUp old new) (Closes old new) → height old.start ≤ height new.start
close_height true old new h =
    let is : height new.start ≡ height (given_up_by old.start old.start.phase) = ap (λ (x : WorldState). height x.start) h in
    let up = given_height old.start old.start.phase refl in
    omega (arith, is, up)
close_height false old new h = rests old new (ap (λ (x : WorldState). x.start) h.is)

event_height : (old : WorldState) (e : Event) (new : WorldState) → can_happen old e ≡ true → Happens old e new → height old.start ≤ height new.start
event_height old StartNext new can h =
    let is : height new.start ≡ 2 * ((resumed old.start old.start.phase).next + 1) = ap (λ (x : WorldState). height x.start) h.is ∙ sent_height (resumed old.start old.start.phase) in
    let same = resumed_next old.start old.start.phase in
    let few = low_few old.start.phase in
    omega (arith, is, same, few)
event_height old (Return k) new can h = return_height (awaits old.start) old k new h
event_height old Close new can h = close_height (awaits old.start) old new h
event_height old Stop new can h =
    let is : height new.start ≡ height (stopped old.start old.master) = ap (λ (x : WorldState). height x.start) h in
    let up = stop_raises old.start old.master (and_parts (is_up old.start) _ can).0 in
    omega (arith, is, up)
event_height old Begin new can h = rests old new (ap (λ (x : WorldState). x.start) h.is)
event_height old (Pass k) new can h = rests old new (ap (λ (x : WorldState). x.start) h.is)
event_height old (AppPut s i x) new can h = rests old new (ap (λ (x : WorldState). x.start) h.is)
event_height old (AppGet s i) new can h = rests old new (ap (λ (x : WorldState). x.start) h.is)
event_height old _ new can h = rests old new (ap (λ (x : WorldState). x.start) h)

step_height : (old : WorldState) (e : Event) (new : WorldState) (one : Bool) → IsStep old e new one → height old.start ≤ height new.start
step_height old e new true h = event_height old e new (sym h.can) (h.happens refl)
step_height old e new false h = rests old new (ap (λ (x : WorldState). x.start) (h.refused refl))

run_height : (es : List Event) (old new : WorldState) (made : ℕ) → IsRun old es new made → height old.start ≤ height new.start
run_height [] old new made h = rests old new (ap (λ (x : WorldState). x.start) h.0)
run_height (e ∷ es) old new made h =
    let one = step_height old e h.0 h.1 h.3 in
    let more = run_height es h.0 new h.2 h.4 in
    omega (arith, one, more)

-- ---- in a Ready world only a stop changes the start-up

never : (w : WorldState) → is_up w.start ≡ true → can_happen w StartNext ≡ true → ⊥
never w up can = true≢false (sym (and_parts (not (is_up w.start)) _ can).0 ∙ ap not up)

return_rests : (b : Bool) (old : WorldState) (k : ℕ) (new : WorldState) → b ≡ false → ByStart b (StartReturns old k new) (Returns old k new) → new.start ≡ old.start
return_rests true old k new off h = absurd (false≢true (sym off))
return_rests false old k new off h = ap (λ (x : WorldState). x.start) h.is

close_rests : (b : Bool) (old new : WorldState) → b ≡ false → ByStart b (GivesUp old new) (Closes old new) → new.start ≡ old.start
close_rests true old new off h = absurd (false≢true (sym off))
close_rests false old new off h = ap (λ (x : WorldState). x.start) h.is

event_rests : (old : WorldState) (e : Event) (new : WorldState) → is_up old.start ≡ true → can_happen old e ≡ true → Happens old e new → (new.start ≡ old.start) ⊎ (e ≡ Stop)
event_rests old StartNext new up can h = absurd (never old up can)
event_rests old (Return k) new up can h = inl (return_rests (awaits old.start) old k new (up_awaits old.start.phase up) h)
event_rests old Close new up can h = inl (close_rests (awaits old.start) old new (up_awaits old.start.phase up) h)
event_rests old Stop new up can h = inr refl
event_rests old Begin new up can h = inl (ap (λ (x : WorldState). x.start) h.is)
event_rests old (Pass k) new up can h = inl (ap (λ (x : WorldState). x.start) h.is)
event_rests old (AppPut s i x) new up can h = inl (ap (λ (x : WorldState). x.start) h.is)
event_rests old (AppGet s i) new up can h = inl (ap (λ (x : WorldState). x.start) h.is)
event_rests old _ new up can h = inl (ap (λ (x : WorldState). x.start) h)

-- its start-up is as it was, or it is stopped
pub stays_or_stops : (old : WorldState) (e : Event) (new : WorldState) (one : Bool) → is_up old.start ≡ true → IsStep old e new one → (new.start ≡ old.start) ⊎ ((e ≡ Stop) × (one ≡ true))
stays_or_stops old e new false up h = inl (ap (λ (x : WorldState). x.start) (h.refused refl))
stays_or_stops old e new true up h = elim (event_rests old e new up (sym h.can) (h.happens refl)) [
  | inl same ↦ inl same
  | inr stop ↦ inr (stop, refl)
]

-- a stop that is made changes it
pub stop_is_seen : (old new : WorldState) → is_up old.start ≡ true → IsStep old Stop new true → new.start ≡ old.start → ⊥
stop_is_seen old new up h same =
    let is : height new.start ≡ height (stopped old.start old.master) = ap (λ (x : WorldState). height x.start) (h.happens refl) in
    let e : height new.start ≡ height old.start = ap height same in
    let more = stop_raises old.start old.master up in
    omega (arith, is, e, more)

stays_low : (es : List Event) (old new : WorldState) (made : ℕ) → is_up old.start ≡ true → IsRun old es new made → height new.start ≤ height old.start → new.start ≡ old.start
stays_low [] old new made up h low = ap (λ (x : WorldState). x.start) h.0
stays_low (e ∷ es) old new made up h low = elim (stays_or_stops old e h.0 h.1 up h.3) [
  | inl same ↦ stays_low es h.0 new h.2 (ap is_up same ∙ up) h.4 (let z : height h.0.start ≡ height old.start = ap height same in omega (arith, z, low)) ∙ same
  | inr stop ↦ absurd (
      let raised : height h.0.start ≡ height (stopped old.start old.master) = ap (λ (x : WorldState). height x.start) (stop_made old e h.0 h.1 stop.0 stop.1 h.3) in
      let more = stop_raises old.start old.master up in
      let rest = run_height es h.0 new h.2 h.4 in
      omega (arith, raised, more, rest, low))
]
  where
    stop_made : (old : WorldState) (e : Event) (mid : WorldState) (one : Bool) → e ≡ Stop → one ≡ true → IsStep old e mid one → mid ≡ record old { start = stopped old.start old.master }
    stop_made old e mid one is made h = (subst (λ (d : Event). Happens old d mid) is (h.happens made))

-- from a world to a later one with the same start-up, there was no stop on the way
pub still_at : (old : WorldState) (xs : List Event) (at : WorldState) (first : ℕ) (ys : List Event) (new : WorldState) (rest : ℕ) → is_up old.start ≡ true → IsRun old xs at first → IsRun at ys new rest → new.start ≡ old.start
    → at.start ≡ old.start
still_at old xs at first ys new rest up h g same =
    let more = run_height ys at new rest g in
    let z : height new.start ≡ height old.start = ap height same in
    stays_low xs old at first up h (omega (arith, more, z))

-- one event of it
pub still_next : (old : WorldState) (e : Event) (mid : WorldState) (one : Bool) (es : List Event) (new : WorldState) (rest : ℕ) → is_up old.start ≡ true → IsStep old e mid one → IsRun mid es new rest → new.start ≡ old.start
    → mid.start ≡ old.start
still_next old e mid one es new rest up h g same = still_at old (e ∷ []) mid _ es new rest up (mid, one, 0, h, (refl, refl), refl) g same

-- where an event of a run was made
pub at_still : (old : WorldState) (events : List Event) (new : WorldState) (e : Event) → is_up old.start ≡ true → (x : IsMade old events new e) → new.start ≡ old.start → x.at.start ≡ old.start
at_still old events new e up x same = still_at old x.before x.at x.first (e ∷ x.behind) new (1 + x.rest) up x.to_it (x.next, true, x.rest, x.step, x.onward, refl) same

pub next_still : (old : WorldState) (events : List Event) (new : WorldState) (e : Event) → is_up old.start ≡ true → (x : IsMade old events new e) → new.start ≡ old.start → x.next.start ≡ old.start
next_still old events new e up x same =
    let at = at_still old events new e up x same in
    still_next x.at e x.next true x.behind new x.rest (ap is_up at ∙ up) x.step x.onward (same ∙ sym at) ∙ at

-- ---- lists without a stop

abbrev pub is_calm : Event → Bool
is_calm Stop = false
is_calm e = true

pub calm_step : (old : WorldState) (e : Event) (new : WorldState) (one : Bool) → is_calm e ≡ true → is_up old.start ≡ true → IsStep old e new one → new.start ≡ old.start
calm_step old e new one calm up h = elim (stays_or_stops old e new one up h) [
  | inl same ↦ same
  | inr stop ↦ absurd (false≢true (sym (ap is_calm stop.0) ∙ calm))
]

pub calm_run : (es : List Event) (old new : WorldState) (made : ℕ) → list_all is_calm es ≡ true → is_up old.start ≡ true → IsRun old es new made → new.start ≡ old.start
calm_run [] old new made calm up h = ap (λ (x : WorldState). x.start) h.0
calm_run (e ∷ es) old new made calm up h =
    let both = and_parts (is_calm e) (list_all is_calm es) calm in
    let same = calm_step old e h.0 h.1 both.0 up h.3 in
    calm_run es h.0 new h.2 both.1 (ap is_up same ∙ up) h.4 ∙ same

is_stop : (e : Event) → is_calm e ≡ false → e ≡ Stop
is_stop Stop h = refl
is_stop _ h = absurd (let z : true ≡ false = h in cc)

calm_list : (es : List Event) → (Contains es Stop → ⊥) → list_all is_calm es ≡ true
calm_list [] none = refl
calm_list (e ∷ es) none = elim (cases_Bool (is_calm e)) [
  | inl calm ↦ ap (λ b. b && list_all is_calm es) calm ∙ calm_list es (λ c. none (suc c.0, (let l = c.1 in omega (arith, l)), c.2))
  | inr stops ↦ absurd (none (0, omega arith, is_stop e stops))
]

pub unstopped_law : UnstoppedLaw
unstopped_law old events new made up none h = calm_run events old new made (calm_list events none) up h

-- ---- what the plain machine makes is no stop

pub made_calm : (m : Meaning) (p : Plain) (e : Event) → is_some (step m p e) ≡ true → is_calm e ≡ true
made_calm m p Stop h = absurd (false≢true h)
made_calm m p _ h = refl

made_few : (m : Meaning) (p : Plain) (es : List Event) → (run m p es).made ≤ length es
made_few m p [] = omega arith
made_few m p (e ∷ es) = by (is_some (step m p e)) (made_few m (unwrap_or (step m p e) p) es)
  where
    by : (b : Bool) → (run m (unwrap_or (step m p e) p) es).made ≤ length es → (if b then 1 else 0) + (run m (unwrap_or (step m p e) p) es).made ≤ suc (length es)
    by true l = omega (arith, l)
    by false l = omega (arith, l)

one_made : (one : Bool) (rest : ℕ) (es : List Event) (e : Event) → rest ≤ length es → (if one then 1 else 0) + rest ≡ length (e ∷ es) → (one ≡ true) × (rest ≡ length es)
one_made true rest es e l h = (refl, omega (arith, h))
one_made false rest es e l h = absurd (omega (arith, l, h))

-- where it makes all events, it makes the first, and all behind it
pub full_parts : (m : Meaning) (p : Plain) (e : Event) (es : List Event) → (run m p (e ∷ es)).made ≡ length (e ∷ es) → (is_some (step m p e) ≡ true) × ((run m (unwrap_or (step m p e) p) es).made ≡ length es)
full_parts m p e es full = one_made (is_some (step m p e)) (run m (unwrap_or (step m p e) p) es).made es e (made_few m (unwrap_or (step m p e) p) es) full

pub full_calm : (m : Meaning) (p : Plain) (es : List Event) → (run m p es).made ≡ length es → list_all is_calm es ≡ true
full_calm m p [] full = refl
full_calm m p (e ∷ es) full =
    let both = full_parts m p e es full in
    ap (λ b. b && list_all is_calm es) (made_calm m p e both.0) ∙ full_calm m (unwrap_or (step m p e) p) es both.1
