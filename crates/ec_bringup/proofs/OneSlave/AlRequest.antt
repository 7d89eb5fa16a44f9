-- A firmware step of a slave that stands at a stage: the AL request, and the SII read.
use Rattle.ec_bringup.proofs.Words.{ℕ, zero, suc, ◌<◌, ◌≡◌, ◌⊎◌, ◌&&◌, not, Bool, true, false, refl, sym, ◌∙◌, ap, subst, inl, inr, arith, List, [], ◌∷◌, length, map, if◌then◌else◌, slice_index, Result, Ok, Err, both_ways, cases_Bool, and_left, and_right, length-map, if_false, if_true, SlaveKind, SyncManager, zeros_published, State, Init, PreOp, SafeOp, Op, StatusCode, InvalidMailboxConfiguration, InvalidOutputConfiguration, InvalidInputConfiguration, Checks, state_number, code_number, answer, requested_by, acknowledges, Al, decided, slave_answered as answered, SlaveState, manager_at, control_word, checks_of, unlocked_empty, managers_entered, with_al, request_decided, read_finished, Sii, requests_decided, finished, switched_on, Rise, Falls, Stays, Climbs, Config, Stage, Before, Called, Down, Lowered, Up, IsStepUp, IsOfKind, IsInInit, HasFallen, Rises, IsUpAt, IsDownAt, IsLoweredAt, Reached, HadFault, Stands, Option, None, Some, ◌==◌, requested_number, Hardware, has_firmware, awaiting, is_safeop, outputs_awaited, is_awaiting, al_decided, has_outputs, copied, and_from, length-set, is_preop, is_init, is_slow, waiting, greets, greets_by, emergency_put, managers_decided, replies_decided, emergency_bytes, has_emergency, is_some, is_none, takes_reply, has_room, padded, filled, is_enabled, is_set, is_mailbox, is_master_read, nat_lt, lt-ltb, cases_lt, cases_eq, le-leb, ◌≤◌, ◌≢◌, ◌||◌, get_or-set_other, get_or-set_same, no_manager, reply_counter, has_some, init_request, takes_messages, greeting_of, left_to_say, IsSilent, Talks, Talk, HoldsZeros, IsEarly, SdoRequest, and_parts}
use Rattle.ec_al.specs.Al as al
use Rattle.ec_sync.specs.SyncManager.{message_put, may_put_message}
use Rattle.ec_slave.specs.Serving.{replies_entered}
use Rattle.ec_bringup.proofs.OneSlave.Alike.{SameFronts, fronts-refl, fronts-trans, Alike, assigned-same, left-init, kind-kept, slave-alike, stands-alike, stands-by, gone-on, had-fault, down-rest, lowered-rest, up-rest, set-front}

-- ---- the managers, where a state is entered

map-unlocked : (ms : List SyncManager) (n : ℕ) → (manager_at (map unlocked_empty ms) n).locked ≡ false
map-unlocked [] n = refl
map-unlocked (m ∷ ms) zero = refl
map-unlocked (m ∷ ms) (suc n) = map-unlocked ms n

-- no state is left for INIT
abbrev NoFall : State → State → Type 0
NoFall Init new = Unit {0}
NoFall old Init = ⊥
NoFall old new = Unit {0}

entered-front : (old new : State) (ms : List SyncManager) → 3 < length ms → NoFall old new → SameFronts ms (managers_entered old new ms)
entered-front Init Init ms l h = fronts-refl ms
entered-front PreOp SafeOp ms l h =
    set-front ms 3 (zeros_published (manager_at ms 3)) l (record { settings = refl; locked = refl; mail = refl }) (λ e. absurd (omega (arith, e)))
entered-front _ Init ms l h = absurd h
entered-front _ _ ms l h = fronts-refl ms

-- whether outputs are awaited is nothing that is known of a slave
if-front : (b : Bool) (ms ns : List SyncManager) → SameFronts ms ns → SameFronts ms (if b then ns else ms)
if-front true ms ns h = h
if-front false ms ns h = fronts-refl ms

awaited-front : (o : Option Hardware) (b : Bool) (old new : State) (ms : List SyncManager) → 3 < length ms → SameFronts ms (outputs_awaited o b old new ms)
awaited-front None b old new ms l = fronts-refl ms
awaited-front (Some h) b old new ms l =
    if-front (is_safeop new && not (is_safeop old)) ms _
    (set-front ms 2 (awaiting (manager_at ms 2) (h.has_firmware && b)) (omega (arith, l)) (record { settings = refl; locked = refl; mail = refl }) (λ e. refl))

awaited-init : (o : Option Hardware) (b : Bool) (old : State) (ms : List SyncManager) → outputs_awaited o b old Init ms ≡ ms
awaited-init None b old ms = refl
awaited-init (Some h) b old ms = refl

-- INIT entered from another state: all unlocked
abbrev Drops : State → State → Type 0
Drops Init new = ⊥
Drops old Init = Unit {0}
Drops old new = ⊥

pub cases_fall : (old new : State) → NoFall old new ⊎ Drops old new
cases_fall Init _ = inl tt
cases_fall _ Init = inr tt
cases_fall _ _ = inl tt

falls-entered : (old new : State) (ms : List SyncManager) → Drops old new → managers_entered old new ms ≡ map unlocked_empty ms
falls-entered Init _ ms h = absurd h
falls-entered _ Init ms h = refl
falls-entered _ _ ms h = absurd h

-- ---- an emergency is sent as PREOP is entered from INIT, and never else

greets-off : (kind : SlaveKind) (old new : State) (m : SyncManager) → (is_preop new && is_init old) ≡ false → greets kind old new m ≡ false
greets-off kind old new m e = by (has_emergency kind.hardware) (is_preop new) (is_init old) e
  where
    by : (x p i : Bool) → (p && i) ≡ false → (x && (p && (i && (is_some kind.mailbox && (takes_reply m && has_room m))))) ≡ false
    by true true true q = absurd (both_ways true q refl)
    by true true false q = refl
    by true false i q = refl
    by false p i q = refl

-- then managers are those that are decided
unsaid : (s : SlaveState) (a : Al) → greets_by s a ≡ false → (with_al s a).managers ≡ managers_decided s a
unsaid s a g = ap (λ (b : Bool). emergency_put b (replies_decided s a) (managers_decided s a)) g

drops-managers : (s : SlaveState) (a : Al) → Drops s.al.state a.state → (with_al s a).managers ≡ map unlocked_empty s.managers
drops-managers s a f =
    unsaid s a (greets-off s.kind s.al.state a.state (manager_at (managers_decided s a) 1) (ap (λ (x : State). is_preop x && is_init s.al.state) (to-init s.al.state a.state f)))
    ∙ (ap (λ (new : State). outputs_awaited s.kind.hardware (has_outputs s) s.al.state new (managers_entered s.al.state a.state s.managers)) (to-init s.al.state a.state f)
    ∙ (awaited-init s.kind.hardware (has_outputs s) s.al.state (managers_entered s.al.state a.state s.managers) ∙ falls-entered s.al.state a.state s.managers f))
  where
    to-init : (old new : State) → Drops old new → new ≡ Init
    to-init Init _ h = absurd h
    to-init _ Init h = refl
    to-init _ _ h = absurd h

no_fall-init : (old new : State) → NoFall old new → new ≡ Init → old ≡ Init
no_fall-init Init new h e = refl
no_fall-init _ Init h e = absurd h
no_fall-init _ _ h e = cc

-- ---- the AL state machine is given another state

-- the managers that are decided, from the front
decided-fronts : (s : SlaveState) (a : Al) → 3 < length s.managers → NoFall s.al.state a.state → SameFronts s.managers (managers_decided s a)
decided-fronts s a l h =
    let front = entered-front s.al.state a.state s.managers l h in
    let many : 3 < length (managers_entered s.al.state a.state s.managers) = let e = front.four in omega (arith, e, l) in
    fronts-trans s.managers (managers_entered s.al.state a.state s.managers) _ front
    (awaited-front s.kind.hardware (has_outputs s) s.al.state a.state (managers_entered s.al.state a.state s.managers) many)

pub al-alike : (s : SlaveState) (a : Al) → 3 < length s.managers → NoFall s.al.state a.state → greets_by s a ≡ false → Alike s (with_al s a)
al-alike s a l h g = record {
  kind = refl;
  room = refl;
  memory = λ x k. refl;
  managers = subst (λ (ms : List SyncManager). SameFronts s.managers ms) (sym (unsaid s a g)) (decided-fronts s a l h);
  idle = λ e. e;
  objects = record { kind = refl; identity = refl; outs = refl; ins = refl; values = refl };
}

-- as many managers, whatever is sent
put-length : (b : Bool) (r : ℕ) (ms : List SyncManager) → length (emergency_put b r ms) ≡ length ms
put-length true r ms = length-set ms 1 _
put-length false r ms = refl

al-slave : (kind : SlaveKind) (s : SlaveState) (a : Al) → IsOfKind kind s → IsOfKind kind (with_al s a)
al-slave kind s a h =
    let l : 3 < length s.managers = let e = h.four in omega arith in
    elim (cases_fall s.al.state a.state) [
      | inl n ↦ kind-kept kind s (with_al s a) refl refl (put-length (greets_by s a) (replies_decided s a) (managers_decided s a) ∙ (decided-fronts s a l n).four) refl refl refl
          (λ e k b. ap (λ (ms : List SyncManager). (manager_at ms k).locked) (unsaid s a (greets-off s.kind s.al.state a.state (manager_at (managers_decided s a) 1) (ap (λ (x : State). is_preop x && is_init s.al.state) e)))
          ∙ (((decided-fronts s a l n).each k).locked ∙ h.unlocked_in_init (no_fall-init s.al.state a.state n e) k b))
          (λ x e. refl) h
      | inr f ↦ record {
        kind_is = h.kind_is;
        room = h.room;
        four = ap length (drops-managers s a f) ∙ (length-map s.managers unlocked_empty ∙ h.four);
        outs = h.outs;
        ins = h.ins;
        fixed = λ e. let g = h.fixed e in record { outs = g.outs; ins = g.ins };
        sizes = h.sizes;
        unlocked_in_init = λ e n k. ap (λ (ms : List SyncManager). (manager_at ms n).locked) (drops-managers s a f) ∙ map-unlocked s.managers n;
        missing = h.missing;
      }
    ]

-- ---- a request that waits on

pub waiting-alike : (s : SlaveState) → Alike s (record s { al = waiting s.al })
waiting-alike s = record { kind = refl; room = refl; memory = λ x k. refl; managers = fronts-refl s.managers; idle = λ e. e; objects = record { kind = refl; identity = refl; outs = refl; ins = refl; values = refl } }

-- ---- what is decided

-- 0x0011 leads to INIT
decided-init : (a : Al) (checks : Checks) → decided a 0x0011 checks ≡ al.power_on
decided-init a checks =
    if_false _ (al.ignored a) _ (and_right a.error _ refl) ∙ ap (λ r. answered a r) (init a.state)
  where
    init : (st : State) → answer st (requested_by 0x0011) checks ≡ Ok Init
    init Init = refl
    init _ = refl

-- a step up without an error is granted or refused
pub data Climbed (from to : State) (a : Al) : Type 0 where
  Granted : a ≡ record { state = to; error = false; code = 0; requested = false; waited = 0 } → Climbed from to a
  Refused : (code : ℕ) → a ≡ record { state = from; error = true; code = code; requested = false; waited = 0 } → Climbed from to a

-- what a step up is answered: granted, or refused
abbrev IsAnswer : State → Result State StatusCode → Type 0
IsAnswer to r = (r ≡ Ok to) ⊎ ((code : StatusCode) × (r ≡ Err code))

by_answer : (a : Al) (from to : State) (r : Result State StatusCode) → a.state ≡ from → IsAnswer to r → Climbed from to (answered a r)
by_answer a from to r e (inl g) = subst (λ (x : Result State StatusCode). Climbed from to (answered a x)) (sym g) (Granted refl)
by_answer a from to r e (inr (code, g)) = subst (λ (x : Result State StatusCode). Climbed from to (answered a x)) (sym g) (Refused (code_number code) (ap (λ (t : State). record { state = t; error = true; code = code_number code; requested = false; waited = 0 }) e))

tested : (to : State) (b : Bool) (r : Result State StatusCode) (code : StatusCode) → IsAnswer to r → IsAnswer to (if b then r else Err code)
tested to true r code h = h
tested to false r code h = inr (code, refl)

answer-climb : (from to : State) (checks : Checks) → IsStepUp from to → IsAnswer to (answer from (requested_by (state_number to)) checks)
answer-climb Init PreOp checks h = tested PreOp checks.mailbox (Ok PreOp) InvalidMailboxConfiguration (inl refl)
answer-climb PreOp SafeOp checks h =
    tested SafeOp checks.outputs _ InvalidOutputConfiguration (tested SafeOp checks.inputs (Ok SafeOp) InvalidInputConfiguration (inl refl))
answer-climb SafeOp Op checks h = inl refl
answer-climb _ _ checks h = absurd h

-- a request for a higher state acknowledges nothing
no-ack : (from to : State) → IsStepUp from to → acknowledges (state_number to) ≡ false
no-ack Init PreOp h = refl
no-ack PreOp SafeOp h = refl
no-ack SafeOp Op h = refl
no-ack _ _ h = absurd h

pub decided-climb : (a : Al) (from to : State) (control : ℕ) (checks : Checks) → IsStepUp from to → a.state ≡ from → control ≡ state_number to
    → Climbed from to (decided a control checks)
decided-climb a from to control checks up e c = elim (cases_Bool a.error) [
  -- with an error it is ignored
  | inl bad ↦
      let no : not (acknowledges control) ≡ true = ap not (ap acknowledges c ∙ no-ack from to up) in
      let d : decided a control checks ≡ al.ignored a = if_true (a.error && not (acknowledges control)) (al.ignored a) _ (and_from a.error (not (acknowledges control)) bad no) in
      subst (λ (x : Al). Climbed from to x) (sym d)
      (Refused a.code (ap (λ (t : State). record { state = t; error = a.error; code = a.code; requested = false; waited = 0 }) e
      ∙ ap (λ (b : Bool). record { state = from; error = b; code = a.code; requested = false; waited = 0 }) bad))
  | inr n ↦
      let d : decided a control checks ≡ answered a (answer from (requested_by (state_number to)) checks)
      = if_false (a.error && not (acknowledges control)) (al.ignored a) _ (and_left _ _ n)
      ∙ (ap (λ (k : ℕ). answered a (answer a.state (requested_by k) checks)) c
      ∙ ap (λ (t : State). answered a (answer t (requested_by (state_number to)) checks)) e) in
      subst (λ (x : Al). Climbed from to x) (sym d) (by_answer a from to _ e (answer-climb from to checks up))
]

-- without firmware it is always granted
copied-climb : (a : Al) (from to : State) (control : ℕ) → IsStepUp from to → control ≡ state_number to → Climbed from to (copied a control)
copied-climb a from to control up c = subst (λ (k : ℕ). Climbed from to (copied a k)) (sym c) (go from to up)
  where
    go : (x y : State) → IsStepUp x y → Climbed x y (copied a (state_number y))
    go Init PreOp h = Granted refl
    go PreOp SafeOp h = Granted refl
    go SafeOp Op h = Granted refl
    go _ _ h = absurd h

pub decided-up : (o : Option Hardware) (s : SlaveState) (from to : State) → IsStepUp from to → s.al.state ≡ from → control_word s ≡ state_number to → Climbed from to (al_decided o s)
decided-up None s from to up e c = decided-climb s.al from to (control_word s) (checks_of s) up e c
decided-up (Some h) s from to up e c = by h.has_firmware
  where
    by : (b : Bool) → Climbed from to (if b then decided s.al (control_word s) (checks_of s) else copied s.al (control_word s))
    by true = decided-climb s.al from to (control_word s) (checks_of s) up e c
    by false = copied-climb s.al from to (control_word s) up c

-- ---- the request decided

pub no_fall-up : (from to : State) → IsStepUp from to → NoFall from to
no_fall-up Init to h = tt
no_fall-up PreOp SafeOp h = tt
no_fall-up SafeOp Op h = tt
no_fall-up _ _ h = absurd h

no_fall-same : (s : State) → NoFall s s
no_fall-same Init = tt
no_fall-same _ = tt

pub waits-none : (s : SlaveState) → s.al.requested ≡ false → request_decided s ≡ s
waits-none s e = (requests_decided s).rests e

pub waits-slow : (s : SlaveState) → s.al.requested ≡ true → is_slow s.kind.hardware s ≡ true → request_decided s ≡ record s { al = waiting s.al }
waits-slow s e w = (requests_decided s).slow e w

pub decided-is : (s : SlaveState) → s.al.requested ≡ true → is_slow s.kind.hardware s ≡ false → is_awaiting s.kind.hardware s ≡ false → request_decided s ≡ with_al s (al_decided s.kind.hardware s)
decided-is s e q w = (requests_decided s).decides e q w

-- the AL state machine after phase 1's request: a device without firmware shows the acknowledgement as an error
abbrev pub fallen_al : Option Hardware → Al
fallen_al o = record { state = Init; error = not (has_firmware o); code = 0; requested = false; waited = 0 }

-- asked for INIT it awaits nothing
init-awaits : (o : Option Hardware) (s : SlaveState) → control_word s ≡ 0x0011 → is_awaiting o s ≡ false
init-awaits None s c = refl
init-awaits (Some h) s c = and_right h.has_firmware _ (and_right (is_safeop s.al.state) _ (and_left _ _ (ap (λ (k : ℕ). requested_number k == state_number Op) c)))

init-al : (o : Option Hardware) (s : SlaveState) → control_word s ≡ 0x0011 → al_decided o s ≡ fallen_al o
init-al None s c = ap (λ (k : ℕ). decided s.al k (checks_of s)) c ∙ decided-init s.al (checks_of s)
init-al (Some h) s c = by h.has_firmware
  where
    by : (b : Bool) → (if b then decided s.al (control_word s) (checks_of s) else copied s.al (control_word s)) ≡ record { state = Init; error = not b; code = 0; requested = false; waited = 0 }
    by true = ap (λ (k : ℕ). decided s.al k (checks_of s)) c ∙ decided-init s.al (checks_of s)
    by false = ap (copied s.al) c

pub init-decided : (s : SlaveState) → s.al.requested ≡ true → is_slow s.kind.hardware s ≡ false → control_word s ≡ 0x0011 → request_decided s ≡ with_al s (fallen_al s.kind.hardware)
init-decided s e q c = decided-is s e q (init-awaits s.kind.hardware s c) ∙ ap (λ (a : Al). with_al s a) (init-al s.kind.hardware s c)

pub in-init : (s : SlaveState) → IsInInit (with_al s (fallen_al s.kind.hardware))
in-init s = record { state = refl; no_error = λ f. ap not f; asked = λ e. absurd (both_ways false refl e) }

pub has-fallen : (s : SlaveState) → HasFallen (with_al s (fallen_al s.kind.hardware))
has-fallen s = record { state = refl; no_error = λ f q. ap not f; asked = λ e. absurd (both_ways false refl e) }

pub slave-decided : (kind : SlaveKind) (s : SlaveState) → IsOfKind kind s → IsOfKind kind (request_decided s)
slave-decided kind s h = elim (cases_Bool s.al.requested) [
  | inl e ↦ elim (cases_Bool (is_slow s.kind.hardware s)) [
    | inl q ↦ subst (λ (t : SlaveState). IsOfKind kind t) (sym (waits-slow s e q)) (slave-alike kind s (record s { al = waiting s.al }) (waiting-alike s) (λ x. x) h)
    | inr q ↦ elim (cases_Bool (is_awaiting s.kind.hardware s)) [
      | inl w ↦ subst (λ (t : SlaveState). IsOfKind kind t) (sym ((requests_decided s).awaits q w)) h
      | inr w ↦ subst (λ (t : SlaveState). IsOfKind kind t) (sym (decided-is s e q w)) (al-slave kind s (al_decided s.kind.hardware s) h)
    ]
  ]
  | inr e ↦ subst (λ (t : SlaveState). IsOfKind kind t) (sym (waits-none s e)) h
]

-- what a slave in INIT is after it
pub data Kept (s t : SlaveState) : Type 0 where
  Same : t ≡ s → Kept s t
  WaitsOn : t ≡ record s { al = waiting s.al } → s.al.requested ≡ true → Kept s t
  Turned : t ≡ with_al s (fallen_al s.kind.hardware) → s.al.state ≡ Init → Kept s t

kept-init : (s : SlaveState) → s.al.state ≡ Init → (s.al.requested ≡ true → control_word s ≡ 0x0011) → Kept s (request_decided s)
kept-init s state asked = elim (cases_Bool s.al.requested) [
  | inl e ↦ elim (cases_Bool (is_slow s.kind.hardware s)) [
    | inl q ↦ WaitsOn (waits-slow s e q) e
    | inr q ↦ Turned (init-decided s e q (asked e)) state
  ]
  | inr e ↦ Same (waits-none s e)
]

-- a slave that turned in INIT keeps all but its AL machine
turned-alike : (s : SlaveState) → s.al.state ≡ Init → 3 < length s.managers → Alike s (with_al s (fallen_al s.kind.hardware))
turned-alike s e l = al-alike s (fallen_al s.kind.hardware) l (subst (λ (t : State). NoFall t Init) (sym e) tt) (greets-off s.kind s.al.state Init (manager_at (managers_decided s (fallen_al s.kind.hardware)) 1) refl)

-- a request that waits on in INIT
waiting-fallen : (s : SlaveState) → HasFallen s → HasFallen (record s { al = waiting s.al })
waiting-fallen s h = record { state = h.state; no_error = h.no_error; asked = h.asked }

waiting-init : (s : SlaveState) → IsInInit s → IsInInit (record s { al = waiting s.al })
waiting-init s h = record { state = h.state; no_error = h.no_error; asked = h.asked }

climbed-rises : (s : SlaveState) (from to : State) (a : Al) → IsStepUp from to → Climbed from to a → Rises (Climbs from to) (with_al s a)
climbed-rises s from to a up (Granted e) = (up, inr (inl (record { state_is = ap (λ (x : Al). x.state) e; no_error = ap (λ (x : Al). x.error) e; no_request = ap (λ (x : Al). x.requested) e })))
climbed-rises s from to a up (Refused code e) = (up, inr (inr (record { state = ap (λ (x : Al). x.state) e; error = ap (λ (x : Al). x.error) e; no_request = ap (λ (x : Al). x.requested) e })))

pub climbed-no_fall : (from to : State) (a : Al) → IsStepUp from to → Climbed from to a → NoFall from a.state
climbed-no_fall from to a up (Granted e) = subst (λ (t : State). NoFall from t) (sym (ap (λ (x : Al). x.state) e)) (no_fall-up from to up)
climbed-no_fall from to a up (Refused code e) = subst (λ (t : State). NoFall from t) (sym (ap (λ (x : Al). x.state) e)) (no_fall-same from)

-- a step up from another state than INIT says nothing
higher-off : (kind : SlaveKind) (from to : State) (m : SyncManager) → (from ≡ Init → ⊥) → greets kind from to m ≡ false
higher-off kind Init to m ne = absurd (ne refl)
higher-off kind PreOp to m ne = greets-off kind PreOp to m (and_right (is_preop to) false refl)
higher-off kind SafeOp to m ne = greets-off kind SafeOp to m (and_right (is_preop to) false refl)
higher-off kind Op to m ne = greets-off kind Op to m (and_right (is_preop to) false refl)

same-off : (kind : SlaveKind) (st : State) (m : SyncManager) → greets kind st st m ≡ false
same-off kind Init m = greets-off kind Init Init m refl
same-off kind PreOp m = greets-off kind PreOp PreOp m refl
same-off kind SafeOp m = greets-off kind SafeOp SafeOp m refl
same-off kind Op m = greets-off kind Op Op m refl

-- and leads to no INIT
not-init-up : (from to : State) → IsStepUp from to → (from ≡ Init → ⊥) → is_init to ≡ is_init from
not-init-up Init to up ne = absurd (ne refl)
not-init-up PreOp SafeOp up ne = refl
not-init-up SafeOp Op up ne = refl
not-init-up _ _ up ne = absurd up

from-init : (from to : State) → IsStepUp from to → from ≡ Init → to ≡ PreOp
from-init Init PreOp up e = refl
from-init PreOp SafeOp up e = absurd (cc e)
from-init SafeOp Op up e = absurd (cc e)
from-init _ _ up e = absurd up

is-from-init : (st : State) → (st ≡ Init) ⊎ (st ≡ Init → ⊥)
is-from-init Init = inl refl
is-from-init PreOp = inr (λ e. cc e)
is-from-init SafeOp = inr (λ e. cc e)
is-from-init Op = inr (λ e. cc e)

-- ---- PREOP is entered: what the slave says lies in manager 1

-- the manager takes it, by its settings alone where it is unlocked and empty
puts : SyncManager → Bool
puts m = takes_reply m && has_room m

puts-by : (a b c d l n : Bool) → l ≡ false → n ≡ true → (((a && not l) && (b && (c && n))) && d) ≡ (a && (b && (c && d)))
puts-by true true true d l n e f = ap (λ (x : Bool). ((not x) && n) && d) e ∙ ap (λ (x : Bool). x && d) f
puts-by true true false d l n e f = ap (λ (x : Bool). ((not x) && false) && d) e
puts-by true false c d l n e f = ap (λ (x : Bool). ((not x) && false) && d) e
puts-by false b c d l n e f = refl

puts-free : (m : SyncManager) → m.locked ≡ false → m.mail ≡ None → puts m ≡ takes_messages m.settings
unfolding puts is_set
puts-free m l e = puts-by (is_set m.settings) (is_mailbox m.settings) (is_master_read m.settings) (has_room m) m.locked (is_none m.mail) l (ap is_none e)

-- then it is put
put-mail : (m : SyncManager) (bytes : List ℕ) → length bytes ≡ 16 → puts m ≡ true → (message_put m bytes).mail ≡ Some (padded m bytes)
unfolding is_set puts
put-mail m bytes size h =
    let p = and_parts (takes_reply m) (has_room m) h in
    let q = and_parts (is_enabled m) _ p.0 in
    let r = and_parts (is_mailbox m.settings) _ q.1 in
    let s = and_parts (is_master_read m.settings) (is_none m.mail) r.1 in
    let long : 16 ≤ m.settings.length = roomy m.settings.length p.1 in
    ap (λ (x : SyncManager). x.mail) (if_true (may_put_message m (length bytes)) (record m { mail = Some (padded m bytes) }) m
    (and_from _ _ q.0 (and_from _ _ r.0 (and_from _ _ s.0 (and_from _ _ s.1 (le-leb (length bytes) m.settings.length (omega (arith, size, long))))))))
  where
    roomy : (n : ℕ) → not (nat_lt n 16) ≡ true → 16 ≤ n
    roomy n e = elim (cases_lt n 16) [
      | inl l ↦ absurd (both_ways (not (nat_lt n 16)) (ap not (lt-ltb n 16 l)) e)
      | inr l ↦ l
    ]

put-settings : (m : SyncManager) (bytes : List ℕ) → ((message_put m bytes).settings ≡ m.settings) × ((message_put m bytes).locked ≡ m.locked)
put-settings m bytes = by (may_put_message m (length bytes))
  where
    by : (b : Bool) → ((if b then record m { mail = Some (padded m bytes) } else m).settings ≡ m.settings) × ((if b then record m { mail = Some (padded m bytes) } else m).locked ≡ m.locked)
    by true = (refl, refl)
    by false = (refl, refl)

-- the managers besides
pub put-others : (b : Bool) (r n : ℕ) (ms : List SyncManager) → n ≢ 1 → manager_at (emergency_put b r ms) n ≡ manager_at ms n
put-others true r n ms ne = get_or-set_other ms 1 n _ no_manager ne
put-others false r n ms ne = refl

put-own : (r : ℕ) (ms : List SyncManager) → 1 < length ms → manager_at (emergency_put true r ms) 1 ≡ message_put (manager_at ms 1) (emergency_bytes (reply_counter r))
put-own r ms l = get_or-set_same ms 1 _ no_manager l

put-front : (b : Bool) (r n : ℕ) (ms : List SyncManager) → 1 < length ms → ((manager_at (emergency_put b r ms) n).settings ≡ (manager_at ms n).settings) × ((manager_at (emergency_put b r ms) n).locked ≡ (manager_at ms n).locked)
put-front false r n ms l = (refl, refl)
put-front true r n ms l = elim (cases_eq n 1) [
  | inl e ↦ subst (λ (k : ℕ). ((manager_at (emergency_put true r ms) k).settings ≡ (manager_at ms k).settings) × ((manager_at (emergency_put true r ms) k).locked ≡ (manager_at ms k).locked)) (sym e)
      (let p = put-settings (manager_at ms 1) (emergency_bytes (reply_counter r)) in
      (ap (λ (m : SyncManager). m.settings) (put-own r ms l) ∙ p.0, ap (λ (m : SyncManager). m.locked) (put-own r ms l) ∙ p.1))
  | inr ne ↦ (ap (λ (m : SyncManager). m.settings) (put-others true r n ms ne), ap (λ (m : SyncManager). m.locked) (put-others true r n ms ne))
]

-- what lies in manager 1 then
put-said : (kind : SlaveKind) (ms : List SyncManager) → 1 < length ms → (manager_at ms 1).locked ≡ false → (manager_at ms 1).mail ≡ None
    → (manager_at (emergency_put (greets kind Init PreOp (manager_at ms 1)) 0 ms) 1).mail ≡ greeting_of kind (manager_at ms 1).settings
unfolding is_set puts
put-said kind ms l free none = by (has_emergency kind.hardware) (is_some kind.mailbox) (takes_messages (manager_at ms 1).settings) (puts-free (manager_at ms 1) free none)
  where
    m1 : SyncManager
    m1 = manager_at ms 1

    by : (x y z : Bool) → puts m1 ≡ z → (manager_at (emergency_put (x && (y && puts m1)) 0 ms) 1).mail ≡ (if x && (y && z) then Some (filled m1.settings.length (emergency_bytes 1)) else None)
    by true true true q =
        ap (λ (b : Bool). (manager_at (emergency_put b 0 ms) 1).mail) q ∙ (ap (λ (m : SyncManager). m.mail) (put-own 0 ms l) ∙ put-mail m1 (emergency_bytes 1) refl q)
    by true true false q = ap (λ (b : Bool). (manager_at (emergency_put b 0 ms) 1).mail) q ∙ none
    by true false z q = none
    by false y z q = none

-- the managers, from INIT to PREOP
entered-preop : (s : SlaveState) (a : Al) → s.al.state ≡ Init → a.state ≡ PreOp → (with_al s a).managers ≡ emergency_put (greets s.kind Init PreOp (manager_at s.managers 1)) 0 s.managers
entered-preop s a old new =
    ap (λ (st : State). emergency_put (greets s.kind st a.state (manager_at (outputs_awaited o b st a.state (managers_entered st a.state s.managers)) 1)) (replies_entered st a.state s.replies) (outputs_awaited o b st a.state (managers_entered st a.state s.managers))) old
    ∙ (ap (λ (st : State). emergency_put (greets s.kind Init st (manager_at (outputs_awaited o b Init st (managers_entered Init st s.managers)) 1)) (replies_entered Init st s.replies) (outputs_awaited o b Init st (managers_entered Init st s.managers))) new
    ∙ ap (λ (ms : List SyncManager). emergency_put (greets s.kind Init PreOp (manager_at ms 1)) 0 ms) (none-awaited o))
  where
    o : Option Hardware
    o = s.kind.hardware

    b : Bool
    b = has_outputs s

    none-awaited : (x : Option Hardware) → outputs_awaited x b Init PreOp s.managers ≡ s.managers
    none-awaited None = refl
    none-awaited (Some h) = refl

entered-up : (i : ℕ) (c : Config) (s : SlaveState) (a : Al) → c.rise ≡ Climbs Init PreOp → 3 < length s.managers → s.al.state ≡ Init → a.state ≡ PreOp → Rises (Climbs Init PreOp) (with_al s a) → IsUpAt i c s → IsUpAt i c (with_al s a)
entered-up i c s a e l old new r u =
    let t : SlaveState = with_al s a in
    let g : Bool = greets s.kind Init PreOp (manager_at s.managers 1) in
    let ms = entered-preop s a old new in
    let quiet = u.early (subst IsEarly (sym e) tt) in
    let silent : IsSilent c s = subst (λ (o : Option Talk). Talks i c o s) quiet.0 u.talks in
    let at : (n : ℕ) → n ≢ 1 → manager_at t.managers n ≡ manager_at s.managers n = λ n ne. ap (λ (xs : List SyncManager). manager_at xs n) ms ∙ put-others g 0 n s.managers ne in
    let front = λ (n : ℕ). put-front g 0 n s.managers (omega (arith, l)) in
    let settings : (n : ℕ) → (manager_at t.managers n).settings ≡ (manager_at s.managers n).settings = λ n. ap (λ (xs : List SyncManager). (manager_at xs n).settings) ms ∙ (front n).0 in
    let locked : (n : ℕ) → (manager_at t.managers n).locked ≡ (manager_at s.managers n).locked = λ n. ap (λ (xs : List SyncManager). (manager_at xs n).locked) ms ∙ (front n).1 in
    let none : (manager_at s.managers 1).mail ≡ None = silent.no_reply ∙ left-init c s old in
    let said : (manager_at t.managers 1).mail ≡ greeting_of s.kind (manager_at s.managers 1).settings
    = ap (λ (xs : List SyncManager). (manager_at xs 1).mail) ms ∙ put-said s.kind s.managers (omega (arith, l)) (u.unlocked 1 (omega arith)) none in
    let left : left_to_say c t ≡ greeting_of s.kind (manager_at s.managers 1).settings
    = ap (λ (rs : List SdoRequest). if has_some rs || is_init a.state then None else greeting_of s.kind (manager_at t.managers 1).settings) quiet.1
    ∙ (ap (λ (st : State). if is_init st then None else greeting_of s.kind (manager_at t.managers 1).settings) new
    ∙ ap (greeting_of s.kind) (settings 1)) in
    record {
      configured = record {
        station_is = u.configured.station_is;
        settings = λ n k. settings n ∙ u.configured.settings n k;
        fmmus = u.configured.fmmus;
        idle = u.configured.idle;
        no_messages = λ n b k. ap (λ (m : SyncManager). m.mail) (at n (λ q. omega (arith, q, b))) ∙ u.configured.no_messages n b k;
        outputs = subst HoldsZeros (sym (at 2 (λ q. omega (arith, q)))) u.configured.outputs;
      };
      unlocked = λ n k. locked n ∙ u.unlocked n k;
      rises = subst (λ (x : Rise). Rises x t) (sym e) r;
      talks = subst (λ (o : Option Talk). Talks i c o t) (sym quiet.0) (record {
        no_message = ap (λ (m : SyncManager). m.mail) (at 0 (λ q. omega (arith, q))) ∙ silent.no_message;
        no_reply = said ∙ sym left;
        assigned = assigned-same c s t (record { kind = refl; identity = refl; outs = refl; ins = refl; values = refl }) silent.assigned;
      });
      early = u.early;
      quiet = u.quiet;
    }

-- the request is decided
climbs-decided : (i : ℕ) (c : Config) (from to : State) (s : SlaveState) (a : Al) → c.rise ≡ Climbs from to → 3 < length s.managers → IsStepUp from to → s.al.state ≡ from → Climbed from to a → IsUpAt i c s → IsUpAt i c (with_al s a)
climbs-decided i c from to s a e l up state (Refused code q) u =
    let at : a.state ≡ s.al.state = ap (λ (x : Al). x.state) q ∙ sym state in
    let n : NoFall s.al.state a.state = subst (λ (t : State). NoFall s.al.state t) (sym at) (no_fall-same s.al.state) in
    let off : greets_by s a ≡ false = ap (λ (t : State). greets s.kind s.al.state t (manager_at (managers_decided s a) 1)) at ∙ same-off s.kind s.al.state (manager_at (managers_decided s a) 1) in
    up-rest i c s (with_al s a) (al-alike s a l n off) (ap is_init at) (subst (λ (x : Rise). Rises x (with_al s a)) (sym e) (climbed-rises s from to a up (Refused code q))) u
climbs-decided i c from to s a e l up state (Granted q) u =
    let new : a.state ≡ to = ap (λ (x : Al). x.state) q in
    let rises : Rises (Climbs from to) (with_al s a) = climbed-rises s from to a up (Granted q) in
    elim (is-from-init from) [
      | inl z ↦
          let w : to ≡ PreOp = from-init from to up z in
          let both : Climbs from to ≡ Climbs Init PreOp = ap (λ (x : State). Climbs x to) z ∙ ap (λ (x : State). Climbs Init x) w in
          entered-up i c s a (e ∙ both) l (state ∙ z) (new ∙ w) (subst (λ (x : Rise). Rises x (with_al s a)) both rises) u
      | inr ne ↦
          let n : NoFall s.al.state a.state = subst (λ (t : State). NoFall t a.state) (sym state) (climbed-no_fall from to a up (Granted q)) in
          let off : greets_by s a ≡ false
          = ap (λ (t : State). greets s.kind t a.state (manager_at (managers_decided s a) 1)) state ∙ higher-off s.kind from a.state (manager_at (managers_decided s a) 1) ne in
          up-rest i c s (with_al s a) (al-alike s a l n off) (ap is_init new ∙ (not-init-up from to up ne ∙ ap is_init (sym state))) (subst (λ (x : Rise). Rises x (with_al s a)) (sym e) rises) u
    ]

-- a request that waits on changes nothing that is known
waiting-up : (i : ℕ) (c : Config) (s : SlaveState) → Rises c.rise (record s { al = waiting s.al }) → IsUpAt i c s → IsUpAt i c (record s { al = waiting s.al })
waiting-up i c s r u = up-rest i c s (record s { al = waiting s.al }) (waiting-alike s) refl r u

-- a slave that turned in INIT
turned-up : (i : ℕ) (c : Config) (s : SlaveState) → s.al.state ≡ Init → 3 < length s.managers → Rises c.rise (with_al s (fallen_al s.kind.hardware)) → IsUpAt i c s → IsUpAt i c (with_al s (fallen_al s.kind.hardware))
turned-up i c s z l r u = up-rest i c s (with_al s (fallen_al s.kind.hardware)) (turned-alike s z l) (ap is_init (sym z)) r u

up-decided : (i : ℕ) (c : Config) (r : Rise) (s : SlaveState) → c.rise ≡ r → 3 < length s.managers → Rises r s → IsUpAt i c s → IsUpAt i c (request_decided s)
up-decided i c Falls s e l h u = elim (kept-init s h.state h.asked) [
  | Same q ↦ subst (λ (t : SlaveState). IsUpAt i c t) (sym q) u
  | WaitsOn q x ↦ subst (λ (t : SlaveState). IsUpAt i c t) (sym q) (waiting-up i c s (subst (λ (x : Rise). Rises x (record s { al = waiting s.al })) (sym e) (waiting-fallen s h)) u)
  | Turned q z ↦ subst (λ (t : SlaveState). IsUpAt i c t) (sym q) (turned-up i c s z l (subst (λ (x : Rise). Rises x (with_al s (fallen_al s.kind.hardware))) (sym e) (has-fallen s)) u)
]
up-decided i c (Stays Init) s e l h u = elim (kept-init s h.state h.asked) [
  | Same q ↦ subst (λ (t : SlaveState). IsUpAt i c t) (sym q) u
  | WaitsOn q x ↦ subst (λ (t : SlaveState). IsUpAt i c t) (sym q) (waiting-up i c s (subst (λ (x : Rise). Rises x (record s { al = waiting s.al })) (sym e) (waiting-init s h)) u)
  | Turned q z ↦ subst (λ (t : SlaveState). IsUpAt i c t) (sym q) (turned-up i c s z l (subst (λ (x : Rise). Rises x (with_al s (fallen_al s.kind.hardware))) (sym e) (in-init s)) u)
]
up-decided i c (Stays _) s e l h u = subst (λ (t : SlaveState). IsUpAt i c t) (sym (waits-none s h.no_request)) u
up-decided i c (Climbs from to) s e l (up, inl h) u = elim (cases_Bool (is_slow s.kind.hardware s)) [
  | inl q ↦ subst (λ (t : SlaveState). IsUpAt i c t) (sym (waits-slow s h.request q))
      (waiting-up i c s (subst (λ (x : Rise). Rises x (record s { al = waiting s.al })) (sym e) (up, inl (record { state = h.state; request = h.request; control_is = h.control_is }))) u)
  | inr q ↦ elim (cases_Bool (is_awaiting s.kind.hardware s)) [
    | inl w ↦ subst (λ (t : SlaveState). IsUpAt i c t) (sym ((requests_decided s).awaits q w)) u
    | inr w ↦ subst (λ (t : SlaveState). IsUpAt i c t) (sym (decided-is s h.request q w))
        (climbs-decided i c from to s (al_decided s.kind.hardware s) e l up h.state (decided-up s.kind.hardware s from to up h.state h.control_is) u)
  ]
]
up-decided i c (Climbs from to) s e l (up, inr (inl h)) u = subst (λ (t : SlaveState). IsUpAt i c t) (sym (waits-none s h.no_request)) u
up-decided i c (Climbs from to) s e l (up, inr (inr h)) u = subst (λ (t : SlaveState). IsUpAt i c t) (sym (waits-none s h.no_request)) u

reached-decided : (i : ℕ) (st : Stage) (s : SlaveState) → 3 < length s.managers → Reached i st s → Reached i st (request_decided s)
reached-decided i Before s l h = tt
reached-decided i Called s l (inl h) = elim (cases_Bool (is_slow s.kind.hardware s)) [
  | inl q ↦ inl (subst (λ (t : SlaveState). (t.al.requested ≡ true) × (control_word t ≡ init_request)) (sym (waits-slow s h.0 q)) h)
  | inr q ↦ inr (subst (λ (t : SlaveState). HasFallen t) (sym (init-decided s h.0 q h.1)) (has-fallen s))
]
reached-decided i Called s l (inr h) = inr (kept (kept-init s h.state h.asked))
  where
    kept : Kept s (request_decided s) → HasFallen (request_decided s)
    kept (Same q) = subst (λ (t : SlaveState). HasFallen t) (sym q) h
    kept (WaitsOn q x) = subst (λ (t : SlaveState). HasFallen t) (sym q) (waiting-fallen s h)
    kept (Turned q z) = subst (λ (t : SlaveState). HasFallen t) (sym q) (has-fallen s)
reached-decided i (Down f m) s l h = elim (kept-init s h.init.state h.init.asked) [
  | Same q ↦ subst (λ (t : SlaveState). IsDownAt f m t) (sym q) h
  | WaitsOn q x ↦ subst (λ (t : SlaveState). IsDownAt f m t) (sym q) (down-rest f m s (record s { al = waiting s.al }) (waiting-alike s) (waiting-init s h.init) h)
  | Turned q z ↦ subst (λ (t : SlaveState). IsDownAt f m t) (sym q) (down-rest f m s (with_al s (fallen_al s.kind.hardware)) (turned-alike s z l) (in-init s) h)
]
reached-decided i (Lowered f m) s l h = elim (kept-init s h.low.state h.low.asked) [
  | Same q ↦ subst (λ (t : SlaveState). IsLoweredAt f m t) (sym q) h
  | WaitsOn q x ↦ subst (λ (t : SlaveState). IsLoweredAt f m t) (sym q) (lowered-rest f m s (record s { al = waiting s.al }) (waiting-alike s) (waiting-fallen s h.low) h)
  | Turned q z ↦ subst (λ (t : SlaveState). IsLoweredAt f m t) (sym q) (lowered-rest f m s (with_al s (fallen_al s.kind.hardware)) (turned-alike s z l) (has-fallen s) h)
]
reached-decided i (Up c) s l h = up-decided i c c.rise s refl l h.rises h

pub stands-decided : (kind : SlaveKind) (i : ℕ) (st : Stage) (trouble : Bool) (s : SlaveState) → Stands kind i st trouble s → Stands kind i st trouble (request_decided s)
stands-decided kind i st trouble s h =
    stands-by kind i st trouble s (request_decided s) (slave-decided kind s h.slave) (reached-decided i st s (let e = h.slave.four in omega arith))
    (λ g. waits-none s (ap (λ (t : SlaveState). t.al.requested) (gone-on st s g) ∙ ap (λ (a : Al). a.requested) (switched_on s.kind s.identity).al))
    (λ g. subst (λ (x : SlaveState). HadFault i st x) (sym (waits-none s (had-fault i st s g).1.no_request)) g) h

-- ---- the SII read finished

finished-alike : (s : SlaveState) → Alike s (read_finished s)
finished-alike s =
    let f = finished s in record {
      kind = ap (λ (t : SlaveState). t.kind) f.is;
      room = ap (λ (t : SlaveState). length t.memory) f.is;
      memory = λ x l. ap (λ (t : SlaveState). slice_index t.memory x) f.is;
      managers = subst (λ (t : SlaveState). SameFronts s.managers t.managers) (sym f.is) (fronts-refl s.managers);
      idle = λ e. f.idle;
      objects = record {
        kind = ap (λ (t : SlaveState). t.kind) f.is;
        identity = ap (λ (t : SlaveState). t.identity) f.is;
        outs = ap (λ (t : SlaveState). t.outs) f.is;
        ins = ap (λ (t : SlaveState). t.ins) f.is;
        values = ap (λ (t : SlaveState). t.values) f.is;
      };
    }

pub stands-finished : (kind : SlaveKind) (i : ℕ) (st : Stage) (trouble : Bool) (s : SlaveState) → Stands kind i st trouble s → Stands kind i st trouble (read_finished s)
stands-finished kind i st trouble s h =
    stands-alike kind i st trouble s (read_finished s) (finished-alike s) (ap (λ (t : SlaveState). t.al) (finished s).is) (λ g. (finished s).rests (ap (λ (t : SlaveState). t.sii.busy) (gone-on st s g) ∙ ap (λ (p : Sii). p.busy) (switched_on s.kind s.identity).sii)) h
