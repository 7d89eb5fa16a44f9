-- Slow firmware lets a request wait: what a slave that was asked for INIT is, by the frames that were sent since.
use Rattle.ec_bringup.proofs.Words.{ℕ, ◌+◌, ◌*◌, ◌-◌, ◌/◌, ◌%◌, ◌<◌, ◌≤◌, ◌≡◌, ◌==◌, ◌&&◌, ◌++◌, nat_lt, Bool, true, false, Option, Some, None, refl, sym, ◌∙◌, ap, subst, inl, inr, arith, if◌then◌else◌, List, [], ◌∷◌, both_ways, cases_Bool, cases_lt, cases_eq, eqb-true, and_from, and_left, and_right, lt-ltb, le-ltb, if_true, if_false, within_below, within_above, zeros, Hardware, SlaveKind, SdoRequest, Apwr, Fprd, Fpwr, Bwr, Datagram, IsDatagram, adp_of, State, Init, PreOp, SafeOp, Op, state_number, Al, waiting, requesting, read_command, SlaveState, Meeting, station_of, Window, touches, physical_after, slave_met, served, window_of, OnlyWrites, writes_meet, accesses_leave, other_position_passes, settles, is_slow, is_awaiting, is_safeop, requested_number, control_word, init_request, has_firmware, manager_bytes, fmmu_bytes, access_number, Action, CountSlaves, AskInit, AwaitInit, AwaitInitState, AwaitCleanInit, ClearFmmus, ClearManagers, ClearStations, ClearAllFmmus, ClearAllManagers, AssignSii, ClearSiiError, NameSlave, AskWord, AwaitWord, SetManager, SetFmmu, AskState, AwaitState, SendRequest, AwaitReply, AwaitFreeReply, FeedPart, station, sent, datagram_of, word_address_of, Rise, Falls, Stays, Climbs, Config, Stage, Before, Called, Down, Lowered, Up, config_after, climbing, answered, after, if_mine, up_after, named_of, Fits, FitsOne, CanAct, IsClear, IsClimbing, IsStepUp, IsAtInit, Reached, Rises, IsUpAt, Stands, Arrives, IsWriting, steps_slow}
use Rattle.ec_bringup.proofs.OneFrame.OtherSlaves.{IsOne, IsFor, as_one, one-passes, mine-told, ForAskState, ForAskWord, ForAwaitReply, ForAwaitFreeReply, ForAwaitState, ForAwaitCleanInit, ForAwaitWord, ForSend, ForSetFmmu, ForSetManager}
use Rattle.ec_bringup.proofs.OneFrame.RegisterWrites.{own-writes, window-sent}
use Rattle.ec_bringup.proofs.OneFrame.RegisterPolls.{read-slave}
use Rattle.ec_bringup.proofs.OneFrame.BroadcastWrites.{broadcast-writes, window-is, init-asked}
use Rattle.ec_bringup.proofs.OneFrame.NameSlave.{position-writes, naming}
use Rattle.ec_bringup.proofs.OneFrame.FrameLaw.{look, split}
use Rattle.ec_bringup.proofs.Script.Walks.{answered-frame}

-- ---- an undisturbed slave has reached its stage

pub reached-of : (kind : SlaveKind) (i : ℕ) (st : Stage) (s : SlaveState) → Stands kind i st false s → Reached i st s
reached-of kind i st s h = elim h.at [
  | inl r ↦ r
  | inr (t, x) ↦ absurd (both_ways false refl t)
]

pub up-of : (kind : SlaveKind) (i : ℕ) (c : Config) (s : SlaveState) → Stands kind i (Up c) false s → IsUpAt i c s
up-of kind i c s h = reached-of kind i (Up c) s h

-- ---- one firmware step, by how long the request has waited

pub slow-is : (o : Option Hardware) (s : SlaveState) → s.al.waited < steps_slow o → is_slow o s ≡ true
slow-is None s l = absurd (let k : s.al.waited < 0 = l in omega (arith, k))
slow-is (Some h) s l = by h.has_firmware refl
  where
    by : (b : Bool) → h.has_firmware ≡ b → (h.has_firmware && nat_lt s.al.waited h.slow) ≡ true
    by true e = and_from _ _ e (lt-ltb s.al.waited h.slow (subst (λ (n : ℕ). s.al.waited < n) (if_true h.has_firmware h.slow 0 e) l))
    by false e = absurd (let k : s.al.waited < 0 = subst (λ (n : ℕ). s.al.waited < n) (if_false h.has_firmware h.slow 0 e) l in omega (arith, k))

pub quick-is : (o : Option Hardware) (s : SlaveState) → steps_slow o ≤ s.al.waited → is_slow o s ≡ false
quick-is None s l = refl
quick-is (Some h) s l = by h.has_firmware refl
  where
    by : (b : Bool) → h.has_firmware ≡ b → (h.has_firmware && nat_lt s.al.waited h.slow) ≡ false
    by true e = and_right _ _ (le-ltb s.al.waited h.slow (subst (λ (n : ℕ). n ≤ s.al.waited) (if_true h.has_firmware h.slow 0 e) l))
    by false e = and_left _ _ e

-- only firmware is slow
pub slow-firm : (o : Option Hardware) → 0 < steps_slow o → has_firmware o ≡ true
slow-firm None l = absurd (let k : 0 < 0 = l in omega (arith, k))
slow-firm (Some h) l = by h.has_firmware refl
  where
    by : (b : Bool) → h.has_firmware ≡ b → h.has_firmware ≡ true
    by true e = e
    by false e = absurd (let k : 0 < 0 = subst (λ (n : ℕ). 0 < n) (if_false h.has_firmware h.slow 0 e) l in omega (arith, k))

-- without a request nothing changes
pub rested : (s : SlaveState) → s.al.requested ≡ false → (served s).al ≡ s.al
rested s e = elim (cases_Bool (is_slow s.kind.hardware s)) [
  | inl q ↦ (settles s).slow q ∙ if_false _ _ _ e
  | inr q ↦ elim (cases_Bool (is_awaiting s.kind.hardware s)) [
    | inl w ↦ (settles s).awaits q w
    | inr w ↦ (settles s).al q w ∙ if_false _ _ _ e
  ]
]

pub waited-on : (s : SlaveState) → s.al.requested ≡ true → is_slow s.kind.hardware s ≡ true → (served s).al ≡ waiting s.al
waited-on s r q = (settles s).slow q ∙ if_true _ _ _ r

-- a request for INIT waits for no outputs
init-at-once : (t : SlaveState) (o : Option Hardware) → control_word t ≡ init_request → is_awaiting o t ≡ false
init-at-once t o e = asked-low o t (ap (λ (n : ℕ). requested_number n == state_number Op) e)
  where
    low : (a b c d : Bool) → c ≡ false → (a && (b && (c && d))) ≡ false
    low true true true d q = absurd (both_ways true q refl)
    low true true false d q = refl
    low true false c d q = refl
    low false b c d q = refl

    asked-low : (x : Option Hardware) (s : SlaveState) → (requested_number (control_word s) == state_number Op) ≡ false → is_awaiting x s ≡ false
    asked-low None s q = refl
    asked-low (Some h) s q = low h.has_firmware (is_safeop s.al.state) (requested_number (control_word s) == state_number Op) _ q

-- ---- phase 1's request for INIT

-- `x` is the AL state machine as that request found it, and the request was the second frame
pub record IsLate (x : Al) (n : ℕ) (s : SlaveState) : Type 0 where
  pub state : s.al.state ≡ x.state
  pub error : s.al.error ≡ x.error
  pub asked : s.al.requested ≡ true
  pub waited : s.al.waited + 1 ≡ n

-- behind n frames: it waits, or was decided
abbrev pub LateBy : SlaveKind → Al → ℕ → SlaveState → Type 0
LateBy kind x n s = (n < steps_slow kind.hardware + 2 → IsLate x n s) × (steps_slow kind.hardware + 2 ≤ n → s.al.requested ≡ false)

-- a slave that was asked for INIT, and for nothing else yet
abbrev pub IsAskedInit : Stage → Type 0
IsAskedInit Before = ⊥
IsAskedInit Called = Unit {0}
IsAskedInit (Down f m) = Unit {0}
IsAskedInit (Lowered f m) = Unit {0}
IsAskedInit (Up c) = IsAtInit c.rise

abbrev pub LateAt : SlaveKind → Al → ℕ → Stage → SlaveState → Type 0
LateAt kind x n st s = IsAskedInit st → LateBy kind x n s

pub late-same : (kind : SlaveKind) (x : Al) (n : ℕ) (s t : SlaveState) → t.al ≡ s.al → LateBy kind x n s → LateBy kind x n t
late-same kind x n s t e h = (
  λ l. let w = h.0 l in
      record { state = ap (λ (a : Al). a.state) e ∙ w.state; error = ap (λ (a : Al). a.error) e ∙ w.error; asked = ap (λ (a : Al). a.requested) e ∙ w.asked; waited = ap (λ (a : Al). a.waited + 1) e ∙ w.waited },
  λ l. ap (λ (a : Al). a.requested) e ∙ h.1 l,
)

late-served : (kind : SlaveKind) (x : Al) (n : ℕ) (t : SlaveState) → t.kind ≡ kind → (t.al.requested ≡ true → control_word t ≡ init_request) → LateBy kind x n t → LateBy kind x (n + 1) (served t)
late-served kind x n t k asked h = (on, off)
  where
    same : steps_slow t.kind.hardware ≡ steps_slow kind.hardware
    same = ap (λ (y : SlaveKind). steps_slow y.hardware) k

    on : n + 1 < steps_slow kind.hardware + 2 → IsLate x (n + 1) (served t)
    on l =
        let w = h.0 (omega (arith, l)) in
        let wt = w.waited in
        let q : is_slow t.kind.hardware t ≡ true = slow-is t.kind.hardware t (omega (arith, l, wt, same)) in
        let a = waited-on t w.asked q in
        let z : (served t).al.waited ≡ t.al.waited + 1 = ap (λ (y : Al). y.waited) a in
        record { state = ap (λ (y : Al). y.state) a ∙ w.state; error = ap (λ (y : Al). y.error) a ∙ w.error; asked = ap (λ (y : Al). y.requested) a ∙ w.asked; waited = omega (arith, z, wt) }

    off : steps_slow kind.hardware + 2 ≤ n + 1 → (served t).al.requested ≡ false
    off l = elim (cases_lt n (steps_slow kind.hardware + 2)) [
      | inl m ↦
          let w = h.0 m in
          let wt = w.waited in
          (settles t).no_request (quick-is t.kind.hardware t (omega (arith, l, m, wt, same))) (init-at-once t t.kind.hardware (asked w.asked))
      | inr m ↦ ap (λ (y : Al). y.requested) (rested t (h.1 m)) ∙ h.1 m
    ]

-- what waits is the request for INIT
asked-at : (i : ℕ) (st : Stage) (t : SlaveState) → IsAskedInit st → Reached i st t → t.al.requested ≡ true → control_word t ≡ init_request
asked-at i Before t low h e = absurd low
asked-at i Called t low (inl h) e = h.1
asked-at i Called t low (inr h) e = h.asked e
asked-at i (Down f m) t low h e = h.init.asked e
asked-at i (Lowered f m) t low h e = h.low.asked e
asked-at i (Up c) t low h e = by c.rise low h.rises
  where
    by : (r : Rise) → IsAtInit r → Rises r t → control_word t ≡ init_request
    by Falls at g = g.asked e
    by (Stays Init) at g = g.asked e
    by (Stays PreOp) at g = absurd at
    by (Stays SafeOp) at g = absurd at
    by (Stays Op) at g = absurd at
    by (Climbs from to) at g = absurd at

-- ---- it was asked before, but for the request itself

clear-asked : (st : Stage) → IsClear st → IsAskedInit st
clear-asked Before h = absurd h
clear-asked Called h = absurd h
clear-asked (Down f m) h = tt
clear-asked (Lowered f m) h = tt
clear-asked (Up c) h = absurd h

down-up : (r : Rise) (to : State) → IsAtInit (climbing r to) → ⊥
down-up Falls to h = h
down-up (Stays from) to h = h
down-up (Climbs from other) to h = h

up-high : (from to : State) → IsStepUp from to → IsAtInit (Stays to) → ⊥
up-high Init Init c h = c
up-high PreOp Init c h = c
up-high SafeOp Init c h = c
up-high Op Init c h = c
up-high from PreOp c h = h
up-high from SafeOp c h = h
up-high from Op c h = h

waited-up : (r : Rise) (to : State) → IsClimbing r to → IsAtInit (Stays to) → ⊥
waited-up Falls to c h = c
waited-up (Stays from) to c h = c
waited-up (Climbs from other) to c h = up-high from to c.0 h

replied-low : (c : Config) (r : SdoRequest) → IsAtInit (answered c r).rise → IsAtInit c.rise
replied-low c r h = subst IsAtInit (answered-frame (record c { done = c.done ++ r ∷ [] }) r r.transfer).rise h

-- what an action for one slave leads from
one-asked : (t i : ℕ) (st : Stage) (a : Action) → FitsOne t i st a → ((c : Config) → CanAct c a → IsAtInit (config_after c a).rise → IsAtInit c.rise) → IsAskedInit (if_mine t i (up_after st a) st) → IsAskedInit st
one-asked t i (Up c) a f keep h = by (t == i) refl h
  where
    by : (b : Bool) → (t == i) ≡ b → IsAskedInit (if b then Up (config_after c a) else Up c) → IsAtInit c.rise
    by true e g = keep c (f.2 (eqb-true t i e)) g
    by false e g = g
one-asked t i _ a f keep h = absurd f.1

asked-before : (i : ℕ) (st : Stage) (a : Action) → Fits i st a → (a ≡ AskInit → ⊥) → IsAskedInit (after i st a) → IsAskedInit st
asked-before i st CountSlaves f ne h = h
asked-before i st AskInit f ne h = absurd (ne refl)
asked-before i Called AwaitInit f ne h = tt
asked-before i _ AwaitInit f ne h = absurd f
asked-before i Called AwaitInitState f ne h = tt
asked-before i _ AwaitInitState f ne h = absurd f
asked-before i (Down x m) ClearFmmus f ne h = tt
asked-before i _ ClearFmmus f ne h = absurd f
asked-before i (Down x m) ClearManagers f ne h = tt
asked-before i _ ClearManagers f ne h = absurd f
asked-before i (Lowered x m) ClearAllFmmus f ne h = tt
asked-before i _ ClearAllFmmus f ne h = absurd f
asked-before i (Lowered x m) ClearAllManagers f ne h = tt
asked-before i _ ClearAllManagers f ne h = absurd f
asked-before i st ClearStations f ne h = h
asked-before i st (AssignSii access) f ne h = h
asked-before i st ClearSiiError f ne h = h
asked-before i st (FeedPart g) f ne h = absurd f
asked-before i st (NameSlave t) f ne h = by (t == i) refl h
  where
    by : (b : Bool) → (t == i) ≡ b → IsAskedInit (if b then Up (named_of st) else st) → IsAskedInit st
    by true e g = clear-asked st (f.1 (eqb-true t i e))
    by false e g = g
asked-before i st (AwaitCleanInit t) f ne h = one-asked t i st (AwaitCleanInit t) f (λ c can g. can.0) h
asked-before i st (AskWord t which) f ne h = one-asked t i st (AskWord t which) f (λ c can g. g) h
asked-before i st (AwaitWord t which) f ne h = one-asked t i st (AwaitWord t which) f (λ c can g. g) h
asked-before i st (SetManager t n m r) f ne h = one-asked t i st (SetManager t n m r) f (λ c can g. g) h
asked-before i st (SetFmmu t n g start) f ne h = one-asked t i st (SetFmmu t n g start) f (λ c can x. x) h
asked-before i st (AskState t to) f ne h = one-asked t i st (AskState t to) f (λ c can g. absurd (down-up c.rise to g)) h
asked-before i st (AwaitState t to) f ne h = one-asked t i st (AwaitState t to) f (λ c can g. absurd (waited-up c.rise to can.1 g)) h
asked-before i st (SendRequest t counter b r) f ne h = one-asked t i st (SendRequest t counter b r) f (λ c can g. g) h
asked-before i st (AwaitReply t b r) f ne h = one-asked t i st (AwaitReply t b r) f (λ c can g. replied-low c r g) h
asked-before i st (AwaitFreeReply t b r) f ne h = one-asked t i st (AwaitFreeReply t b r) f (λ c can g. replied-low c r g) h

-- ---- no other datagram changes the AL state machine

pub read-al : (s : SlaveState) (d : Datagram) → d.command ≡ Fprd → adp_of d ≡ station_of s → (slave_met s d).al ≡ s.al
read-al s d c e = ap (λ (x : SlaveState). x.al) (read-slave s d c e ∙ (accesses_leave s (window_of d)).read)

-- a write elsewhere
write-al : (s : SlaveState) (d : Datagram) (w : Window) → OnlyWrites s d → window_of d ≡ w → touches w 0x0120 ≡ false → (slave_met s d).al ≡ s.al
write-al s d w only win away =
    ap (λ (x : SlaveState). x.al) ((writes_meet s d only).slave ∙ (ap (λ (x : Window). physical_after s false true x) win ∙ (accesses_leave s w).written)) ∙ if_false _ _ _ away

-- the waits that take more than one
abbrev pub IsPolled : Action → (more here : ℕ) → Type 0
IsPolled AwaitInitState more here = Unit {0}
IsPolled (AwaitCleanInit t) more here = Unit {0}
IsPolled (AwaitState t to) more here = Unit {0}
IsPolled (AwaitFreeReply t b r) more here = (here < more) × (more ≤ 1)
IsPolled _ more here = ⊥

module _ (kind : SlaveKind) (i number : ℕ) (d : Datagram) (s : SlaveState) (l : i < 64) (good : IsDatagram d) where
  -- an action for one slave
  one-kept : (t : ℕ) (st : Stage) (a : ℕ → Action) → ((x : ℕ) → IsFor x (a x)) → ((c : Config) → CanAct c (a i) → IsUpAt i c s → Arrives (a i) number i d → (slave_met s d).al ≡ s.al)
      → Fits i st (a t) → Arrives (a t) number i d → Stands kind i st false s → (slave_met s d).al ≡ s.al
  one-kept t st a is own = split t i (λ x. Fits i st (a x) → Arrives (a x) number i d → Stands kind i st false s → (slave_met s d).al ≡ s.al) (mine st)
      (λ ne f r h.
      let one = as_one number (is t) in
      let x = one.fits i st f in
      ap (λ (m : Meeting). m.slave.al) (one-passes kind i t st false s one.e d one.ado l x.0 ne x.1 h good one.command one.address (one.arrives i d r).gone_by))
    where
      mine : (x : Stage) → Fits i x (a i) → Arrives (a i) number i d → Stands kind i x false s → (slave_met s d).al ≡ s.al
      mine (Up c) f r h = own c (((as_one number (is i)).fits i (Up c) f).2 refl) (up-of kind i c s h) r
      mine x f r h = absurd ((as_one number (is i)).fits i x f).1

  -- one that leads up from INIT
  one-raised : (t : ℕ) (st : Stage) (a : ℕ → Action) → ((x : ℕ) → IsFor x (a x)) → ((c : Config) → CanAct c (a i) → IsAtInit (config_after c (a i)).rise → ⊥)
      → Fits i st (a t) → Arrives (a t) number i d → Stands kind i st false s → IsAskedInit (after i st (a t)) → (slave_met s d).al ≡ s.al
  one-raised t st a is never = split t i (λ x. Fits i st (a x) → Arrives (a x) number i d → Stands kind i st false s → IsAskedInit (after i st (a x)) → (slave_met s d).al ≡ s.al) (mine st)
      (λ ne f r h low.
      let one = as_one number (is t) in
      let x = one.fits i st f in
      ap (λ (m : Meeting). m.slave.al) (one-passes kind i t st false s one.e d one.ado l x.0 ne x.1 h good one.command one.address (one.arrives i d r).gone_by))
    where
      mine : (x : Stage) → Fits i x (a i) → Arrives (a i) number i d → Stands kind i x false s → IsAskedInit (after i x (a i)) → (slave_met s d).al ≡ s.al
      mine (Up c) f r h low = absurd (never c (((as_one number (is i)).fits i (Up c) f).2 refl) (subst IsAskedInit (mine-told (as_one number (is i)) c) low))
      mine x f r h low = absurd ((as_one number (is i)).fits i x f).1

  -- as it comes to its slave
  own-adp : (a : Action) (one : IsOne a i number) (c : Config) → IsUpAt i c s → Arrives a number i d → adp_of d ≡ station_of s
  own-adp a one c u r =
      let x = (one.arrives i d r).gone_by.address in
      let y = one.address in
      let z = u.configured.station_is in
      omega (arith, x, y, z, l)

  pub own-read : (a : Action) (one : IsOne a i number) → one.e.command ≡ Fprd → (c : Config) → IsUpAt i c s → Arrives a number i d → (slave_met s d).al ≡ s.al
  own-read a one cmd c u r = read-al s d ((one.arrives i d r).gone_by.command ∙ cmd) (own-adp a one c u r)

  own-written : (a : Action) (one : IsOne a i number) (w : Window) → one.e.command ≡ Fpwr → window_of one.e ≡ w → touches w 0x0120 ≡ false → (c : Config) → IsUpAt i c s → Arrives a number i d → (slave_met s d).al ≡ s.al
  own-written a one w cmd win away c u r =
      let x = one.arrives i d r in
      write-al s d w (own-writes s d (x.gone_by.command ∙ cmd) (own-adp a one c u r)) (ap window_of (x.to_come (omega arith)) ∙ win) away

  -- a broadcast
  all-written : (a : Action) (ado : ℕ) (bytes : List ℕ) → datagram_of a number ≡ sent Bwr 0 ado bytes number → touches (record { from = ado; bytes = bytes }) 0x0120 ≡ false
      → IsWriting (datagram_of a number) d (i % 65536) → (slave_met s d).al ≡ s.al
  all-written a ado bytes e away h =
      write-al s d (record { from = ado; bytes = bytes }) (broadcast-writes s d (h.command ∙ ap (λ (x : Datagram). x.command) e))
      (window-is (datagram_of a number) d (i % 65536) _ h (ap window_of e ∙ window-sent Bwr 0 ado bytes number)) away

  name-kept : (t : ℕ) → IsWriting (datagram_of (NameSlave t) number) d ((65536 - t + i) % 65536) → (slave_met s d).al ≡ s.al
  name-kept t h = elim (cases_eq (adp_of d) 0) [
    | inl e ↦
        write-al s d (naming t) (position-writes s d h.command e)
        (window-is (datagram_of (NameSlave t) number) d _ (naming t) h (window-sent Apwr (65536 - t) 0x0010 (station t % 256 ∷ station t / 256 ∷ []) number)) (within_above 0x0010 2 0x0120 (omega arith))
    | inr ne ↦ ap (λ (m : Meeting). m.slave.al) (other_position_passes s d good (inr (inl h.command)) ne)
  ]

  al-kept : (st : Stage) (a : Action) → (a ≡ AskInit → ⊥) → Fits i st a → Arrives a number i d → Stands kind i st false s → IsAskedInit (after i st a) → (slave_met s d).al ≡ s.al
  al-kept st CountSlaves ne f r h low = ap (λ (m : Meeting). m.slave.al) (look s d number r)
  al-kept st AskInit ne f r h low = absurd (ne refl)
  al-kept st AwaitInit ne f r h low = ap (λ (m : Meeting). m.slave.al) (look s d number r)
  al-kept st AwaitInitState ne f r h low = ap (λ (m : Meeting). m.slave.al) (look s d number r)
  al-kept st ClearFmmus ne f r h low = all-written ClearFmmus 0x0600 (zeros 64) refl (within_below 0x0600 64 0x0120 (omega arith)) r
  al-kept st ClearManagers ne f r h low = all-written ClearManagers 0x0800 (zeros 32) refl (within_below 0x0800 32 0x0120 (omega arith)) r
  al-kept st ClearStations ne f r h low = all-written ClearStations 0x0010 (zeros 2) refl (within_above 0x0010 2 0x0120 (omega arith)) r
  al-kept st ClearAllFmmus ne f r h low = all-written ClearAllFmmus 0x0600 (zeros 256) refl (within_below 0x0600 256 0x0120 (omega arith)) r
  al-kept st ClearAllManagers ne f r h low = all-written ClearAllManagers 0x0800 (zeros 128) refl (within_below 0x0800 128 0x0120 (omega arith)) r
  al-kept st (AssignSii access) ne f r h low = all-written (AssignSii access) 0x0500 (access_number access ∷ []) refl (within_below 0x0500 1 0x0120 (omega arith)) r
  al-kept st ClearSiiError ne f r h low = all-written ClearSiiError 0x0502 (zeros 2) refl (within_below 0x0502 2 0x0120 (omega arith)) r
  al-kept st (FeedPart g) ne f r h low = absurd f
  al-kept st (NameSlave t) ne f r h low = name-kept t r
  al-kept st (AwaitCleanInit t) ne f r h low =
      one-kept t st AwaitCleanInit ForAwaitCleanInit (λ c can u x. own-read (AwaitCleanInit i) (as_one number (ForAwaitCleanInit i)) refl c u x) f r h
  al-kept st (AwaitWord t k) ne f r h low =
      one-kept t st (λ x. AwaitWord x k) (λ x. ForAwaitWord x k) (λ c can u x. own-read (AwaitWord i k) (as_one number (ForAwaitWord i k)) refl c u x) f r h
  al-kept st (AwaitState t to) ne f r h low =
      one-kept t st (λ x. AwaitState x to) (λ x. ForAwaitState x to) (λ c can u x. own-read (AwaitState i to) (as_one number (ForAwaitState i to)) refl c u x) f r h
  al-kept st (AwaitReply t b q) ne f r h low =
      one-kept t st (λ x. AwaitReply x b q) (λ x. ForAwaitReply x b q) (λ c can u x. own-read (AwaitReply i b q) (as_one number (ForAwaitReply i b q)) refl c u x) f r h
  al-kept st (AwaitFreeReply t b q) ne f r h low =
      one-kept t st (λ x. AwaitFreeReply x b q) (λ x. ForAwaitFreeReply x b q) (λ c can u x. own-read (AwaitFreeReply i b q) (as_one number (ForAwaitFreeReply i b q)) refl c u x) f r h
  al-kept st (AskWord t k) ne f r h low =
      one-kept t st (λ x. AskWord x k) (λ x. ForAskWord x k)
      (λ c can u x. own-written (AskWord i k) (as_one number (ForAskWord i k)) (record { from = 0x0502; bytes = read_command (word_address_of k) }) refl (window-sent Fpwr (station i) 0x0502 (read_command (word_address_of k)) number)
      (within_below 0x0502 6 0x0120 (omega arith)) c u x) f r h
  al-kept st (SetManager t k m q) ne f r h low =
      one-kept t st (λ x. SetManager x k m q) (λ x. ForSetManager x k m q)
      (λ c can u x. own-written (SetManager i k m q) (as_one number (ForSetManager i k m q)) (record { from = 0x0800 + 8 * q.number; bytes = manager_bytes (record m { start = q.start }) }) refl
      (window-sent Fpwr (station i) (0x0800 + 8 * q.number) (manager_bytes (record m { start = q.start })) number) (within_below (0x0800 + 8 * q.number) 8 0x0120 (omega arith)) c u x) f r h
  al-kept st (SetFmmu t k g start) ne f r h low =
      one-kept t st (λ x. SetFmmu x k g start) (λ x. ForSetFmmu x k g start)
      (λ c can u x. own-written (SetFmmu i k g start) (as_one number (ForSetFmmu i k g start)) (record { from = 0x0600 + 16 * k; bytes = fmmu_bytes (record g { physical_start = start }) }) refl
      (window-sent Fpwr (station i) (0x0600 + 16 * k) (fmmu_bytes (record g { physical_start = start })) number) (within_below (0x0600 + 16 * k) 16 0x0120 (omega arith)) c u x) f r h
  al-kept st (AskState t to) ne f r h low =
      one-raised t st (λ x. AskState x to) (λ x. ForAskState x to) (λ c can at. down-up c.rise to at) f r h low
  al-kept st (SendRequest t k b q) ne f r h low =
      one-raised t st (λ x. SendRequest x k b q) (λ x. ForSend x k b q) (λ c can at. subst IsAtInit can.0 at) f r h low

  -- nor does a poll
  polled-kept : (st : Stage) (more here : ℕ) (a : Action) → IsPolled a more here → Fits i st a → Arrives a number i d → Stands kind i st false s → (slave_met s d).al ≡ s.al
  polled-kept st more here AwaitInitState p f r h = ap (λ (m : Meeting). m.slave.al) (look s d number r)
  polled-kept st more here (AwaitCleanInit t) p f r h =
      one-kept t st AwaitCleanInit ForAwaitCleanInit (λ c can u x. own-read (AwaitCleanInit i) (as_one number (ForAwaitCleanInit i)) refl c u x) f r h
  polled-kept st more here (AwaitState t to) p f r h =
      one-kept t st (λ x. AwaitState x to) (λ x. ForAwaitState x to) (λ c can u x. own-read (AwaitState i to) (as_one number (ForAwaitState i to)) refl c u x) f r h
  polled-kept st more here (AwaitFreeReply t b q) p f r h =
      one-kept t st (λ x. AwaitFreeReply x b q) (λ x. ForAwaitFreeReply x b q) (λ c can u x. own-read (AwaitFreeReply i b q) (as_one number (ForAwaitFreeReply i b q)) refl c u x) f r h
  polled-kept st more here _ p f r h = absurd p

  -- ---- behind a frame and the firmware steps after it

  -- phase 1's request itself
  asked-now : (x : Al) → s.al ≡ x → IsWriting (datagram_of AskInit number) d (i % 65536) → LateBy kind x 1 (slave_met s d)
  asked-now x e h =
      let win = window-is (datagram_of AskInit number) d (i % 65536) _ h (window-sent Bwr 0 0x0120 (0x11 ∷ 0 ∷ []) number) in
      let q : (slave_met s d).al ≡ requesting s.al
      = ap (λ (y : SlaveState). y.al) ((writes_meet s d (broadcast-writes s d h.command)).slave ∙ (ap (λ (w : Window). physical_after s false true w) win ∙ (accesses_leave s init-asked).written)) ∙ if_true (touches init-asked 0x0120) (requesting s.al) s.al refl in (
        λ m. record {
          state = ap (λ (a : Al). a.state) q ∙ ap (λ (a : Al). a.state) e;
          error = ap (λ (a : Al). a.error) q ∙ ap (λ (a : Al). a.error) e;
          asked = ap (λ (a : Al). a.requested) q;
          waited = ap (λ (a : Al). a.waited + 1) q;
        },
        λ m. absurd (omega (arith, m)),
      )

  pub late-after : (st : Stage) (x : Al) (n : ℕ) (a : Action) → Fits i st a → Arrives a number i d → Stands kind i st false s → Stands kind i (after i st a) false (slave_met s d)
      → (a ≡ AskInit → (n ≡ 1) × (s.al ≡ x)) → LateAt kind x n st s → LateAt kind x (n + 1) (after i st a) (served (slave_met s d))
  late-after st x n a f r h k begins late low =
      late-served kind x n (slave_met s d) k.slave.kind_is (asked-at i (after i st a) (slave_met s d) low (reached-of kind i (after i st a) (slave_met s d) k)) (by a f r begins low)
    where
      by : (y : Action) → Fits i st y → Arrives y number i d → (y ≡ AskInit → (n ≡ 1) × (s.al ≡ x)) → IsAskedInit (after i st y) → LateBy kind x n (slave_met s d)
      by AskInit f r begins low = let b = begins refl in subst (λ (m : ℕ). LateBy kind x m (slave_met s d)) (sym b.0) (asked-now x b.1 r)
      by y f r begins low = let ne : y ≡ AskInit → ⊥ = λ e. cc e in late-same kind x n s (slave_met s d) (al-kept st y ne f r h low) (late (asked-before i st y f ne low))

  -- behind a poll
  pub late-again : (st : Stage) (x : Al) (n more here : ℕ) (a : Action) → IsPolled a more here → Fits i st a → Arrives a number i d → Stands kind i st false s → Stands kind i st false (slave_met s d)
      → LateAt kind x n st s → LateAt kind x (n + 1) st (served (slave_met s d))
  late-again st x n more here a p f r h k late low =
      late-served kind x n (slave_met s d) k.slave.kind_is (asked-at i st (slave_met s d) low (reached-of kind i st (slave_met s d) k)) (late-same kind x n s (slave_met s d) (polled-kept st more here a p f r h) (late low))
