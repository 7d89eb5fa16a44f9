-- A slave without outputs awaits none in SAFEOP: that is so from INIT on, whatever frames come and however it serves.
use Rattle.ec_bringup.proofs.Words.{ℕ, ◌<◌, ◌≡◌, ◌==◌, ◌&&◌, Bool, true, false, Option, Some, refl, sym, ◌∙◌, ap, subst, inl, inr, arith, if◌then◌else◌, List, length, set, get_or-set_same, nat_lt, cases_Bool, both_ways, eqb-true, Hardware, SlaveKind, SyncManager, no_manager, manager_at, awaiting, Assignment, assigned, bits_assigned, SlaveState, Al, State, Init, PreOp, SafeOp, Op, Datagram, slave_met, served, request_decided, read_finished, three_parts, messages_keep, finished, requests_decided, with_al, al_decided, is_awaiting, has_outputs, outputs_awaited, managers_entered, inside_kept, settings_kept, zeros_published, length-set, Stage, Before, Called, Down, Lowered, Up, after, Fits, Stands, Action, CountSlaves, AskInit, AwaitInit, ClearFmmus, ClearManagers, ClearStations, NameSlave, AskWord, AwaitWord, SetManager, SetFmmu, AskState, AwaitState, SendRequest, AwaitReply, AwaitFreeReply, AwaitInitState, ClearAllFmmus, ClearAllManagers, AssignSii, ClearSiiError, AwaitCleanInit, FeedPart, is_slow, waiting, greets_by, managers_decided, replies_decided}
use Rattle.ec_slave.proofs.FirmwareRuns.ServesKeepAssignments.{assignments_served}
use Rattle.ec_bringup.proofs.OneSlave.AlRequest.{decided-is, waits-none, waits-slow, put-others}
use Rattle.ec_bringup.proofs.OneSlave.MailboxServed.{stands-served}

pub record Dry (s : SlaveState) : Type 0 where
  pub off : (h : Hardware) → s.kind.hardware ≡ Some h → s.al.state ≡ SafeOp → has_outputs s ≡ false → (manager_at s.managers 2).awaited ≡ false

not-init : (st : State) → st ≡ Init → st ≡ SafeOp → ⊥
not-init st a b = let e : Init ≡ SafeOp = sym a ∙ b in cc

pub init-dry : (s : SlaveState) → s.al.state ≡ Init → Dry s
init-dry s e = record { off = λ h k safe none. absurd (not-init s.al.state e safe) }

same-outputs : (s t : SlaveState) → t.kind ≡ s.kind → t.outs ≡ s.outs → has_outputs t ≡ has_outputs s
same-outputs s t k o = ap (λ (x : SlaveKind). nat_lt 0 (bits_assigned x.outputs (assigned t.outs))) k ∙ ap (λ (x : Assignment). nat_lt 0 (bits_assigned s.kind.outputs (assigned x))) o

-- ---- a frame

pub dry-met : (s : SlaveState) (d : Datagram) → Dry s → Dry (slave_met s d)
dry-met s d h =
    let k = inside_kept s d in
    record {
      off = λ w e safe none. k.awaited 2 (h.off w (sym (ap (λ (x : SlaveKind). x.hardware) k.kind) ∙ e) (sym k.state ∙ safe) (sym (same-outputs s (slave_met s d) k.kind k.outs) ∙ none));
    }

-- ---- a firmware step

-- SAFEOP is entered: what is awaited are the outputs that are assigned
entered : (h : Hardware) (outs : Bool) (old : State) (ms : List SyncManager) → 2 < length (managers_entered old SafeOp ms) → outs ≡ false → (old ≡ SafeOp → (manager_at ms 2).awaited ≡ false)
    → (manager_at (outputs_awaited (Some h) outs old SafeOp (managers_entered old SafeOp ms)) 2).awaited ≡ false
entered h outs SafeOp ms l none same = same refl
entered h outs Init ms l none same = fresh-two h outs (managers_entered Init SafeOp ms) l none
  where
    off : (a b : Bool) → b ≡ false → (a && b) ≡ false
    off true b e = e
    off false b e = refl

    fresh-two : (x : Hardware) (o : Bool) (ns : List SyncManager) → 2 < length ns → o ≡ false → (manager_at (set ns 2 (awaiting (manager_at ns 2) (x.has_firmware && o))) 2).awaited ≡ false
    fresh-two x o ns m e = ap (λ (y : SyncManager). y.awaited) (get_or-set_same ns 2 (awaiting (manager_at ns 2) (x.has_firmware && o)) no_manager m) ∙ off x.has_firmware o e
entered h outs PreOp ms l none same = again h outs (managers_entered PreOp SafeOp ms) l none
  where
    off : (a b : Bool) → b ≡ false → (a && b) ≡ false
    off true b e = e
    off false b e = refl

    again : (x : Hardware) (o : Bool) (ns : List SyncManager) → 2 < length ns → o ≡ false → (manager_at (set ns 2 (awaiting (manager_at ns 2) (x.has_firmware && o))) 2).awaited ≡ false
    again x o ns m e = ap (λ (y : SyncManager). y.awaited) (get_or-set_same ns 2 (awaiting (manager_at ns 2) (x.has_firmware && o)) no_manager m) ∙ off x.has_firmware o e
entered h outs Op ms l none same = again h outs (managers_entered Op SafeOp ms) l none
  where
    off : (a b : Bool) → b ≡ false → (a && b) ≡ false
    off true b e = e
    off false b e = refl

    again : (x : Hardware) (o : Bool) (ns : List SyncManager) → 2 < length ns → o ≡ false → (manager_at (set ns 2 (awaiting (manager_at ns 2) (x.has_firmware && o))) 2).awaited ≡ false
    again x o ns m e = ap (λ (y : SyncManager). y.awaited) (get_or-set_same ns 2 (awaiting (manager_at ns 2) (x.has_firmware && o)) no_manager m) ∙ off x.has_firmware o e

-- as many managers as before
entered-length : (old : State) (ms : List SyncManager) → length ms ≡ 4 → length (managers_entered old SafeOp ms) ≡ 4
entered-length Init ms four = four
entered-length PreOp ms four = length-set ms 3 (zeros_published (manager_at ms 3)) ∙ four
entered-length SafeOp ms four = four
entered-length Op ms four = four

module _ (s : SlaveState) (four : length s.managers ≡ 4) (dry : Dry s) where
  abbrev x : SlaveState
  x = request_decided s

  -- the request alone
  decided-off : (h : Hardware) → s.kind.hardware ≡ Some h → x.al.state ≡ SafeOp → has_outputs s ≡ false → (manager_at x.managers 2).awaited ≡ false
  decided-off h hw safe none = elim (cases_Bool s.al.requested) [
    | inr rests ↦ still (waits-none s rests)
    | inl asks ↦ elim (cases_Bool (is_slow s.kind.hardware s)) [
      | inl q ↦
          let is : x ≡ record s { al = waiting s.al } = waits-slow s asks q in
          ap (λ (y : SlaveState). (manager_at y.managers 2).awaited) is ∙ dry.off h hw (sym (ap (λ (y : SlaveState). y.al.state) is) ∙ safe) none
      | inr q ↦ elim (cases_Bool (is_awaiting s.kind.hardware s)) [
        | inl w ↦ still ((requests_decided s).awaits q w)
        | inr w ↦
            let a : Al = al_decided s.kind.hardware s in
            let is : x ≡ with_al s a = decided-is s asks q w in
            let new : a.state ≡ SafeOp = sym (ap (λ (y : SlaveState). y.al.state) is) ∙ safe in
            ap (λ (y : SlaveState). (manager_at y.managers 2).awaited) is
            ∙ (ap (λ (m : SyncManager). m.awaited) (put-others (greets_by s a) (replies_decided s a) 2 (managers_decided s a) (λ e. omega (arith, e)))
            ∙ subst (λ (o : Option Hardware). (manager_at (outputs_awaited o (has_outputs s) s.al.state a.state (managers_entered s.al.state a.state s.managers)) 2).awaited ≡ false) (sym hw)
            (subst (λ (n : State). (manager_at (outputs_awaited (Some h) (has_outputs s) s.al.state n (managers_entered s.al.state n s.managers)) 2).awaited ≡ false) (sym new)
            (entered h (has_outputs s) s.al.state s.managers (let e = entered-length s.al.state s.managers four in omega (arith, e)) none (λ e. dry.off h hw e none))))
      ]
    ]
  ]
    where
      still : x ≡ s → (manager_at x.managers 2).awaited ≡ false
      still e = ap (λ (y : SlaveState). (manager_at y.managers 2).awaited) e ∙ dry.off h hw (sym (ap (λ (y : SlaveState). y.al.state) e) ∙ safe) none

  al-is : (served s).al ≡ x.al
  al-is = ap (λ (y : SlaveState). y.al) (three_parts s) ∙ ((messages_keep (read_finished x)).al ∙ ap (λ (y : SlaveState). y.al) (finished x).is)

  kind-is : (served s).kind ≡ s.kind
  kind-is = (settings_kept s).kind

  awaited-is : (manager_at (served s).managers 2).awaited ≡ (manager_at x.managers 2).awaited
  awaited-is = ap (λ (y : SlaveState). (manager_at y.managers 2).awaited) (three_parts s)
      ∙ ((messages_keep (read_finished x)).awaited 2 ∙ ap (λ (y : SlaveState). (manager_at y.managers 2).awaited) (finished x).is)

  pub dry-served : Dry (served s)
  dry-served = record {
    off = λ h hw safe none.
        let outs = (assignments_served s).elsewhere (λ e. let z : PreOp ≡ SafeOp = sym e ∙ safe in cc) in
        awaited-is ∙ decided-off h (sym (ap (λ (k : SlaveKind). k.hardware) kind-is) ∙ hw) (sym (ap (λ (a : Al). a.state) al-is) ∙ safe) (sym (same-outputs s (served s) kind-is outs.0) ∙ none);
  }

-- ---- at a stage of a start-up

-- from the first wait for INIT on
abbrev pub DryAt : Stage → SlaveState → Type 0
DryAt Before s = Unit {0}
DryAt Called s = Unit {0}
DryAt st s = Dry s

abbrev IsEarly : Stage → Type 0
IsEarly Before = Unit {0}
IsEarly Called = Unit {0}
IsEarly _ = ⊥

abbrev IsHigh : Stage → Type 0
IsHigh (Up c) = Unit {0}
IsHigh _ = ⊥

-- no station address is given before INIT is awaited
named-late : (i t : ℕ) (st : Stage) (x : Stage) (b : Bool) → (t == i) ≡ b → IsEarly st → (t ≡ i → ⊥) → IsHigh (if b then x else st) → ⊥
named-late i t st end true e early never h = never (eqb-true t i e)
named-late i t Before end false e early never h = h
named-late i t Called end false e early never h = h
named-late i t (Down f m) end false e early never h = early
named-late i t (Lowered f m) end false e early never h = early
named-late i t (Up c) end false e early never h = early

not-yet : (i : ℕ) (st : Stage) (a : Action) → IsEarly st → Fits i st a → IsHigh (after i st a) → ⊥
not-yet i Before CountSlaves early f h = h
not-yet i Called CountSlaves early f h = h
not-yet i st AskInit early f h = h
not-yet i st AwaitInit early f h = h
not-yet i st AwaitInitState early f h = h
not-yet i Before ClearStations early f h = f
not-yet i Called ClearStations early f h = f
not-yet i Before ClearFmmus early f h = f
not-yet i Called ClearFmmus early f h = f
not-yet i Before ClearManagers early f h = f
not-yet i Called ClearManagers early f h = f
not-yet i Before ClearAllFmmus early f h = f
not-yet i Called ClearAllFmmus early f h = f
not-yet i Before ClearAllManagers early f h = f
not-yet i Called ClearAllManagers early f h = f
not-yet i Before ClearSiiError early f h = f
not-yet i Called ClearSiiError early f h = f
not-yet i Before (AssignSii access) early f h = h
not-yet i Called (AssignSii access) early f h = h
not-yet i st (FeedPart g) early f h = f
not-yet i Before (NameSlave t) early f h = named-late i t Before _ (t == i) refl early (λ e. f.1 e) h
not-yet i Called (NameSlave t) early f h = named-late i t Called _ (t == i) refl early (λ e. f.1 e) h
not-yet i Before (AskWord t which) early f h = f.1
not-yet i Called (AskWord t which) early f h = f.1
not-yet i Before (AwaitWord t which) early f h = f.1
not-yet i Called (AwaitWord t which) early f h = f.1
not-yet i Before (SetManager t n m r) early f h = f.1
not-yet i Called (SetManager t n m r) early f h = f.1
not-yet i Before (SetFmmu t n g start) early f h = f.1
not-yet i Called (SetFmmu t n g start) early f h = f.1
not-yet i Before (AskState t to) early f h = f.1
not-yet i Called (AskState t to) early f h = f.1
not-yet i Before (AwaitState t to) early f h = f.1
not-yet i Called (AwaitState t to) early f h = f.1
not-yet i Before (AwaitCleanInit t) early f h = f.1
not-yet i Called (AwaitCleanInit t) early f h = f.1
not-yet i Before (SendRequest t counter b r) early f h = f.1
not-yet i Called (SendRequest t counter b r) early f h = f.1
not-yet i Before (AwaitReply t b r) early f h = f.1
not-yet i Called (AwaitReply t b r) early f h = f.1
not-yet i Before (AwaitFreeReply t b r) early f h = f.1
not-yet i Called (AwaitFreeReply t b r) early f h = f.1
not-yet i (Down x m) a early f h = early
not-yet i (Lowered x m) a early f h = early
not-yet i (Up c) a early f h = early

-- a slave that a frame passed, behind a firmware step
pub dry-next : (kind : SlaveKind) (i : ℕ) (st new : Stage) (t : SlaveState) → DryAt st t → (IsEarly st → IsHigh new → ⊥) → Stands kind i new false t → DryAt new (served t)
dry-next kind i st Before t d late h = tt
dry-next kind i st Called t d late h = tt
dry-next kind i st (Down f m) t d late h = elim (stands-served kind i (Down f m) false t h).at [
  | inl r ↦ init-dry (served t) r.init.state
  | inr (e, x) ↦ absurd (both_ways false refl e)
]
dry-next kind i st (Lowered f m) t d late h = elim (stands-served kind i (Lowered f m) false t h).at [
  | inl r ↦ init-dry (served t) r.low.state
  | inr (e, x) ↦ absurd (both_ways false refl e)
]
dry-next kind i Before (Up c) t d late h = absurd (late tt tt)
dry-next kind i Called (Up c) t d late h = absurd (late tt tt)
dry-next kind i (Down f m) (Up c) t d late h = dry-served t h.slave.four d
dry-next kind i (Lowered f m) (Up c) t d late h = dry-served t h.slave.four d
dry-next kind i (Up x) (Up c) t d late h = dry-served t h.slave.four d

pub dry-after : (kind : SlaveKind) (i : ℕ) (st : Stage) (a : Action) (t : SlaveState) → Fits i st a → DryAt st t → Stands kind i (after i st a) false t → DryAt (after i st a) (served t)
dry-after kind i st a t f d h = dry-next kind i st (after i st a) t d (λ early high. not-yet i st a early f high) h

-- a frame alone
pub dry-at-met : (st : Stage) (s : SlaveState) (d : Datagram) → DryAt st s → DryAt st (slave_met s d)
dry-at-met Before s d h = tt
dry-at-met Called s d h = tt
dry-at-met (Down f m) s d h = dry-met s d h
dry-at-met (Lowered f m) s d h = dry-met s d h
dry-at-met (Up c) s d h = dry-met s d h

pub dry-at-served : (st : Stage) (s : SlaveState) → length s.managers ≡ 4 → DryAt st s → DryAt st (served s)
dry-at-served Before s four h = tt
dry-at-served Called s four h = tt
dry-at-served (Down f m) s four h = dry-served s four h
dry-at-served (Lowered f m) s four h = dry-served s four h
dry-at-served (Up c) s four h = dry-served s four h
