-- A fault of a slave that stands at a stage, and what its application reads and writes.
use Rattle.ec_bringup.proofs.Words.{ℕ, ◌<◌, ◌≡◌, ◌≢◌, ◌⊎◌, Bool, true, false, Option, Some, None, refl, sym, ◌∙◌, ap, subst, inl, inr, arith, if◌then◌else◌, List, length, set, unwrap_or, option_map, nat_lt, ◌==◌, length-set, get_or-set_same, get_or-set_other, cases_Bool, cases_eq, both_ways, if_true, if_false, SlaveKind, Buffer, Got, view_next, app_written, app_read, SyncManager, no_manager, may_app_put, may_app_get, app_put, app_got, Init, PreOp, SafeOp, Op, Al, SlaveState, manager_at, is_running, with_manager, input_put, output_got, output_taken, faults, switched_on, faulted, outputs_lost, SyncManagerSettings, emptied_buffer, buffer_length, Rise, Falls, Stays, Climbs, Config, Stage, Before, Called, Down, Lowered, Up, Talk, unviewed, HoldsZeros, IsOfKind, Rises, IsSilent, Talks, IsUpAt, Reached, IsGone, IsFaulted, IsTop, HadFault, Stands, is_init}
use Rattle.ec_al.specs.Al as al
use Rattle.ec_bringup.proofs.OneSlave.Alike.{Alike, assigned-same, left-same, stands-alike, gone-on, had-fault, set-front}

-- ---- a fault

at_two : (ms : List SyncManager) (n : ℕ) (m : SyncManager) → n ≢ 2 → manager_at (set ms 2 m) n ≡ manager_at ms n
at_two ms n m ne = get_or-set_other ms 2 n m no_manager ne

own_two : (ms : List SyncManager) (m : SyncManager) → 2 < length ms → manager_at (set ms 2 m) 2 ≡ m
own_two ms m l = get_or-set_same ms 2 m no_manager l

settings_two : (ms : List SyncManager) (n : ℕ) (m : SyncManager) → 2 < length ms → m.settings ≡ (manager_at ms 2).settings → (manager_at (set ms 2 m) n).settings ≡ (manager_at ms n).settings
settings_two ms n m l same = elim (cases_eq n 2) [
  | inl e ↦ subst (λ (k : ℕ). (manager_at (set ms 2 m) k).settings ≡ (manager_at ms k).settings) (sym e) (ap (λ (x : SyncManager). x.settings) (own_two ms m l) ∙ same)
  | inr ne ↦ ap (λ (x : SyncManager). x.settings) (at_two ms n m ne)
]

mail_two : (ms : List SyncManager) (n : ℕ) (m : SyncManager) → 2 < length ms → m.mail ≡ None → (manager_at ms n).mail ≡ None → (manager_at (set ms 2 m) n).mail ≡ None
mail_two ms n m l none h = elim (cases_eq n 2) [
  | inl e ↦ subst (λ (k : ℕ). (manager_at (set ms 2 m) k).mail ≡ None) (sym e) (ap (λ (x : SyncManager). x.mail) (own_two ms m l) ∙ none)
  | inr ne ↦ ap (λ (x : SyncManager). x.mail) (at_two ms n m ne) ∙ h
]

-- the slave after a fault in OP
abbrev with_fault : SlaveState → SlaveState
with_fault s = record s { al = al.faulted s.al; managers = set s.managers 2 (outputs_lost s) }

al-is : (a : Al) → a.state ≡ Op → al.faulted a ≡ record { state = SafeOp; error = true; code = 1; requested = a.requested; waited = a.waited }
al-is a e = if_true _ _ _ (ap al.is_operational e)

fault-slave : (kind : SlaveKind) (s : SlaveState) → s.al.state ≡ Op → IsOfKind kind s → IsOfKind kind (with_fault s)
fault-slave kind s e h = record {
  kind_is = h.kind_is;
  room = h.room;
  four = length-set s.managers 2 _ ∙ h.four;
  outs = h.outs;
  ins = h.ins;
  fixed = λ q. let g = h.fixed q in record { outs = g.outs; ins = g.ins };
  sizes = h.sizes;
  unlocked_in_init = λ q n l. absurd (cc (ap (λ (x : Al). x.state) (sym (al-is s.al e)) ∙ q));
  missing = h.missing;
}

fault-at : (i : ℕ) (c : Config) (s : SlaveState) → s.al.state ≡ Op → 3 < length s.managers → s.al.requested ≡ false → IsTop c.rise → IsUpAt i c s → IsFaulted i c (with_fault s)
fault-at i c s e l quiet top u =
    let two : 2 < length s.managers = omega arith in
    let lost = (faults s).lost in
    let silent : IsSilent c s = subst (λ (o : Option Talk). Talks i c o s) (u.quiet top) u.talks in
    record {
      top = top;
      quiet = u.quiet top;
      faulted = record {
        configured = record {
          station_is = u.configured.station_is;
          settings = λ n b. settings_two s.managers n (outputs_lost s) two lost.settings ∙ u.configured.settings n b;
          fmmus = u.configured.fmmus;
          idle = u.configured.idle;
          no_messages = λ n a b. mail_two s.managers n (outputs_lost s) two lost.mail (u.configured.no_messages n a b);
          outputs = subst HoldsZeros (sym (own_two s.managers (outputs_lost s) two)) (ap unviewed lost.buffer ∙ ap (λ (x : SyncManagerSettings). emptied_buffer (buffer_length x)) (sym lost.settings));
        };
        silent = record {
          no_message = mail_two s.managers 0 (outputs_lost s) two lost.mail silent.no_message;
          no_reply = ap (λ (m : SyncManager). m.mail) (at_two s.managers 1 (outputs_lost s) (λ q. omega (arith, q))) ∙ (silent.no_reply ∙ sym (left-same c c s (with_fault s) refl (settings_two s.managers 1 (outputs_lost s) two lost.settings) (ap (λ (x : Al). is_init x.state) (al-is s.al e) ∙ ap is_init (sym e)) refl));
          assigned = assigned-same c s (with_fault s) (record { kind = refl; identity = refl; outs = refl; ins = refl; values = refl }) silent.assigned;
        };
        state = ap (λ (x : Al). x.state) (al-is s.al e);
        error = ap (λ (x : Al). x.error) (al-is s.al e);
        no_request = ap (λ (x : Al). x.requested) (al-is s.al e) ∙ quiet;
        locked = ap (λ (m : SyncManager). m.locked) (own_two s.managers (outputs_lost s) two) ∙ lost.locked;
        unlocked = λ n b ne. ap (λ (m : SyncManager). m.locked) (at_two s.managers n (outputs_lost s) ne) ∙ u.unlocked n b;
      };
    }

fault-up : (i : ℕ) (c : Config) (r : Rise) (s : SlaveState) → c.rise ≡ r → s.al.state ≡ Op → 3 < length s.managers → Rises r s → IsUpAt i c s → IsFaulted i c (with_fault s)
fault-up i c Falls s q e l h u = absurd (cc (sym h.state ∙ e))
fault-up i c (Stays Init) s q e l h u = absurd (cc (sym h.state ∙ e))
fault-up i c (Stays PreOp) s q e l h u = absurd (cc (sym h.state_is ∙ e))
fault-up i c (Stays SafeOp) s q e l h u = absurd (cc (sym h.state_is ∙ e))
fault-up i c (Stays Op) s q e l h u = fault-at i c s e l h.no_request (subst (λ (x : Rise). IsTop x) (sym q) tt) u
fault-up i c (Climbs SafeOp Op) s q e l (up, inr (inl h)) u = fault-at i c s e l h.no_request (subst (λ (x : Rise). IsTop x) (sym q) tt) u
fault-up i c (Climbs SafeOp Op) s q e l (up, inl h) u = absurd (cc (sym h.state ∙ e))
fault-up i c (Climbs SafeOp Op) s q e l (up, inr (inr h)) u = absurd (cc (sym h.state ∙ e))
fault-up i c (Climbs PreOp SafeOp) s q e l (up, inl h) u = absurd (cc (sym h.state ∙ e))
fault-up i c (Climbs PreOp SafeOp) s q e l (up, inr (inl h)) u = absurd (cc (sym h.state_is ∙ e))
fault-up i c (Climbs PreOp SafeOp) s q e l (up, inr (inr h)) u = absurd (cc (sym h.state ∙ e))
fault-up i c (Climbs Init PreOp) s q e l (up, inl h) u = absurd (cc (sym h.state ∙ e))
fault-up i c (Climbs Init PreOp) s q e l (up, inr (inl h)) u = absurd (cc (sym h.state_is ∙ e))
fault-up i c (Climbs Init PreOp) s q e l (up, inr (inr h)) u = absurd (cc (sym h.state ∙ e))
fault-up i c _ s q e l (up, h) u = absurd up

fault-reached : (i : ℕ) (st : Stage) (s : SlaveState) → s.al.state ≡ Op → 3 < length s.managers → Reached i st s
    → Reached i st (with_fault s) ⊎ ((true ≡ true) × (IsGone st (with_fault s) ⊎ HadFault i st (with_fault s)))
fault-reached i Before s e l h = inl tt
fault-reached i Called s e l (inl h) = inl (inl (ap (λ (x : Al). x.requested) (al-is s.al e) ∙ h.0, h.1))
fault-reached i Called s e l (inr h) = absurd (cc (sym h.state ∙ e))
fault-reached i (Down f m) s e l h = absurd (cc (sym h.init.state ∙ e))
fault-reached i (Lowered f m) s e l h = absurd (cc (sym h.low.state ∙ e))
fault-reached i (Up c) s e l h = inr (refl, inr (fault-up i c c.rise s refl e l h.rises h))

gone-state : (st : Stage) (s : SlaveState) → IsGone st s → s.al.state ≡ Init
gone-state st s h = ap (λ (t : SlaveState). t.al.state) (gone-on st s h) ∙ ap (λ (a : Al). a.state) (switched_on s.kind s.identity).al

pub fault-stands : (kind : SlaveKind) (i : ℕ) (st : Stage) (trouble : Bool) (s : SlaveState) → s.al.state ≡ Op → Stands kind i st trouble s → Stands kind i st true (faulted s)
fault-stands kind i st trouble s e h = subst (λ (t : SlaveState). Stands kind i st true t) (sym ((faults s).in_op (ap al.is_operational e))) (record {
  slave = fault-slave kind s e h.slave;
  at = elim h.at [
    | inl r ↦ fault-reached i st s e (let f = h.slave.four in omega arith) r
    | inr (t, inl g) ↦ absurd (cc (sym (gone-state st s g) ∙ e))
    | inr (t, inr g) ↦ absurd (cc (sym (had-fault i st s g).1.state ∙ e))
  ];
})

-- ---- the application

-- a manager whose buffer alone is another, and of the outputs' no more than the view
buffer-alike : (s : SlaveState) (n : ℕ) (b : Buffer) → n < length s.managers → (n ≡ 2 → unviewed b ≡ unviewed (manager_at s.managers n).buffer) → Alike s (with_manager s n (record (manager_at s.managers n) { buffer = b }))
buffer-alike s n b l same = record {
  kind = refl;
  room = refl;
  memory = λ a k. refl;
  managers = set-front s.managers n (record (manager_at s.managers n) { buffer = b }) l (record { settings = refl; locked = refl; mail = refl }) same;
  idle = λ e. e;
  objects = record { kind = refl; identity = refl; outs = refl; ins = refl; values = refl };
}

-- it changes one buffer, of a slave that runs, or nothing
pub data Buffered (s : SlaveState) (n : ℕ) (t : SlaveState) : Type 0 where
  Left : t ≡ s → Buffered s n t
  Changed : (b : Buffer) → is_running s.al.state ≡ true → (n ≡ 2 → unviewed b ≡ unviewed (manager_at s.managers n).buffer) → t ≡ with_manager s n (record (manager_at s.managers n) { buffer = b }) → Buffered s n t

put-buffered : (s : SlaveState) (i x : ℕ) → Buffered s 3 (unwrap_or (input_put s i x) s)
put-buffered s i x = elim (cases_Bool (is_running s.al.state)) [
  | inr n ↦ Left (ap (λ (o : Option SlaveState). unwrap_or o s) (if_false (is_running s.al.state) (option_map (with_manager s 3) (app_put (manager_at s.managers 3) i x)) None n))
  | inl y ↦ subst (λ (o : Option SlaveState). Buffered s 3 (unwrap_or o s)) (sym (if_true (is_running s.al.state) (option_map (with_manager s 3) (app_put (manager_at s.managers 3) i x)) None y))
      (by_right y (may_app_put (manager_at s.managers 3)) (app_written (manager_at s.managers 3).buffer i x))
]
  where
    by_right : is_running s.al.state ≡ true → (b : Bool) (o : Option Buffer) → Buffered s 3 (unwrap_or (option_map (with_manager s 3) (if b then option_map (λ b. record (manager_at s.managers 3) { buffer = b }) o else None)) s)
    by_right y true (Some b) = Changed b y (λ e. absurd (omega (arith, e))) refl
    by_right y true None = Left refl
    by_right y false o = Left refl

got-same : (g h : Got) → Some g ≡ Some h → g ≡ h
got-same g h e = cc

-- a read changes the view alone
read-leaves : (b : Buffer) (i : ℕ) (g : Got) → app_read b i ≡ Some g → unviewed g.buffer ≡ unviewed b
unfolding app_read
read-leaves b i g e = by (nat_lt i (length b.published)) (if i == 0 then Some b.published else b.view) e
  where
    by : (inside : Bool) (v : Option (List ℕ)) → (if inside then view_next b i v else None) ≡ Some g → unviewed g.buffer ≡ unviewed b
    by true (Some v) q = sym (ap (λ (x : Got). unviewed x.buffer) (got-same _ g q))
    by true None q = absurd (cc q)
    by false v q = absurd (cc q)

got-buffered : (s : SlaveState) (i : ℕ) → Buffered s 2 (output_taken s (output_got s i))
got-buffered s i = elim (cases_Bool (is_running s.al.state)) [
  | inr n ↦ Left (ap (output_taken s) (if_false (is_running s.al.state) (app_got (manager_at s.managers 2) i) None n))
  | inl y ↦ subst (λ (o : Option Got). Buffered s 2 (output_taken s o)) (sym (if_true (is_running s.al.state) (app_got (manager_at s.managers 2) i) None y))
      (by_right y (may_app_get (manager_at s.managers 2)) (app_read (manager_at s.managers 2).buffer i) refl)
]
  where
    by_right : is_running s.al.state ≡ true → (b : Bool) (o : Option Got) → app_read (manager_at s.managers 2).buffer i ≡ o → Buffered s 2 (output_taken s (if b then o else None))
    by_right y true (Some g) q = Changed g.buffer y (λ e. read-leaves (manager_at s.managers 2).buffer i g q) refl
    by_right y true None q = Left refl
    by_right y false o q = Left refl

pub buffered-stands : (kind : SlaveKind) (i : ℕ) (st : Stage) (trouble : Bool) (s t : SlaveState) (n : ℕ) → n < 4 → Buffered s n t → Stands kind i st trouble s → Stands kind i st trouble t
buffered-stands kind i st trouble s t n l (Left e) h = subst (λ (x : SlaveState). Stands kind i st trouble x) (sym e) h
buffered-stands kind i st trouble s t n l (Changed b y same e) h = subst (λ (x : SlaveState). Stands kind i st trouble x) (sym e)
    (stands-alike kind i st trouble s (with_manager s n (record (manager_at s.managers n) { buffer = b })) (buffer-alike s n b (let f = h.slave.four in omega arith) same) refl
    (λ g. absurd (both_ways (is_running s.al.state) (ap is_running (gone-state st s g)) y)) h)

pub put-stands : (kind : SlaveKind) (i : ℕ) (st : Stage) (trouble : Bool) (s : SlaveState) (place byte : ℕ) → Stands kind i st trouble s → Stands kind i st trouble (unwrap_or (input_put s place byte) s)
put-stands kind i st trouble s place byte h = buffered-stands kind i st trouble s _ 3 (omega arith) (put-buffered s place byte) h

pub got-stands : (kind : SlaveKind) (i : ℕ) (st : Stage) (trouble : Bool) (s : SlaveState) (place : ℕ) → Stands kind i st trouble s → Stands kind i st trouble (output_taken s (output_got s place))
got-stands kind i st trouble s place h = buffered-stands kind i st trouble s _ 2 (omega arith) (got-buffered s place) h
