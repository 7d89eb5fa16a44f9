-- The checks of the AL state machine pass at a slave that was set as the plan says.
use Rattle.ec_bringup.proofs.Words.{ℕ, ◌/◌, ◌%◌, ◌<◌, ◌≡◌, ◌==◌, ◌&&◌, not, true, false, Option, Some, None, refl, sym, ◌∙◌, ap, subst, inl, inr, arith, List, [], ◌∷◌, take, cases_Bool, eq-eqb, eqb-true, and_from, and_parts, bytes_of_bits, if_true, if_false, SyncManagerSettings, Mailbox, no_settings, is_set, is_mailbox, is_master_written, is_master_read, SlaveKind, PreOp, SafeOp, SyncManager, SlaveState, manager_at, bits_assigned, checks, is_manager, mailbox_check, process_check, SlavePlan, settings_at, prepared, asked_all, AreMailboxes, IsStartable, IsAssigned, IsComplete, carries, requests, ◌+◌, Action, AwaitCleanInit, AskWord, AwaitWord, AskState, AwaitState, SendRequest, AwaitReply, AwaitFreeReply, reply_awaited, ParametersAgree, has_some, State, Falls, Bool, is_some, length, ◌++◌, SdoRequest, Stays, Config, answered, end_of, has_outputs, IsOfKind, nat_lt}
use Rattle.ec_bringup.proofs.Mailbox.Assignments.{assignment-held}
use Rattle.ec_bringup.proofs.Script.Walks.{Bearing, BearsUp, IsEasy, AllSent, talking, asked-frame, answered-frame, answered-done, boxed, mapped_to}
use Rattle.ec_bringup.proofs.AllSlaves.NextAction.{Grants, Bears, Talkable}
use Rattle.ec_bringup.proofs.Mailbox.RequestsAnswered.{AllAnswers, requests-answered}

-- ---- the mailboxes

control-written : (m : SyncManagerSettings) → is_mailbox m ≡ true → is_master_written m ≡ true → m.control % 16 ≡ 6
control-written m a b = let x = eqb-true (m.control % 4) 2 a in let y = eqb-true (m.control / 4 % 4) 1 b in omega (arith, x, y)

control-read : (m : SyncManagerSettings) → is_mailbox m ≡ true → is_master_read m ≡ true → m.control % 16 ≡ 2
control-read m a b = let x = eqb-true (m.control % 4) 2 a in let y = eqb-true (m.control / 4 % 4) 0 b in omega (arith, x, y)

-- a manager of these settings, not locked
manager-right : (x : SyncManager) (m : SyncManagerSettings) (start len control : ℕ) → x.settings ≡ m → x.locked ≡ false → is_set m ≡ true → m.start ≡ start → m.length ≡ len → m.control % 16 ≡ control → is_manager x start len control ≡ true
manager-right x m start len control e u s a b c =
    and_from _ _ (and_from _ _ (ap is_set e ∙ s) (ap not u))
    (and_from _ _ (eq-eqb _ start (ap (λ (k : SyncManagerSettings). k.start) e ∙ a))
    (and_from _ _ (eq-eqb _ len (ap (λ (k : SyncManagerSettings). k.length) e ∙ b)) (eq-eqb _ control (ap (λ (k : SyncManagerSettings). k.control % 16) e ∙ c))))

mailboxes-right : (s : SlaveState) (o : Option Mailbox) (ms : List SyncManagerSettings) → ((b : Mailbox) → o ≡ Some b → AreMailboxes b ms) → ((n : ℕ) → n < 4 → (manager_at s.managers n).settings ≡ settings_at ms n)
    → ((n : ℕ) → n < 4 → (manager_at s.managers n).locked ≡ false) → mailbox_check s.managers o ≡ true
mailboxes-right s None ms h e u = refl
mailboxes-right s (Some b) ms h e u =
    let a = h b refl in
    and_from _ _
    (manager-right (manager_at s.managers 0) (settings_at ms 0) b.receive_start b.receive_size 6 (e 0 (omega arith)) (u 0 (omega arith)) a.receive_set a.receive_start a.receive_length (control-written (settings_at ms 0) a.receive_mailbox a.receive_written))
    (manager-right (manager_at s.managers 1) (settings_at ms 1) b.send_start b.send_size 2 (e 1 (omega arith)) (u 1 (omega arith)) a.send_set a.send_start a.send_length (control-read (settings_at ms 1) a.send_mailbox a.send_read))

pub preop-granted : (p : SlavePlan) → IsStartable p → Grants p.kind (boxed (settings_at p.managers 0) (settings_at p.managers 1)) PreOp
preop-granted p h s k =
    let boxes : (x : Mailbox) → p.kind.mailbox ≡ Some x → AreMailboxes x (settings_at p.managers 0 ∷ settings_at p.managers 1 ∷ no_settings ∷ no_settings ∷ [])
    = λ x e. subst (λ (ms : List SyncManagerSettings). AreMailboxes x (settings_at ms 0 ∷ settings_at ms 1 ∷ no_settings ∷ no_settings ∷ [])) (sym h.managers) (h.mailbox x e) in
    (checks s).mailbox ∙ (ap (λ (t : SlaveKind). mailbox_check s.managers t.mailbox) k.slave.kind_is
    ∙ mailboxes-right s p.kind.mailbox (settings_at p.managers 0 ∷ settings_at p.managers 1 ∷ no_settings ∷ no_settings ∷ []) boxes k.settings k.unlocked)

-- ---- the process data

process-right : (x : SyncManager) (m : SyncManagerSettings) (bits start control : ℕ) → x.settings ≡ m → x.locked ≡ false → carries m bits start control ≡ true → process_check x bits start control ≡ true
process-right x m bits start control e u h = elim (cases_Bool (bits == 0)) [
  | inl z ↦ if_true _ _ _ z ∙ (ap (λ (k : SyncManagerSettings). k.activate % 2 == 0) e ∙ (sym (if_true _ _ _ z) ∙ h))
  | inr z ↦
      let q : (is_set m && ((m.start == start) && ((m.length == bytes_of_bits bits) && (m.control % 16 == control)))) ≡ true = sym (if_false _ _ _ z) ∙ h in
      let a = and_parts (is_set m) _ q in
      let b = and_parts (m.start == start) _ a.1 in
      let c = and_parts (m.length == bytes_of_bits bits) _ b.1 in
      if_false _ _ _ z
      ∙ manager-right x m start (bytes_of_bits bits) control e u a.0 (eqb-true m.start start b.0) (eqb-true m.length (bytes_of_bits bits) c.0) (eqb-true (m.control % 16) control c.1)
]

pub safeop-granted : (p : SlavePlan) → IsStartable p → IsComplete p → Grants p.kind (mapped_to (asked_all (prepared p) p p.kind.mailbox) p) SafeOp
safeop-granted p h v s k =
    let a : IsAssigned (asked_all (prepared p) p p.kind.mailbox) s = record { outs = k.assigned.outs; ins = k.assigned.ins; came = k.assigned.came } in
    let held = assignment-held p p.kind.mailbox s refl h k.slave a in
    let kind = k.slave.kind_is in
    let out_bits : bits_assigned s.kind.outputs (take s.outs.count s.outs.slots) ≡ bits_assigned p.kind.outputs p.outputs
    = ap (λ (t : SlaveKind). bits_assigned t.outputs (take s.outs.count s.outs.slots)) kind ∙ ap (bits_assigned p.kind.outputs) held.0 in
    let in_bits : bits_assigned s.kind.inputs (take s.ins.count s.ins.slots) ≡ bits_assigned p.kind.inputs p.inputs
    = ap (λ (t : SlaveKind). bits_assigned t.inputs (take s.ins.count s.ins.slots)) kind ∙ ap (bits_assigned p.kind.inputs) held.1 in (
      (checks s).outputs ∙ (ap (λ (n : ℕ). process_check (manager_at s.managers 2) n s.kind.out_start 4) out_bits
          ∙ (ap (λ (t : SlaveKind). process_check (manager_at s.managers 2) (bits_assigned p.kind.outputs p.outputs) t.out_start 4) kind
          ∙ process-right (manager_at s.managers 2) (settings_at p.managers 2) (bits_assigned p.kind.outputs p.outputs) p.kind.out_start 4 (k.settings 2 (omega arith)) (k.unlocked 2 (omega arith)) v.out_carried)),
      (checks s).inputs ∙ (ap (λ (n : ℕ). process_check (manager_at s.managers 3) n s.kind.in_start 0) in_bits
          ∙ (ap (λ (t : SlaveKind). process_check (manager_at s.managers 3) (bits_assigned p.kind.inputs p.inputs) t.in_start 0) kind
          ∙ process-right (manager_at s.managers 3) (settings_at p.managers 3) (bits_assigned p.kind.inputs p.inputs) p.kind.in_start 0 (k.settings 3 (omega arith)) (k.unlocked 3 (omega arith)) v.in_carried)),
    )

-- ---- all that the start-up asks of a plan

easy-bears : (kind : SlaveKind) (c : Config) (a : Action) → IsEasy a → Bears kind c a
easy-bears kind c (AskWord t which) h = h
easy-bears kind c (AwaitWord t which) h = h
easy-bears kind c (AwaitCleanInit t) h = absurd h
easy-bears kind c (AskState t to) h = absurd h
easy-bears kind c (AwaitState t to) h = absurd h
easy-bears kind c (SendRequest t counter b r) h = absurd h
easy-bears kind c (AwaitReply t b r) h = absurd h
easy-bears kind c (AwaitFreeReply t b r) h = absurd h
easy-bears kind c _ h = tt

one-longer : (rs : List SdoRequest) (r : SdoRequest) → length (rs ++ r ∷ []) ≡ length rs + 1
one-longer [] r = refl
one-longer (x ∷ rs) r = let e = one-longer rs r in omega (arith, e)

-- a wait for a reply asks what its request asked
reply-bears : (kind : SlaveKind) (hardware : Bool) (i counter : ℕ) (b : Mailbox) (c : Config) (r : SdoRequest) → Talkable kind c r → Bears kind (talking c counter b r) (reply_awaited hardware i b r)
reply-bears kind hardware i counter b c r z = by hardware
  where
    waits : Talkable kind (talking c counter b r) r
    waits = record {
      rise = z.rise;
      idle = z.idle;
      box = z.box;
      boxed = z.boxed;
      good = λ h plain d m n knows. z.good h plain d m n (record { of_type = knows.of_type; outs = knows.outs; ins = knows.ins; came = knows.came });
    }

    by : (h : Bool) → Bears kind (talking c counter b r) (reply_awaited h i b r)
    by true = waits
    by false = waits

answers-sent : (kind : SlaveKind) (hardware : Bool) (i counter : ℕ) (b : Mailbox) (c : Config) (rs : List SdoRequest) → c.rise ≡ Stays PreOp → c.idle ≡ true → kind.mailbox ≡ Some b → counter ≡ length c.done → AllAnswers kind c rs
    → AllSent (Bears kind) hardware i counter b c rs
answers-sent kind hardware i counter b c [] rise idle boxed count h = tt
answers-sent kind hardware i counter b c (r ∷ rs) rise idle boxed count h =
    let a = answered-frame (record c { done = c.done ++ r ∷ [] }) r r.transfer in
    let z : Talkable kind c r = record { rise = rise; idle = idle; box = b; boxed = boxed; good = h.0 } in
    let more : counter + 1 ≡ length (answered c r).done = ap (λ (n : ℕ). n + 1) count ∙ (sym (one-longer c.done r) ∙ ap length (sym (answered-done c r))) in (
      (z, count),
      reply-bears kind hardware i counter b c r z,
      answers-sent kind hardware i (counter + 1) b (answered c r) rs (a.rise ∙ rise) (a.idle ∙ idle) boxed more h.1,
    )

-- without a request that is refused
never-falls : (state : State) (P : Type 0) → Stays state ≡ Falls → P
never-falls state P e = absurd (cc e)

safeop-up : (i : ℕ) (p : SlavePlan) → IsStartable p → IsComplete p → BearsUp (Bears p.kind) i (mapped_to (asked_all (prepared p) p p.kind.mailbox) p) SafeOp
safeop-up i p h v =
    let low : (asked_all (prepared p) p p.kind.mailbox).rise ≡ Stays PreOp = (asked-frame p p.kind.mailbox).rise in (
      (safeop-granted p h v, λ e. never-falls PreOp _ (sym low ∙ e)),
      λ s k. safeop-granted p h v s (record { slave = k.slave; settings = k.settings; unlocked = k.unlocked; assigned = record { outs = k.assigned.outs; ins = k.assigned.ins; came = k.assigned.came } }),
    )

pub bears-all : (i : ℕ) (p : SlavePlan) → IsStartable p → IsComplete p → (has_some p.kind.init ≡ true → ParametersAgree p) → Bearing (Bears p.kind) i p
bears-all i p h v agree = record {
  easy = easy-bears p.kind;
  clean = λ c f. f;
  to_preop = λ r bare. (
    (λ s k. preop-granted p h s (record { slave = k.slave; settings = k.settings; unlocked = k.unlocked; assigned = record { outs = k.assigned.outs; ins = k.assigned.ins; came = k.assigned.came } }), bare),
    λ s k. preop-granted p h s (record { slave = k.slave; settings = k.settings; unlocked = k.unlocked; assigned = record { outs = k.assigned.outs; ins = k.assigned.ins; came = k.assigned.came } }),
  );
  sends = λ b e. answers-sent p.kind (is_some p.kind.hardware) i 0 b (prepared p) (requests p) refl refl e refl
      (requests-answered p (record { complete = v; requests = h.requests; all = h.all_assigned; agree = agree }));
  to_safeop = safeop-up i p h v;
  to_op = ((λ s k. tt, λ e. never-falls SafeOp _ e), λ s k. tt);
}

-- a slave of a plan without output bits has no outputs, once its assignment is the plan's
pub no-outputs : (p : SlavePlan) → IsStartable p → IsComplete p → (s : SlaveState) → IsOfKind p.kind s → IsAssigned (end_of p) s → p.share.outs ≡ 0 → has_outputs s ≡ false
no-outputs p h v s of a none =
    let held = assignment-held p p.kind.mailbox s refl h of (record { outs = a.outs; ins = a.ins; came = a.came }) in
    let bits : bits_assigned s.kind.outputs (take s.outs.count s.outs.slots) ≡ 0
    = ap (λ (t : SlaveKind). bits_assigned t.outputs (take s.outs.count s.outs.slots)) of.kind_is ∙ (ap (bits_assigned p.kind.outputs) held.0 ∙ v.no_out_bits none) in
    ap (λ (n : ℕ). nat_lt 0 n) bits
