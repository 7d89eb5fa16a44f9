-- Slow firmware, and the emergency of a slave that enters PREOP.
use Rattle.std.proofs.Common.{ℕ, ◌≤◌, ◌≡◌, not, Bool, true, false, Option, Some, None, is_some, refl, sym, ◌∙◌, ap, subst, inl, inr, arith, List, length, slice_set, get_or-set_same, get_or-set_other}
use Rattle.std.proofs.lemmas.Bool.{and_from, and_left, and_right, cases_Bool, le-ltb, lt-ltb}
use Rattle.ec_bits.proofs.AnyLaws.{if_true, if_false}
use Rattle.ec_device.specs.declared.hardware.Hardware.{Hardware}
use Rattle.ec_al.specs.Al.{Al}
use Rattle.ec_al.specs.declared.state.State.{State}
use Rattle.ec_al.specs.declared.state.State.TheVariants.{Init, PreOp}
use Rattle.ec_coe.specs.Emergency.{emergency_bytes}
use Rattle.ec_coe.specs.Messages.{message_length}
use Rattle.ec_regs.specs.Managers.{is_mailbox, is_master_read}
use Rattle.ec_sync.specs.SyncManager.{SyncManager, is_enabled, may_put_message, message_in, message_put, no_manager, padded}
use Rattle.ec_slave.specs.State.{SlaveState, manager_at}
use Rattle.ec_slave.specs.Serving.{al_decided, emergency_counted, emergency_put, greets, greets_by, has_mailbox, has_outputs, is_init, is_preop, is_slow, managers_decided, managers_entered, outputs_awaited, replies_decided, replies_entered, request_decided, takes_reply, with_al}
use Rattle.ec_slave.specs.HardwareLaws.{RequestsWaitLong, Greets, HasGreeted, EmergenciesComeFirst}
use Rattle.ec_slave.proofs.FirmwareRuns.RestsQuietly.{decided-if, decides, lets_wait, rested, waiting-state}
use Rattle.ec_slave.proofs.FirmwareRuns.StepLaws.{decided, put-right}

-- ---- slow firmware

pub waits_long : RequestsWaitLong
waits_long s h hw fw asks =
    let d = decided s in
    record {
      waits = λ l. d.slow asks (ap (λ (o : Option Hardware). is_slow o s) hw ∙ and_from _ _ fw (lt-ltb s.al.waited h.slow l));
      decides = λ l e. d.decides asks (ap (λ (o : Option Hardware). is_slow o s) hw ∙ and_right _ _ (le-ltb s.al.waited h.slow l)) e;
    }

-- ---- emergencies

-- from INIT to PREOP no manager changes before the emergency
same-managers : (o : Option Hardware) (outputs : Bool) (ms : List SyncManager) → outputs_awaited o outputs Init PreOp (managers_entered Init PreOp ms) ≡ ms
same-managers None outputs ms = refl
same-managers (Some h) outputs ms = refl

between-managers : (s : SlaveState) (a : Al) → s.al.state ≡ Init → a.state ≡ PreOp → managers_decided s a ≡ s.managers
between-managers s a was now =
    let o : Option Hardware = s.kind.hardware in
    ap (λ (x : State). outputs_awaited o (has_outputs s) x a.state (managers_entered x a.state s.managers)) was
    ∙ (ap (λ (x : State). outputs_awaited o (has_outputs s) Init x (managers_entered Init x s.managers)) now ∙ same-managers o (has_outputs s) s.managers)

between-replies : (s : SlaveState) (a : Al) → s.al.state ≡ Init → a.state ≡ PreOp → replies_decided s a ≡ 0
between-replies s a was now = ap (λ (x : State). replies_entered x a.state s.replies) was ∙ ap (λ (x : State). replies_entered Init x s.replies) now

sends : (s : SlaveState) (a : Al) → Greets s → a.state ≡ PreOp → greets_by s a ≡ true
sends s a g now =
    ap (λ (ms : List SyncManager). greets s.kind s.al.state a.state (manager_at ms 1)) (between-managers s a g.old now)
    ∙ and_from _ _ g.shouts (and_from _ _ (ap is_preop now) (and_from _ _ (ap is_init g.old) (and_from _ _ g.mailbox (and_from _ _ g.takes (ap not (le-ltb (manager_at s.managers 1).settings.length message_length g.room))))))

-- the mailbox is full then
full : (m : SyncManager) (bytes : List ℕ) → length bytes ≤ m.settings.length → takes_reply m ≡ true → takes_reply (message_put m bytes) ≡ false
full m bytes l t =
    let after : SyncManager = record m { mail = Some (padded m bytes) } in
    ap takes_reply (if_true (may_put_message m (length bytes)) after m (put-right m bytes l t))
    ∙ and_right (is_enabled after) _ (and_right (is_mailbox m.settings) _ (and_right (is_master_read m.settings) false refl))

has-greeted : (s : SlaveState) (a : Al) → Greets s → a.state ≡ PreOp → HasGreeted s (with_al s a)
has-greeted s a g now =
    let four = g.four in
    let m : SyncManager = manager_at s.managers 1 in
    let mail : SyncManager = message_put m (emergency_bytes 1) in
    let told = sends s a g now in
    let none = between-replies s a g.old now in
    let managers : (with_al s a).managers ≡ slice_set s.managers 1 mail
    = ap (λ (b : Bool). emergency_put b (replies_decided s a) (managers_decided s a)) told
    ∙ (ap (λ (n : ℕ). emergency_put true n (managers_decided s a)) none ∙ ap (emergency_put true 0) (between-managers s a g.old now)) in
    let own : manager_at (with_al s a).managers 1 ≡ mail = ap (λ (ms : List SyncManager). manager_at ms 1) managers ∙ get_or-set_same s.managers 1 mail no_manager (omega (arith, four)) in
    record {
      own = own;
      others = λ n ne. ap (λ (ms : List SyncManager). manager_at ms n) managers ∙ get_or-set_other s.managers 1 n mail no_manager ne;
      counter = ap (λ (b : Bool). emergency_counted b (replies_decided s a)) told ∙ ap (emergency_counted true) none;
      waits = and_right (has_mailbox (with_al s a)) _ (and_left _ (is_some (message_in (manager_at (with_al s a).managers 0))) (ap takes_reply own ∙ full m (emergency_bytes 1) g.room g.takes));
    }

pub emergencies_first : EmergenciesComeFirst
emergencies_first s g = elim (cases_Bool (decides s)) [
  | inl on ↦
      let is : request_decided s ≡ with_al s (al_decided s.kind.hardware s) = decided-if s ∙ if_true _ _ _ on in
      subst (λ (t : SlaveState). HasGreeted s t) (sym is) (has-greeted s (al_decided s.kind.hardware s) g (ap (λ (t : SlaveState). t.al.state) (sym is) ∙ g.new))
  | inr off ↦
      let is : request_decided s ≡ rested s = decided-if s ∙ if_false _ _ _ off in
      let stays : Init ≡ PreOp = sym g.old ∙ (sym (waiting-state (lets_wait s) s.al) ∙ (ap (λ (t : SlaveState). t.al.state) (sym is) ∙ g.new)) in
      absurd (cc)
]
