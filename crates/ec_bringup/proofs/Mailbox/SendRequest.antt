-- A request is put into a slave's mailbox.
use Rattle.ec_bringup.proofs.Words.{ℕ, zero, suc, ◌+◌, ◌-◌, ◌*◌, ◌/◌, ◌%◌, ◌<◌, ◌≤◌, ◌≡◌, ◌==◌, ◌&&◌, ◌||◌, not, Bool, true, false, Option, Some, None, refl, sym, ◌∙◌, ap, subst, inl, inr, arith, List, [], ◌∷◌, length, slice_index, is_none, nat_lt, nat_le, length-append, and_parts, and_from, and_left, and_right, eqb-true, leb-true, length-replicate, zeros, any_below, if_true, if_false, within_true, within_below, any_below_from, SyncManagerSettings, Mailbox, SlaveKind, ram_start, ram_end, no_settings, is_set, is_mailbox, is_buffered, is_master_written, is_master_read, span, manager_bytes, SyncManager, may_write, is_enabled, ring_written, covers, Fpwr, Apwr, Fprd, Brd, Bwr, Datagram, IsDatagram, Al, SlaveState, manager_at, is_ungoverned, Window, touches, is_configured, physical_value, physical_manager, physical_managers, physical_after, writes_by_byte, length-message, settings_at, SendRequest, CountSlaves, AskInit, AwaitInit, ClearFmmus, ClearManagers, ClearStations, NameSlave, AskWord, AwaitWord, SetManager, SetFmmu, AskState, AwaitState, AwaitReply, SdoRequest, station, filled, request_bytes, request_message, sent, datagram_of, word_address_of, Config, Up, Talk, CanAct, AreMailboxes, IsRequest, HoldsZeros, IsOfKind, IsSilent, Talks, IsUpAt, IsTop, accesses_leave, managers_accessed, whole_values, Command, fmmu_bytes, state_number, read_command, Action, IsReachable, ne_eqb, shown_fmmu, fmmu_at, AwaitInitState, ClearAllFmmus, ClearAllManagers, AssignSii, ClearSiiError, AwaitCleanInit, FeedPart, ◌^◌, Hardware, is_some, is_stored, within_above, any_below_none, both_ways, cases_lt, if◌then◌else◌, manager_number, AwaitFreeReply, Stays, PreOp, IsEarly, is_init}
use Rattle.ec_regs.specs.Memory.{manager_start}
use Rattle.ec_slave.specs.Physical.{byte_from, setting_at, setting_for}
use Rattle.ec_bringup.proofs.OneSlave.Alike.{SameObjects, assigned-same, left-same, rises-alike, kind-kept, missing-low}
use Rattle.ec_bringup.proofs.OneFrame.OtherSlaves.{ForSend, Owes, as_one}
use Rattle.ec_bringup.proofs.OneFrame.RegisterWrites.{window-sent, pass-own}
use Rattle.ec_bringup.proofs.OneFrame.SetRegisters.{aside-busy}

-- ---- one manager

written-not-read : (m : SyncManagerSettings) → is_master_read m ≡ true → is_master_written m ≡ false
written-not-read m h = ne_eqb (m.control / 4 % 4) 1 (λ e. let a = eqb-true (m.control / 4 % 4) 0 h in omega (arith, a, e))

pub unset-write : (m : SyncManager) → is_set m.settings ≡ false → may_write m ≡ false
unset-write m e = and_left _ _ (and_left _ _ e)

pub none-set : (m : SyncManagerSettings) → m ≡ no_settings → is_set m ≡ false
unfolding is_set
none-set m e = ap is_set e

-- a manager that may not be written stays
pub met-stays : (o : Option Hardware) (lower : List SyncManager) (w : Window) (n : ℕ) (m : SyncManager) → is_configured o w n ≡ false → may_write m ≡ false → physical_manager o lower false true w n m ≡ m
met-stays o lower w n m u e = (managers_accessed o lower w n m).written u ∙ if_false _ _ _ (and_left (may_write m) _ e)

-- ---- a write of the RAM sets no manager, whatever numbers the managers have

either-off : (a b : Bool) → a ≡ false → b ≡ false → (a || b) ≡ false
either-off true b e f = absurd (both_ways true e refl)
either-off false b e f = f

-- no register lies in the RAM
stored-high : (a : ℕ) → 0x1000 ≤ a → is_stored a ≡ false
stored-high a l =
    either-off _ _ (within_above 0x0010 2 a (omega (arith, l)))
    (either-off _ _ (within_above 0x0120 2 a (omega (arith, l)))
    (either-off _ _ (within_above 0x0600 64 a (omega (arith, l))) (and_left _ _ (within_above 0x0800 32 a (omega (arith, l))))))

none-either : (b : Bool) (o : Option ℕ) → o ≡ None → is_some (if b then o else None) ≡ false
none-either true o e = ap is_some e
none-either false o e = refl

setting-none : (w : Window) (a : ℕ) → 0x1000 ≤ w.from → is_some (setting_at w a) ≡ false
setting-none w a l = elim (cases_lt a 0x1000) [
  | inl low ↦ none-either (is_stored a) (byte_from w a) (if_false (touches w a) (Some (slice_index w.bytes (a - w.from))) None (within_below w.from (length w.bytes) a (omega (arith, l, low))))
  | inr high ↦ ap is_some (if_false (is_stored a) (byte_from w a) None (stored-high a high))
]

pub ram-unconfigured : (o : Option Hardware) (w : Window) (n : ℕ) → 0x1000 ≤ w.from → is_configured o w n ≡ false
ram-unconfigured o w n l = any_below_none 8 (λ k. is_some (setting_for o w n k)) (λ k b. setting-none w (manager_start (manager_number o n) + k) l)

-- ---- four managers

pub list4 : (a b c d x y z v : SyncManager) → a ≡ x → b ≡ y → c ≡ z → d ≡ v → a ∷ b ∷ c ∷ d ∷ [] ≡ x ∷ y ∷ z ∷ v ∷ []
list4 a b c d x y z v p q r s = cc

pub four-of : (ms : List SyncManager) → length ms ≡ 4 → ms ≡ manager_at ms 0 ∷ manager_at ms 1 ∷ manager_at ms 2 ∷ manager_at ms 3 ∷ []
four-of (a ∷ b ∷ c ∷ d ∷ []) e = refl
four-of _ e = absurd (omega (arith, e))

abbrev pub sending : Mailbox → ℕ → SdoRequest → Window
sending b counter r = record { from = b.receive_start; bytes = filled b.receive_size (request_bytes counter r) }

pub sending-length : (b : Mailbox) (counter : ℕ) (r : SdoRequest) → 16 ≤ b.receive_size → length (sending b counter r).bytes ≡ b.receive_size
sending-length b counter r l =
    let e = length-append (request_bytes counter r) (zeros (b.receive_size - length (request_bytes counter r))) in
    let f = length-replicate {A = ℕ} (b.receive_size - length (request_bytes counter r)) 0 in
    omega (arith, length-message (request_message counter r), e, f, l)

-- a set manager lies in the RAM
pub set-lies : (m : SyncManagerSettings) → is_set m ≡ true → (ram_start ≤ m.start) × (m.start + span m ≤ ram_end)
unfolding is_set
set-lies m h =
    let a = (and_parts (m.activate % 2 == 1) _ h).1 in
    let b = (and_parts (is_mailbox m || is_buffered m) _ a).1 in
    let c = (and_parts (is_master_written m || is_master_read m) _ b).1 in
    let d = (and_parts (nat_lt 0 m.length) _ c).1 in
    let e = and_parts (nat_le ram_start m.start) _ d in
    (leb-true ram_start m.start e.0, leb-true (m.start + span m) ram_end e.1)

-- the four managers after the request was written
pub sent-managers : (i counter : ℕ) (c : Config) (b : Mailbox) (r : SdoRequest) (s : SlaveState) → length s.managers ≡ 4 → AreMailboxes b c.managers → IsUpAt i c s → (manager_at s.managers 0).mail ≡ None
    → physical_managers s.kind.hardware [] false true (sending b counter r) 0 s.managers
    ≡ record (manager_at s.managers 0) { mail = Some (sending b counter r).bytes } ∷ manager_at s.managers 1 ∷ manager_at s.managers 2 ∷ manager_at s.managers 3 ∷ []
sent-managers i counter c b r s four h u none =
    let m0 = manager_at s.managers 0 in let m1 = manager_at s.managers 1 in let m2 = manager_at s.managers 2 in let m3 = manager_at s.managers 3 in
    let e0 = u.configured.settings 0 (omega arith) in let e1 = u.configured.settings 1 (omega arith) in
    let e2 = u.configured.settings 2 (omega arith) in let e3 = u.configured.settings 3 (omega arith) in
    let start : m0.settings.start ≡ b.receive_start = ap (λ (x : SyncManagerSettings). x.start) e0 ∙ h.receive_start in
    let len : m0.settings.length ≡ b.receive_size = ap (λ (x : SyncManagerSettings). x.length) e0 ∙ h.receive_length in
    let long : length (sending b counter r).bytes ≡ b.receive_size = sending-length b counter r h.receive_some in
    let ram = (set-lies (settings_at c.managers 0) h.receive_set).0 in
    let o : Option Hardware = s.kind.hardware in
    let free : (n : ℕ) → n < 4 → is_configured o (sending b counter r) n ≡ false = λ n l. ram-unconfigured o (sending b counter r) n (omega (arith, ram)) in
    let cov : covers (touches (sending b counter r)) m0 ≡ true = and_from _ _ (within_true b.receive_start (length (sending b counter r).bytes) m0.settings.start (omega (arith, start)) (omega (arith, start, long)))
    (within_true b.receive_start (length (sending b counter r).bytes) (m0.settings.start + m0.settings.length - 1) (omega (arith, start, len)) (omega (arith, start, len, long))) in
    let box : is_mailbox m0.settings ≡ true = ap is_mailbox e0 ∙ h.receive_mailbox in
    let may : may_write m0 ≡ true = and_from _ _ (and_from _ _ (ap is_set e0 ∙ h.receive_set) (ap not (u.unlocked 0 (omega arith)))) (and_from _ _ (ap is_master_written e0 ∙ h.receive_written) (if_true _ _ _ box ∙ ap is_none none)) in
    let touched : touches (sending b counter r) (m0.settings.start + 0) ≡ true = within_true b.receive_start (length (sending b counter r).bytes) (m0.settings.start + 0) (omega (arith, start)) (omega (arith, start, long)) in
    let own : any_below m0.settings.length (λ k. touches (sending b counter r) (m0.settings.start + k) && is_ungoverned [] (m0.settings.start + k)) ≡ true
    = any_below_from m0.settings.length (λ k. touches (sending b counter r) (m0.settings.start + k) && is_ungoverned [] (m0.settings.start + k)) 0 (omega (arith, len)) (and_from _ _ touched refl) in
    let value : physical_value [] (sending b counter r) m0.settings.start m0.settings.length ≡ (sending b counter r).bytes
    = ap (λ (x : ℕ). physical_value [] (sending b counter r) x m0.settings.length) start ∙ (ap (λ (x : ℕ). physical_value [] (sending b counter r) b.receive_start x) (len ∙ sym long) ∙ whole_values (sending b counter r)) in
    let first : physical_manager o [] false true (sending b counter r) 0 m0 ≡ record m0 { mail = Some (sending b counter r).bytes }
    = (managers_accessed o [] (sending b counter r) 0 m0).written (free 0 (omega arith)) ∙ (if_true _ _ _ (and_from _ _ may (and_from _ _ cov own)) ∙ (ap (ring_written m0) value ∙ if_true _ _ _ box)) in
    let no1 : may_write m1 ≡ false = and_right (is_enabled m1) _ (and_left _ _ (written-not-read m1.settings (ap is_master_read e1 ∙ h.send_read))) in
    let no2 : may_write m2 ≡ false = unset-write m2 (none-set m2.settings (e2 ∙ h.no_outputs)) in
    let no3 : may_write m3 ≡ false = unset-write m3 (none-set m3.settings (e3 ∙ h.no_inputs)) in
    ap (λ (ms : List SyncManager). physical_managers o [] false true (sending b counter r) 0 ms) (four-of s.managers four)
    ∙ list4 _ _ _ _ _ _ _ _ first (met-stays o (m0 ∷ []) (sending b counter r) 1 m1 (free 1 (omega arith)) no1)
    (met-stays o (m0 ∷ m1 ∷ []) (sending b counter r) 2 m2 (free 2 (omega arith)) no2)
    (met-stays o (m0 ∷ m1 ∷ m2 ∷ []) (sending b counter r) 3 m3 (free 3 (omega arith)) no3)

-- ---- the slave

pub record Delivered (b : Mailbox) (counter : ℕ) (r : SdoRequest) (s t : SlaveState) : Type 0 where
  pub kind : t.kind ≡ s.kind
  pub room : length t.memory ≡ length s.memory
  pub memory : (a : ℕ) → a < ram_start → a < length s.memory → slice_index t.memory a ≡ slice_index s.memory a
  pub count : length t.managers ≡ 4
  pub mailbox_message : (manager_at t.managers 0).mail ≡ Some (sending b counter r).bytes
  pub settings : (n : ℕ) → n < 4 → (manager_at t.managers n).settings ≡ (manager_at s.managers n).settings
  pub locked : (n : ℕ) → n < 4 → (manager_at t.managers n).locked ≡ (manager_at s.managers n).locked
  pub mail : (n : ℕ) → 1 ≤ n → n < 4 → (manager_at t.managers n).mail ≡ (manager_at s.managers n).mail
  pub outputs : manager_at t.managers 2 ≡ manager_at s.managers 2
  pub al : t.al ≡ s.al
  pub busy : t.sii.busy ≡ s.sii.busy
  pub objects : SameObjects s t

-- the first two managers with these messages
abbrev pub with_mails : List SyncManager → Option (List ℕ) → Option (List ℕ) → List SyncManager
with_mails ms x y = record (manager_at ms 0) { mail = x } ∷ record (manager_at ms 1) { mail = y } ∷ manager_at ms 2 ∷ manager_at ms 3 ∷ []

pub mails-settings : (ms : List SyncManager) (x y : Option (List ℕ)) (n : ℕ) → n < 4 → (manager_at (with_mails ms x y) n).settings ≡ (manager_at ms n).settings
mails-settings ms x y (suc (suc (suc (suc n)))) l = absurd (omega (arith, l))
mails-settings ms x y _ l = refl

pub mails-locked : (ms : List SyncManager) (x y : Option (List ℕ)) (n : ℕ) → n < 4 → (manager_at (with_mails ms x y) n).locked ≡ (manager_at ms n).locked
mails-locked ms x y (suc (suc (suc (suc n)))) l = absurd (omega (arith, l))
mails-locked ms x y _ l = refl

-- the second one's kept, or not asked for
pub mails-mail : (ms : List SyncManager) (x y : Option (List ℕ)) (n : ℕ) → 1 ≤ n → (n ≡ 1 → y ≡ (manager_at ms 1).mail) → n < 4 → (manager_at (with_mails ms x y) n).mail ≡ (manager_at ms n).mail
mails-mail ms x y zero a e l = absurd (omega (arith, a))
mails-mail ms x y (suc zero) a e l = e refl
mails-mail ms x y (suc (suc (suc (suc n)))) a e l = absurd (omega (arith, l))
mails-mail ms x y _ a e l = refl

pub delivered : (i counter : ℕ) (c : Config) (b : Mailbox) (r : SdoRequest) (s : SlaveState) → length s.managers ≡ 4 → AreMailboxes b c.managers → IsUpAt i c s → (manager_at s.managers 0).mail ≡ None
    → Delivered b counter r s (physical_after s false true (sending b counter r))
delivered i counter c b r s four h u none =
    let x : List ℕ = (sending b counter r).bytes in
    let e = sent-managers i counter c b r s four h u none in
    let ram = (set-lies (settings_at c.managers 0) h.receive_set).0 in
    subst (Delivered b counter r s) (sym (accesses_leave s (sending b counter r)).written) (record {
      kind = refl;
      room = (writes_by_byte s.kind.hardware s.managers (sending b counter r) s.memory).0;
      memory = λ a l k. ((writes_by_byte s.kind.hardware s.managers (sending b counter r) s.memory).1 a k).untouched (within_below b.receive_start (length (sending b counter r).bytes) a (omega (arith, ram, l)));
      count = ap length e;
      mailbox_message = ap (λ (ms : List SyncManager). (manager_at ms 0).mail) e;
      settings = λ n l. ap (λ (ms : List SyncManager). (manager_at ms n).settings) e ∙ mails-settings s.managers (Some x) (manager_at s.managers 1).mail n l;
      locked = λ n l. ap (λ (ms : List SyncManager). (manager_at ms n).locked) e ∙ mails-locked s.managers (Some x) (manager_at s.managers 1).mail n l;
      mail = λ n a l. ap (λ (ms : List SyncManager). (manager_at ms n).mail) e ∙ mails-mail s.managers (Some x) (manager_at s.managers 1).mail n a (λ _. refl) l;
      outputs = ap (λ (ms : List SyncManager). manager_at ms 2) e;
      al = if_false _ _ _ (within_below b.receive_start (length (sending b counter r).bytes) 0x0120 (omega (arith, ram)));
      busy = aside-busy (sending b counter r) s.sii (omega (arith, ram));
      objects = record { kind = refl; identity = refl; outs = refl; ins = refl; values = refl };
    })

delivered-slave : (kind : SlaveKind) (b : Mailbox) (counter : ℕ) (r : SdoRequest) (s t : SlaveState) → Delivered b counter r s t → IsOfKind kind s → IsOfKind kind t
delivered-slave kind b counter r s t a h = kind-kept kind s t a.kind a.room (a.count ∙ sym h.four) a.objects.outs a.objects.ins a.objects.values
    (λ e n l. a.locked n l ∙ h.unlocked_in_init (ap (λ (x : Al). x.state) (sym a.al) ∙ e) n l)
    (λ x e. a.memory x (let f = missing-low kind.hardware x e in omega (arith, f)) (let f = missing-low kind.hardware x e in let room = h.room in omega (arith, f, room))) h

delivered-up : (i counter : ℕ) (c : Config) (b : Mailbox) (r : SdoRequest) (s t : SlaveState) → length s.memory ≡ 0x3000 → c.talk ≡ None → AreMailboxes b c.managers → IsRequest r → c.rise ≡ Stays PreOp
    → Delivered b counter r s t → IsUpAt i c s → IsUpAt i (record c { talk = Some (record { mailbox = b; counter = counter; request = r }) }) t
delivered-up i counter c b r s t room none boxes q low h u =
    let silent : IsSilent c s = subst (λ (o : Option Talk). Talks i c o s) none u.talks in
    let byte = λ (a : ℕ) (l : a < 0x0800). h.memory a (omega (arith, l)) (omega (arith, room, l)) in
    record {
      configured = record {
        station_is = ap (λ (x : ℕ). x + 256 * slice_index t.memory 0x0011) (byte 0x0010 (omega arith)) ∙ (ap (λ (x : ℕ). slice_index s.memory 0x0010 + 256 * x) (byte 0x0011 (omega arith)) ∙ u.configured.station_is);
        settings = λ n l. h.settings n l ∙ u.configured.settings n l;
        fmmus = λ n k l m. byte (0x0600 + 16 * n + k) (omega (arith, l, m))
            ∙ (u.configured.fmmus n k l m ∙ ap (λ (x : SlaveKind). slice_index (fmmu_bytes (shown_fmmu x.hardware (fmmu_at c.fmmus n))) k) (sym h.kind));
        idle = λ e. h.busy ∙ u.configured.idle e;
        no_messages = λ n a l. h.mail n (omega (arith, a)) l ∙ u.configured.no_messages n a l;
        outputs = subst HoldsZeros (sym h.outputs) u.configured.outputs;
      };
      unlocked = λ n l. h.locked n l ∙ u.unlocked n l;
      rises = rises-alike c.rise s t h.kind (ap (λ (x : ℕ). x + 256 * slice_index t.memory 0x0121) (byte 0x0120 (omega arith)) ∙ ap (λ (x : ℕ). slice_index s.memory 0x0120 + 256 * x) (byte 0x0121 (omega arith))) h.al u.rises;
      talks = inl (record {
        mailboxes = boxes;
        request = q;
        mailbox_message = h.mailbox_message;
        no_reply = inr (h.mail 1 (omega arith) (omega arith) ∙ (silent.no_reply
            ∙ sym (left-same c (record c { talk = Some (record { mailbox = b; counter = counter; request = r }) }) s t h.kind (h.settings 1 (omega arith)) (ap (λ (x : Al). is_init x.state) h.al) refl)));
        assigned = let a = assigned-same c s t h.objects silent.assigned in record { outs = a.outs; ins = a.ins; came = a.came };
      });
      early = λ e. absurd (subst IsEarly low e);
      quiet = λ top. absurd (subst IsTop low top);
    }

pub pass-send : (kind : SlaveKind) (i counter : ℕ) (b : Mailbox) (r : SdoRequest) (c : Config) (trouble : Bool) (number : ℕ) (d : Datagram) (s : SlaveState)
    → i < 64 → CanAct c (SendRequest i counter b r) → IsDatagram d → Owes kind i (Up c) trouble (SendRequest i counter b r) number d s
pass-send kind i counter b r c trouble number d s l can good arrives h =
    let lies = set-lies (settings_at c.managers 0) can.2.receive_set in
    let silent = λ (u : IsUpAt i c s). subst (λ (o : Option Talk). Talks i c o s) can.1 u.talks in
    pass-own kind i c trouble (SendRequest i counter b r) number d s (sending b counter r) (as_one number (ForSend i counter b r)) l refl
    (window-sent Fpwr (station i) b.receive_start (filled b.receive_size (request_bytes counter r)) number) (let a = lies.1 in omega (arith, a, can.2.receive_start))
    (λ o. o) (λ top. subst IsTop can.0 top)
    (λ k u. delivered-slave kind b counter r s (physical_after s false true (sending b counter r)) (delivered i counter c b r s k.four can.2 u (silent u).no_message) k)
    (λ k u. delivered-up i counter c b r s (physical_after s false true (sending b counter r)) k.room can.1 can.2 can.3 can.0 (delivered i counter c b r s k.four can.2 u (silent u).no_message) u)
    good arrives h

-- ---- the datagrams of a start-up are datagrams: each field fits its bits

abbrev pub IsSendable : Action → Type 0
IsSendable (SetManager t n m r) = r.number < 4
IsSendable (SetFmmu t n f start) = n < 4
-- its address has 32 bits, and a part's datagram has room in a frame
IsSendable (FeedPart f) = (f.bytes ≤ 1422) × (f.address < 2 ^ 32)
IsSendable (SendRequest t counter b r) = IsReachable b
IsSendable (AwaitReply t b r) = IsReachable b
IsSendable (AwaitFreeReply t b r) = IsReachable b
IsSendable _ = Unit {0}

sent-good : (c : Command) (adp ado : ℕ) (bytes : List ℕ) (number : ℕ) → ado < 65536 → length bytes < 2048 → IsDatagram (sent c adp ado bytes number)
sent-good c adp ado bytes number a l = record { index = omega arith; address = omega (arith, a); reserved = omega arith; irq = omega arith; data_bytes = l; counter = omega arith }

zeros-few : (n : ℕ) → n < 2048 → length (zeros n) < 2048
zeros-few n l = let e = length-replicate {A = ℕ} n 0 in omega (arith, e, l)

pub datagram-good : (a : Action) (number : ℕ) → IsSendable a → IsDatagram (datagram_of a number)
datagram-good CountSlaves number h = sent-good Brd 0 0x0130 (zeros 2) number (omega arith) (zeros-few 2 (omega arith))
datagram-good AskInit number h = sent-good Bwr 0 0x0120 _ number (omega arith) (omega arith)
datagram-good AwaitInit number h = sent-good Brd 0 0x0130 (zeros 2) number (omega arith) (zeros-few 2 (omega arith))
datagram-good ClearFmmus number h = sent-good Bwr 0 0x0600 (zeros 64) number (omega arith) (zeros-few 64 (omega arith))
datagram-good ClearManagers number h = sent-good Bwr 0 0x0800 (zeros 32) number (omega arith) (zeros-few 32 (omega arith))
datagram-good ClearStations number h = sent-good Bwr 0 0x0010 (zeros 2) number (omega arith) (zeros-few 2 (omega arith))
datagram-good (NameSlave t) number h = sent-good Apwr (65536 - t) 0x0010 _ number (omega arith) (omega arith)
datagram-good (AskWord t which) number h = let e : length (read_command (word_address_of which)) ≡ 6 = refl in sent-good Fpwr (station t) 0x0502 (read_command (word_address_of which)) number (omega arith) (omega (arith, e))
datagram-good (AwaitWord t which) number h = sent-good Fprd (station t) 0x0502 (zeros 10) number (omega arith) (zeros-few 10 (omega arith))
datagram-good (SetManager t n m r) number h = sent-good Fpwr (station t) (0x0800 + 8 * r.number) (manager_bytes (record m { start = r.start })) number (let l : r.number < 4 = h in omega (arith, l)) (omega arith)
datagram-good (SetFmmu t n f start) number h = sent-good Fpwr (station t) (0x0600 + 16 * n) (fmmu_bytes (record f { physical_start = start })) number (let l : n < 4 = h in omega (arith, l)) (omega arith)
datagram-good AwaitInitState number h = sent-good Brd 0 0x0130 (zeros 2) number (omega arith) (zeros-few 2 (omega arith))
datagram-good ClearAllFmmus number h = sent-good Bwr 0 0x0600 (zeros 256) number (omega arith) (zeros-few 256 (omega arith))
datagram-good ClearAllManagers number h = sent-good Bwr 0 0x0800 (zeros 128) number (omega arith) (zeros-few 128 (omega arith))
datagram-good (AssignSii access) number h = sent-good Bwr 0 0x0500 _ number (omega arith) (omega arith)
datagram-good ClearSiiError number h = sent-good Bwr 0 0x0502 (zeros 2) number (omega arith) (zeros-few 2 (omega arith))
datagram-good (AwaitCleanInit t) number h = sent-good Fprd (station t) 0x0130 (zeros 6) number (omega arith) (zeros-few 6 (omega arith))
datagram-good (FeedPart f) number h =
    let few = h.0 in
    record { index = omega arith; address = h.1; reserved = omega arith; irq = omega arith; data_bytes = zeros-few f.bytes (omega (arith, few)); counter = omega arith }
datagram-good (AskState t to) number h = sent-good Fpwr (station t) 0x0120 (state_number to ∷ 0 ∷ []) number (omega arith) (omega arith)
datagram-good (AwaitState t to) number h = sent-good Fprd (station t) 0x0130 (zeros 6) number (omega arith) (zeros-few 6 (omega arith))
datagram-good (SendRequest t counter b r) number h = sent-good Fpwr (station t) b.receive_start (filled b.receive_size (request_bytes counter r)) number h.receive (omega (arith, sending-length b counter r h.receive_some, h.receive_few))
datagram-good (AwaitReply t b r) number h = sent-good Fprd (station t) b.send_start (zeros b.send_size) number h.send (zeros-few b.send_size (let x = h.send_few in omega (arith, x)))
datagram-good (AwaitFreeReply t b r) number h = sent-good Fprd (station t) b.send_start (zeros b.send_size) number h.send (zeros-few b.send_size (let x = h.send_few in omega (arith, x)))
