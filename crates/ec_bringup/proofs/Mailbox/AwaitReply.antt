-- A reply is read from a slave's mailbox.
use Rattle.ec_bringup.proofs.Words.{ℕ, ◌+◌, ◌-◌, ◌/◌, ◌%◌, ◌<◌, ◌≤◌, ◌≡◌, ◌⊎◌, ◌&&◌, not, Bool, true, false, Option, Some, None, refl, sym, ◌∙◌, ap, subst, inl, inr, arith, List, [], ◌∷◌, length, slice_index, is_some, is_none, unwrap_or, from_bool, and_from, and_left, and_right, lt-ltb, eqb-true, length-replicate, zeros, any_below, if_true, if_false, within_true, within_below, within_above, any_below_none, any_below_from, SyncManagerSettings, Mailbox, SlaveKind, ram_start, ram_end, is_set, is_mailbox, is_master_written, is_master_read, span, SyncManager, may_read, is_enabled, visible, covers, governor, governs, in_first_buffer, Fprd, Datagram, IsDatagram, adp_of, SlaveState, Meeting, manager_at, station_of, reads_under, is_ungoverned, Window, touches, physical_after, physical_manager, physical_managers, may_read_byte, some_byte_read, byte_read, byte_at, ram_byte, updated, window_of, slave_met, datagram_met, fmmu_bytes, shown_fmmu, settings_at, fmmu_at, AwaitReply, SdoRequest, station, message_verdict, Next, Rise, Config, Stage, Up, Talk, answered, after, CanAct, AreMailboxes, IsOfKind, IsAssigned, Talks, IsUpAt, Rises, Stands, Met, reads_meet, accesses_leave, managers_accessed, ram_governed, updated_whole, ne_eqb, Hardware, ◌++◌, ◌==◌, Action, PreOp, Stays, AwaitFreeReply, reply_awaited, IsSent, IsConfigured, IsOther, IsTop, MayRepeat, MayEnd, Untouched, IsEarly, has_some, is_init, has_emergency, takes_messages, left_to_say, emergency_bytes, is_aside, set_aside, filled, raw_verdict, Aside, heard_in, both_ways, and_parts, cases_lt, nat_lt, length-append, sent, Transfer, Download, Upload, Unexpected, reply_verdict, reply_in, reply_of, message_in, ◌||◌, if◌then◌else◌}
use Rattle.ec_coe.specs.Messages.{message_read, is_message}
use Rattle.ec_bringup.proofs.OneSlave.Alike.{rises-alike, left-done, assigned-same}
use Rattle.ec_bringup.proofs.OneFrame.RegisterWrites.{window-sent, reads-on, gone-passes}
use Rattle.ec_bringup.proofs.OneFrame.RegisterPolls.{own-reads, read-slave, read-bytes}
use Rattle.ec_bringup.proofs.Mailbox.SendRequest.{none-set, four-of, set-lies, list4, with_mails, mails-settings, mails-locked, mails-mail}
use Rattle.ec_bringup.proofs.Script.Walks.{SameFrame, answered-frame, answered-done}
use Rattle.ec_bringup.proofs.OneFrame.OtherSlaves.{ForAwaitReply, ForAwaitFreeReply, Owes, as_one, mine-told}

abbrev pub asking : Mailbox → Window
asking b = record { from = b.send_start; bytes = zeros b.send_size }

pub asking-length : (b : Mailbox) → length (asking b).bytes ≡ b.send_size
asking-length b = length-replicate {A = ℕ} b.send_size 0

-- ---- the counter of a read

pub read-counter : (s : SlaveState) (d : Datagram) → d.command ≡ Fprd → adp_of d ≡ station_of s → (datagram_met s d).counter ≡ (d.counter + from_bool (some_byte_read s.managers (window_of d))) % 65536
read-counter s d c e = (reads_meet s d (own-reads s d c e)).counter

-- ---- who governs the reply

written-not-read : (m : SyncManagerSettings) → is_master_written m ≡ true → is_master_read m ≡ false
written-not-read m h = ne_eqb (m.control / 4 % 4) 0 (λ e. let a = eqb-true (m.control / 4 % 4) 1 h in omega (arith, a, e))

-- what is known of the two mailboxes of a slave
pub record Boxes (b : Mailbox) (s : SlaveState) : Type 0 where
  pub four : length s.managers ≡ 4
  pub first_start : (manager_at s.managers 0).settings.start ≡ b.receive_start
  pub first_span : span (manager_at s.managers 0).settings ≡ b.receive_size
  pub first_read : may_read (manager_at s.managers 0) ≡ false
  pub start : (manager_at s.managers 1).settings.start ≡ b.send_start
  pub len : (manager_at s.managers 1).settings.length ≡ b.send_size
  pub box : is_mailbox (manager_at s.managers 1).settings ≡ true
  pub set : is_set (manager_at s.managers 1).settings ≡ true
  pub enabled : is_enabled (manager_at s.managers 1) ≡ true
  pub read : is_master_read (manager_at s.managers 1).settings ≡ true
  pub low : ram_start ≤ b.send_start
  pub high : b.send_start + b.send_size ≤ ram_end
  pub some : 16 ≤ b.send_size
  pub apart : (b.receive_start + b.receive_size ≤ b.send_start) ⊎ (b.send_start + b.send_size ≤ b.receive_start)
  pub third : may_read (manager_at s.managers 2) ≡ false
  pub fourth : may_read (manager_at s.managers 3) ≡ false

unset-read : (m : SyncManager) → is_set m.settings ≡ false → may_read m ≡ false
unset-read m e = and_left _ _ (and_left _ _ e)

pub boxes-of : (i : ℕ) (b : Mailbox) (c : Config) (s : SlaveState) → length s.managers ≡ 4 → AreMailboxes b c.managers → IsUpAt i c s → Boxes b s
boxes-of i b c s four h u =
    let e0 = u.configured.settings 0 (omega arith) in let e1 = u.configured.settings 1 (omega arith) in
    let e2 = u.configured.settings 2 (omega arith) in let e3 = u.configured.settings 3 (omega arith) in
    let lies = set-lies (settings_at c.managers 1) h.send_set in
    let ss = h.send_start in let sl = h.send_length in
    let wide : span (settings_at c.managers 1) ≡ (settings_at c.managers 1).length = if_true _ _ _ h.send_mailbox in
    let low = lies.0 in let high = lies.1 in
    record {
      four = four;
      first_start = ap (λ (x : SyncManagerSettings). x.start) e0 ∙ h.receive_start;
      first_span = ap span e0 ∙ (if_true _ _ _ h.receive_mailbox ∙ h.receive_length);
      first_read = and_right _ _ (and_left _ _ (ap is_master_read e0 ∙ written-not-read (settings_at c.managers 0) h.receive_written));
      start = ap (λ (x : SyncManagerSettings). x.start) e1 ∙ ss;
      len = ap (λ (x : SyncManagerSettings). x.length) e1 ∙ sl;
      box = ap is_mailbox e1 ∙ h.send_mailbox;
      set = ap is_set e1 ∙ h.send_set;
      enabled = and_from _ _ (ap is_set e1 ∙ h.send_set) (ap not (u.unlocked 1 (omega arith)));
      read = ap is_master_read e1 ∙ h.send_read;
      low = omega (arith, low, ss);
      high = omega (arith, high, ss, sl, wide);
      some = h.send_some;
      apart = h.apart;
      third = unset-read (manager_at s.managers 2) (none-set _ (e2 ∙ h.no_outputs));
      fourth = unset-read (manager_at s.managers 3) (none-set _ (e3 ∙ h.no_inputs));
    }

-- the mailbox out has no byte of the mailbox in
not-first : (b : Mailbox) (s : SlaveState) (a : ℕ) → Boxes b s → b.send_start ≤ a → a < b.send_start + b.send_size → governs (manager_at s.managers 0) a ≡ false
not-first b s a h l m =
    let m0 = manager_at s.managers 0 in
    and_right _ _ (elim h.apart [
      | inl x ↦ within_above m0.settings.start (span m0.settings) a (omega (arith, x))
      | inr x ↦ within_below m0.settings.start (span m0.settings) a (omega (arith, x))
    ])

pub governed : (b : Mailbox) (s : SlaveState) (a : ℕ) → Boxes b s → b.send_start ≤ a → a < b.send_start + b.send_size → governor s.managers a ≡ Some 1
governed b s a h l m =
    let m0 = manager_at s.managers 0 in let m1 = manager_at s.managers 1 in
    let wide : span m1.settings ≡ m1.settings.length = if_true _ _ _ h.box in
    let is1 : governs m1 a ≡ true = and_from _ _ h.set (within_true m1.settings.start (span m1.settings) a (omega arith) (omega arith)) in
    ap (λ (ms : List SyncManager). governor ms a) (four-of s.managers h.four) ∙ (if_false _ _ _ (not-first b s a h l m) ∙ if_true _ _ _ is1)

pub covered : (b : Mailbox) (s : SlaveState) → Boxes b s → covers (touches (asking b)) (manager_at s.managers 1) ≡ true
covered b s h =
    let n = asking-length b in
    and_from _ _ (within_true b.send_start (length (asking b).bytes) (manager_at s.managers 1).settings.start (omega arith) (omega (arith, n)))
    (within_true b.send_start (length (asking b).bytes) ((manager_at s.managers 1).settings.start + (manager_at s.managers 1).settings.length - 1) (omega arith) (omega (arith, n)))

-- it has a byte of its own, and that is asked for
own-byte : (b : Mailbox) (s : SlaveState) → Boxes b s
    → any_below (manager_at s.managers 1).settings.length (λ k. touches (asking b) ((manager_at s.managers 1).settings.start + k) && is_ungoverned (manager_at s.managers 0 ∷ []) ((manager_at s.managers 1).settings.start + k)) ≡ true
own-byte b s h =
    let n = asking-length b in
    let m1 : SyncManager = manager_at s.managers 1 in
    let free : governs (manager_at s.managers 0) (m1.settings.start + 0) ≡ false = not-first b s (m1.settings.start + 0) h (omega arith) (omega arith) in
    any_below_from (manager_at s.managers 1).settings.length
    (λ k. touches (asking b) ((manager_at s.managers 1).settings.start + k) && is_ungoverned (manager_at s.managers 0 ∷ []) ((manager_at s.managers 1).settings.start + k)) 0 (omega arith)
    (and_from _ _ (within_true b.send_start (length (asking b).bytes) (m1.settings.start + 0) (omega arith) (omega (arith, n))) (ap is_none (if_false _ _ _ free)))

-- a byte of it may be read where the mailbox may
pub readable : (b : Mailbox) (s : SlaveState) (k : ℕ) (r : Bool) → Boxes b s → k < b.send_size → may_read (manager_at s.managers 1) ≡ r → may_read_byte s.managers (touches (asking b)) (b.send_start + k) ≡ r
readable b s k r h l e =
    let g = governed b s (b.send_start + k) h (omega arith) (omega arith) in
    let f : in_first_buffer (manager_at s.managers 1) (b.send_start + k) ≡ true = lt-ltb _ _ (omega arith) in
    (ram_governed s (b.send_start + k) (omega arith) (omega arith)).reads (touches (asking b))
    ∙ (ap (λ (o : Option ℕ). reads_under s.managers (touches (asking b)) (b.send_start + k) o) g
    ∙ (ap (λ (x : Bool). x && (covers (touches (asking b)) (manager_at s.managers 1) && may_read (manager_at s.managers 1))) f
    ∙ (ap (λ (x : Bool). x && may_read (manager_at s.managers 1)) (covered b s h) ∙ e)))

-- ---- the managers after the read

met-kept : (o : Option Hardware) (lower : List SyncManager) (w : Window) (n : ℕ) (m : SyncManager) → may_read m ≡ false → physical_manager o lower true false w n m ≡ m
met-kept o lower w n m e = (managers_accessed o lower w n m).read ∙ if_false _ _ _ (and_left (may_read m) _ e)

managers-after : (b : Mailbox) (s : SlaveState) (x : SyncManager) → Boxes b s → physical_manager s.kind.hardware (manager_at s.managers 0 ∷ []) true false (asking b) 1 (manager_at s.managers 1) ≡ x
    → physical_managers s.kind.hardware [] true false (asking b) 0 s.managers ≡ manager_at s.managers 0 ∷ x ∷ manager_at s.managers 2 ∷ manager_at s.managers 3 ∷ []
managers-after b s x h e =
    let m0 = manager_at s.managers 0 in let m1 = manager_at s.managers 1 in let m2 = manager_at s.managers 2 in let m3 = manager_at s.managers 3 in
    ap (λ (ms : List SyncManager). physical_managers s.kind.hardware [] true false (asking b) 0 ms) (four-of s.managers h.four)
    ∙ list4 _ _ _ _ _ _ _ _ (met-kept s.kind.hardware [] (asking b) 0 m0 h.first_read) e (met-kept s.kind.hardware (m0 ∷ m1 ∷ []) (asking b) 2 m2 h.third) (met-kept s.kind.hardware (m0 ∷ m1 ∷ m2 ∷ []) (asking b) 3 m3 h.fourth)

-- nothing to read
pub unread : (b : Mailbox) (s : SlaveState) → Boxes b s → may_read (manager_at s.managers 1) ≡ false → physical_after s true false (asking b) ≡ s
unread b s h e = (accesses_leave s (asking b)).read ∙ (ap (λ (ms : List SyncManager). record s { managers = ms }) (managers-after b s (manager_at s.managers 1) h (met-kept s.kind.hardware (manager_at s.managers 0 ∷ []) (asking b) 1 (manager_at s.managers 1) e) ∙ sym (four-of s.managers h.four)))

-- the reply is read, and the mailbox empty
abbrev pub emptied : SlaveState → SlaveState
emptied s = record s { managers = with_mails s.managers (manager_at s.managers 0).mail None }

pub read-out : (b : Mailbox) (s : SlaveState) → Boxes b s → may_read (manager_at s.managers 1) ≡ true → physical_after s true false (asking b) ≡ emptied s
read-out b s h e = (accesses_leave s (asking b)).read ∙ ap (λ (ms : List SyncManager). record s { managers = ms }) (managers-after b s (record (manager_at s.managers 1) { mail = None }) h
    ((managers_accessed s.kind.hardware (manager_at s.managers 0 ∷ []) (asking b) 1 (manager_at s.managers 1)).read ∙ (if_true _ _ _ (and_from _ _ e (and_from _ _ (covered b s h) (own-byte b s h))) ∙ if_true _ _ _ h.box)))

-- ---- the data

shown-at : (b : Mailbox) (s : SlaveState) (raw : List ℕ) (k : ℕ) → Boxes b s → (manager_at s.managers 1).mail ≡ Some raw → k < b.send_size → byte_at s (b.send_start + k) ≡ slice_index raw k
shown-at b s raw k h e l =
    let z : b.send_start + k - (manager_at s.managers 1).settings.start ≡ k = omega arith in
    let v : visible (manager_at s.managers 1) ≡ raw = if_true _ _ _ h.box ∙ ap (λ (o : Option (List ℕ)). unwrap_or o []) e in
    (ram_governed s (b.send_start + k) (omega arith) (omega arith)).shows
    ∙ (ap (λ (o : Option ℕ). ram_byte s.memory s.managers (b.send_start + k) o) (governed b s (b.send_start + k) h (omega arith) (omega arith))
    ∙ (ap (λ (x : List ℕ). slice_index x (b.send_start + k - (manager_at s.managers 1).settings.start)) v ∙ ap (λ (x : ℕ). slice_index raw x) z))

pub raw-read : (b : Mailbox) (s : SlaveState) (raw : List ℕ) → Boxes b s → (manager_at s.managers 1).mail ≡ Some raw → length raw ≡ b.send_size → may_read (manager_at s.managers 1) ≡ true
    → updated (asking b).bytes (byte_read s false (asking b)) ≡ raw
raw-read b s raw h e n r =
    updated_whole (asking b).bytes raw (byte_read s false (asking b)) (asking-length b ∙ sym n)
    (λ k l. if_true _ _ _ (readable b s k true h (omega (arith, l, n)) r) ∙ ap (λ (x : ℕ). Some x) (shown-at b s raw k h e (omega (arith, l, n))))

-- ---- the slave

emptied-slave : (kind : SlaveKind) (s : SlaveState) → IsOfKind kind s → IsOfKind kind (emptied s)
emptied-slave kind s h = record {
  kind_is = h.kind_is;
  room = h.room;
  four = refl;
  outs = h.outs;
  ins = h.ins;
  fixed = λ e. let f = h.fixed e in record { outs = f.outs; ins = f.ins };
  sizes = h.sizes;
  unlocked_in_init = λ e n l. mails-locked s.managers (manager_at s.managers 0).mail None n l ∙ h.unlocked_in_init e n l;
  missing = h.missing;
}

-- a reply was read, so nothing is left to say
said-all : (c : Config) (r : SdoRequest) → has_some (answered c r).done ≡ true
said-all c r = ap has_some (answered-done c r) ∙ some-behind c.done
  where
    some-behind : (rs : List SdoRequest) → has_some (rs ++ r ∷ []) ≡ true
    some-behind [] = refl
    some-behind (x ∷ rs) = refl

-- what is known of a slave beside its messages, with another configuration of the same frame
emptied-configured : (i : ℕ) (c d : Config) (s : SlaveState) → SameFrame c d → IsConfigured i c s → IsConfigured i d (emptied s)
emptied-configured i c d s f k = record {
  station_is = k.station_is;
  settings = λ n l. mails-settings s.managers (manager_at s.managers 0).mail None n l ∙ (k.settings n l ∙ ap (λ (ms : List SyncManagerSettings). settings_at ms n) (sym f.managers));
  fmmus = λ n j l m. k.fmmus n j l m ∙ ap (λ fs. slice_index (fmmu_bytes (shown_fmmu s.kind.hardware (fmmu_at fs n))) j) (sym f.fmmus);
  idle = λ e. k.idle (sym f.idle ∙ e);
  no_messages = λ n a l. mails-mail s.managers (manager_at s.managers 0).mail None n (omega (arith, a)) (λ e. absurd (omega (arith, a, e))) l ∙ k.no_messages n a l;
  outputs = k.outputs;
}

not-early : (r : Rise) → r ≡ Stays PreOp → IsEarly r → ⊥
not-early r e h = subst IsEarly e h

emptied-up : (i : ℕ) (c : Config) (r : SdoRequest) (s : SlaveState) → c.rise ≡ Stays PreOp → (manager_at s.managers 0).mail ≡ None → IsAssigned (answered c r) s → IsUpAt i c s → IsUpAt i (answered c r) (emptied s)
emptied-up i c r s preop none done u =
    let d : Config = answered c r in
    let f : SameFrame (record c { done = c.done ++ r ∷ [] }) d = answered-frame (record c { done = c.done ++ r ∷ [] }) r r.transfer in
    record {
      configured = emptied-configured i c d s (record { managers = f.managers; fmmus = f.fmmus; idle = f.idle; talk = f.talk; rise = f.rise }) u.configured;
      unlocked = λ n l. mails-locked s.managers (manager_at s.managers 0).mail None n l ∙ u.unlocked n l;
      rises = subst (λ (x : Rise). Rises x (emptied s)) (sym f.rise) (rises-alike c.rise s (emptied s) refl refl refl u.rises);
      talks = subst (λ (o : Option Talk). Talks i d o (emptied s)) (sym f.talk) (record {
        no_message = none;
        no_reply = sym (left-done d (emptied s) (said-all c r));
        assigned = assigned-same d s (emptied s) (record { kind = refl; identity = refl; outs = refl; ins = refl; values = refl }) done;
      });
      early = λ h. absurd (not-early d.rise (f.rise ∙ preop) h);
      quiet = λ _. f.talk;
    }

-- what was said before the reply was read: the request lies there still
pub heard-up : (i : ℕ) (c : Config) (k : Talk) (s : SlaveState) → c.talk ≡ Some k → IsSent k c s → IsUpAt i c s → IsUpAt i c (emptied s)
heard-up i c k s talk h u = record {
  configured =
      let k = emptied-configured i c (record c { talk = None }) s (record { managers = refl; fmmus = refl; idle = refl; talk = refl; rise = refl }) u.configured in
      record { station_is = k.station_is; settings = k.settings; fmmus = k.fmmus; idle = k.idle; no_messages = k.no_messages; outputs = k.outputs };
  unlocked = λ n l. mails-locked s.managers (manager_at s.managers 0).mail None n l ∙ u.unlocked n l;
  rises = rises-alike c.rise s (emptied s) refl refl refl u.rises;
  talks = subst (λ (o : Option Talk). Talks i c o (emptied s)) (sym talk) (inl (record {
    mailboxes = h.mailboxes;
    request = h.request;
    mailbox_message = h.mailbox_message;
    no_reply = inl refl;
    assigned = assigned-same c s (emptied s) (record { kind = refl; identity = refl; outs = refl; ins = refl; values = refl }) h.assigned;
  }));
  early = u.early;
  quiet = u.quiet;
}

-- what the slave says unasked is set aside
pub left-aside : (c : Config) (s : SlaveState) (raw : List ℕ) → left_to_say c s ≡ Some raw
    → (is_aside raw ≡ true) × (length raw ≡ (manager_at s.managers 1).settings.length) × ((rest : List ℕ) × (raw ≡ emergency_bytes 1 ++ rest))
left-aside c s raw e = by (has_some c.done || is_init s.al.state) (has_emergency s.kind.hardware && (is_some s.kind.mailbox && takes_messages m)) refl e
  where
    m : SyncManagerSettings
    m = (manager_at s.managers 1).settings

    some-is : (x y : List ℕ) → (let o : Option (List ℕ) = Some x in o ≡ Some y) → x ≡ y
    some-is x y q = cc

    long : (has_emergency s.kind.hardware && (is_some s.kind.mailbox && takes_messages m)) ≡ true → 16 ≤ m.length
    long h =
        let a = (and_parts (has_emergency s.kind.hardware) _ h).1 in
        let b = (and_parts (is_some s.kind.mailbox) _ a).1 in
        let c = (and_parts (is_set m) _ b).1 in
        let d = (and_parts (is_mailbox m) _ c).1 in
        let f = (and_parts (is_master_read m) _ d).1 in
        elim (cases_lt m.length 16) [
          | inl l ↦ absurd (both_ways (not (nat_lt m.length 16)) (ap not (lt-ltb m.length 16 l)) f)
          | inr l ↦ l
        ]

    by : (x y : Bool) → (has_emergency s.kind.hardware && (is_some s.kind.mailbox && takes_messages m)) ≡ y → (if x then None else (if y then Some (filled m.length (emergency_bytes 1)) else None)) ≡ Some raw
        → (is_aside raw ≡ true) × (length raw ≡ m.length) × ((rest : List ℕ) × (raw ≡ emergency_bytes 1 ++ rest))
    by true y h q = absurd (cc q)
    by false false h q = absurd (cc q)
    by false true h q =
        let is : filled m.length (emergency_bytes 1) ≡ raw = some-is (filled m.length (emergency_bytes 1)) raw q in
        let n = long h in
        let a = length-append (emergency_bytes 1) (zeros (m.length - 16)) in
        let b = length-replicate {A = ℕ} (m.length - 16) 0 in
        let c : length (emergency_bytes 1) ≡ 16 = refl in
        let size : length (filled m.length (emergency_bytes 1)) ≡ m.length = omega (arith, a, b, c, n) in
        (ap is_aside (sym is) ∙ set_aside.emergencies 1 (zeros (m.length - 16)), ap length (sym is) ∙ size, (zeros (m.length - 16), sym is))

-- what the read finds
pub data Found (i : ℕ) (b : Mailbox) (r : SdoRequest) (c : Config) (k : Talk) (s : SlaveState) : Type 0 where
  Nothing : may_read (manager_at s.managers 1) ≡ false → Found i b r c k s
  Said : (raw : List ℕ) → (manager_at s.managers 1).mail ≡ Some raw → length raw ≡ b.send_size → may_read (manager_at s.managers 1) ≡ true → is_aside raw ≡ true → ((rest : List ℕ) × (raw ≡ emergency_bytes 1 ++ rest)) → IsSent k c s → Found i b r c k s
  Letter : (raw : List ℕ) → (manager_at s.managers 1).mail ≡ Some raw → length raw ≡ b.send_size → may_read (manager_at s.managers 1) ≡ true → (manager_at s.managers 0).mail ≡ None
      → is_aside raw ≡ false → ((hardware : Bool) → raw_verdict hardware i r raw ≡ Next → IsAssigned (answered c r) s) → Found i b r c k s

found : (i counter : ℕ) (b : Mailbox) (r : SdoRequest) (c : Config) (s : SlaveState) → Boxes b s → Talks i c (Some (record { mailbox = b; counter = counter; request = r })) s
    → Found i b r c (record { mailbox = b; counter = counter; request = r }) s
found i counter b r c s h (inl t) = by (manager_at s.managers 1).mail refl
  where
    by : (o : Option (List ℕ)) → (manager_at s.managers 1).mail ≡ o → Found i b r c (record { mailbox = b; counter = counter; request = r }) s
    by None e = Nothing (and_right _ _ (and_right _ _ (if_true _ _ _ h.box ∙ ap is_some e)))
    by (Some raw) e =
        let left : left_to_say c s ≡ Some raw = elim t.no_reply [
          | inl none ↦ absurd (let f : None ≡ Some raw = sym none ∙ e in cc)
          | inr q ↦ sym q ∙ e
        ] in
        let said = left-aside c s raw left in
        Said raw e (said.1 ∙ h.len) (and_from _ _ h.enabled (and_from _ _ h.read (if_true _ _ _ h.box ∙ ap is_some e))) said.0 said.2 t
found i counter b r c s h (inr t) = Letter t.raw t.reply t.whole (and_from _ _ h.enabled (and_from _ _ h.read (if_true _ _ _ h.box ∙ ap is_some t.reply))) t.no_message t.plain t.done

pub some-read : (b : Mailbox) (s : SlaveState) (r : Bool) → Boxes b s → may_read (manager_at s.managers 1) ≡ r → some_byte_read s.managers (asking b) ≡ r
some-read b s true h e = let some = h.some in let n = asking-length b in
    any_below_from (length (asking b).bytes) (λ k. may_read_byte s.managers (touches (asking b)) (b.send_start + k)) 0 (omega (arith, some, n)) (readable b s 0 true h (omega (arith, some)) e)
some-read b s false h e = let n = asking-length b in
    any_below_none (length (asking b).bytes) (λ k. may_read_byte s.managers (touches (asking b)) (b.send_start + k)) (λ k l. readable b s k false h (omega (arith, l, n)) e)

-- and it is no reply
emergency-reply : (index subindex : ℕ) (rest : List ℕ) → reply_in index subindex (message_in (emergency_bytes 1 ++ rest)) ≡ Unexpected
unfolding reply_in
emergency-reply index subindex rest =
    same (((message_in (emergency_bytes 1 ++ rest)).index == index) && ((message_in (emergency_bytes 1 ++ rest)).subindex == subindex))
  where
    same : (b : Bool) → (if b then Unexpected else Unexpected) ≡ Unexpected
    same true = refl
    same false = refl

unexpected-stops : (i : ℕ) (r : SdoRequest) (x : Transfer) → reply_verdict i r x Unexpected ≡ Next → ⊥
unexpected-stops i r (Download v) e = cc
unexpected-stops i r (Upload v) e = cc

emergency-stops : (i : ℕ) (r : SdoRequest) (rest : List ℕ) → message_verdict i r (message_read (emergency_bytes 1 ++ rest)) ≡ Next → ⊥
unfolding message_read
emergency-stops i r rest e = by (is_message (emergency_bytes 1 ++ rest)) e
  where
    by : (a : Bool) → reply_verdict i r r.transfer (reply_of r.index r.subindex (if a then Some (message_in (emergency_bytes 1 ++ rest)) else None)) ≡ Next → ⊥
    by true q = unexpected-stops i r r.transfer (sym (ap (reply_verdict i r r.transfer) (emergency-reply r.index r.subindex rest)) ∙ q)
    by false q = unexpected-stops i r r.transfer q

said-stops : (hardware : Bool) (i : ℕ) (r : SdoRequest) (raw : List ℕ) → is_aside raw ≡ true → ((rest : List ℕ) × (raw ≡ emergency_bytes 1 ++ rest)) → raw_verdict hardware i r raw ≡ Next → ⊥
said-stops true i r raw aside is e = (let v : Aside (heard_in i raw) ≡ Next = sym (if_true _ _ _ aside) ∙ e in cc)
said-stops false i r raw aside is e = emergency-stops i r is.0 (sym (ap (λ (x : List ℕ). message_verdict i r (message_read x)) is.1) ∙ e)

-- ---- both waits for a reply: with `hardware` and without

repeat-of : (hardware : Bool) (i : ℕ) (b : Mailbox) (r : SdoRequest) (x : Datagram) → MayRepeat (reply_awaited hardware i b r) x → (x.counter ≡ 0) ⊎ (is_aside x.data_bytes ≡ true)
repeat-of true i b r x m = m
repeat-of false i b r x m = inl m

end-of : (hardware : Bool) (i : ℕ) (b : Mailbox) (r : SdoRequest) (x : Datagram) → MayEnd (reply_awaited hardware i b r) x → (x.counter ≡ 1) × (raw_verdict hardware i r x.data_bytes ≡ Next)
end-of true i b r x m = m
end-of false i b r x m = m

own-wait : (hardware : Bool) (i : ℕ) (b : Mailbox) (r : SdoRequest) → IsOther (reply_awaited hardware i b r) i → ⊥
own-wait true i b r o = o refl
own-wait false i b r o = o refl

wait-leads : (hardware : Bool) (i : ℕ) (b : Mailbox) (r : SdoRequest) (c : Config) → after i (Up c) (reply_awaited hardware i b r) ≡ Up (answered c r)
wait-leads true i b r c = mine-told (as_one 0 (ForAwaitFreeReply i b r)) c
wait-leads false i b r c = mine-told (as_one 0 (ForAwaitReply i b r)) c

-- what is asked of a configuration before either
abbrev pub Waits : Config → ℕ → Mailbox → SdoRequest → Type 0
Waits c i b r = (c.rise ≡ Stays PreOp) × ((counter : ℕ) × (c.talk ≡ Some (record { mailbox = b; counter = counter; request = r }))) × AreMailboxes b c.managers

-- the frame at the slave that it is for
module _ (hardware : Bool) (kind : SlaveKind) (i : ℕ) (b : Mailbox) (r : SdoRequest) (c : Config) (trouble : Bool) (number : ℕ) (d : Datagram) (s : SlaveState) (can : Waits c i b r)
    (h : Stands kind i (Up c) trouble s) where
  abbrev a : Action
  a = reply_awaited hardware i b r

  read : (k : Talk) → c.talk ≡ Some k → Found i b r c k s → Boxes b s → IsUpAt i c s → d.command ≡ Fprd → adp_of d ≡ station_of s → window_of d ≡ asking b → d.counter ≡ 0 → Met kind i (Up c) trouble a (datagram_met s d) (slave_met s d)
  read k talk (Nothing empty) bx u cmd e w z =
      let same : slave_met s d ≡ s = read-slave s d cmd e ∙ (ap (λ (x : Window). physical_after s true false x) w ∙ unread b s bx empty) in
      let sum : (datagram_met s d).counter ≡ 0 = read-counter s d cmd e ∙ (ap (λ (x : Window). (d.counter + from_bool (some_byte_read s.managers x)) % 65536) w
      ∙ (ap (λ (x : Bool). (d.counter + from_bool x) % 65536) (some-read b s false bx empty) ∙ ap (λ (x : ℕ). (x + from_bool false) % 65536) z)) in
      record {
        other = λ o. absurd (own-wait hardware i b r o);
        repeated = λ _. subst (λ (t : SlaveState). Stands kind i (Up c) trouble t) (sym same) h;
        ended = λ m. absurd (let x = (end-of hardware i b r (datagram_met s d) m).0 in omega (arith, x, sum));
      }
  read k talk (Said raw mail whole full aside is t) bx u cmd e w z =
      let new : slave_met s d ≡ emptied s = read-slave s d cmd e ∙ (ap (λ (x : Window). physical_after s true false x) w ∙ read-out b s bx full) in
      let bytes : (datagram_met s d).data_bytes ≡ raw = read-bytes s d cmd e ∙ (ap (λ (x : Window). updated x.bytes (byte_read s false x)) w ∙ raw-read b s raw bx mail whole full) in
      record {
        other = λ o. absurd (own-wait hardware i b r o);
        repeated = λ _. subst (λ (t : SlaveState). Stands kind i (Up c) trouble t) (sym new) (record { slave = emptied-slave kind s h.slave; at = inl (heard-up i c k s talk t u) });
        ended = λ m. absurd (said-stops hardware i r raw aside is (subst (λ (x : List ℕ). raw_verdict hardware i r x ≡ Next) bytes (end-of hardware i b r (datagram_met s d) m).1));
      }
  read k talk (Letter raw mail whole full none plain done) bx u cmd e w z =
      let new : slave_met s d ≡ emptied s = read-slave s d cmd e ∙ (ap (λ (x : Window). physical_after s true false x) w ∙ read-out b s bx full) in
      let sum : (datagram_met s d).counter ≡ 1 = read-counter s d cmd e ∙ (ap (λ (x : Window). (d.counter + from_bool (some_byte_read s.managers x)) % 65536) w
      ∙ (ap (λ (x : Bool). (d.counter + from_bool x) % 65536) (some-read b s true bx full) ∙ ap (λ (x : ℕ). (x + from_bool true) % 65536) z)) in
      let bytes : (datagram_met s d).data_bytes ≡ raw = read-bytes s d cmd e ∙ (ap (λ (x : Window). updated x.bytes (byte_read s false x)) w ∙ raw-read b s raw bx mail whole full) in
      record {
        other = λ o. absurd (own-wait hardware i b r o);
        repeated = λ m. absurd (elim (repeat-of hardware i b r (datagram_met s d) m) [
          | inl x ↦ omega (arith, x, sum)
          | inr x ↦ both_ways (is_aside raw) plain (ap is_aside (sym bytes) ∙ x)
        ]);
        ended = λ m. subst (λ (t : SlaveState). Stands kind i (after i (Up c) a) trouble t) (sym new) (subst (λ (x : Stage). Stands kind i x trouble (emptied s)) (sym (wait-leads hardware i b r c))
            (record {
              slave = emptied-slave kind s h.slave;
              at = inl (emptied-up i c r s can.0 none (done hardware (subst (λ (x : List ℕ). raw_verdict hardware i r x ≡ Next) bytes (end-of hardware i b r (datagram_met s d) m).1)) u);
            }));
      }

  met : i < 64 → IsDatagram d → d.command ≡ Fprd → adp_of d ≡ station i → window_of d ≡ asking b → d.counter ≡ 0 → Met kind i (Up c) trouble a (datagram_met s d) (slave_met s d)
  met l good cmd adp w z = elim h.at [
    | inl u ↦
        let bx : Boxes b s = boxes-of i b c s h.slave.four can.2 u in
        read (record { mailbox = b; counter = can.1.0; request = r }) can.1.1 (found i can.1.0 b r c s bx (subst (λ (o : Option Talk). Talks i c o s) can.1.1 u.talks)) bx u cmd (adp ∙ sym u.configured.station_is) w z
    | inr (f, inl g) ↦
        let same : slave_met s d ≡ s = ap (λ (x : Meeting). x.slave) (gone-passes i s d l good (inl cmd) adp g) in
        record {
          other = λ o. absurd (own-wait hardware i b r o);
          repeated = λ _. subst (λ (t : SlaveState). Stands kind i (Up c) trouble t) (sym same) h;
          ended = λ m. subst (λ (t : SlaveState). Stands kind i (after i (Up c) a) trouble t) (sym same) (subst (λ (x : Stage). Stands kind i x trouble s) (sym (wait-leads hardware i b r c)) (record { slave = h.slave; at = inr (f, inl g) }));
        }
    | inr (f, inr g) ↦ absurd (subst IsTop can.0 g.top)
  ]

-- as it arrives
came-in : (i : ℕ) (b : Mailbox) (number : ℕ) (d : Datagram) → i < 64 → Untouched i i (sent Fprd (station i) b.send_start (zeros b.send_size) number) d
    → (d.command ≡ Fprd) × (adp_of d ≡ station i) × (window_of d ≡ asking b) × (d.counter ≡ 0)
came-in i b number d l x =
    let e : d ≡ sent Fprd (station i) b.send_start (zeros b.send_size) number = x.to_come (omega arith) in (
      x.gone_by.command,
      (let y = x.gone_by.address in omega (arith, y, l)),
      ap window_of e ∙ window-sent Fprd (station i) b.send_start (zeros b.send_size) number,
      ap (λ (y : Datagram). y.counter) e,
    )

goes-on : (i : ℕ) (b : Mailbox) (number : ℕ) (d : Datagram) (s : SlaveState) → Untouched i i (sent Fprd (station i) b.send_start (zeros b.send_size) number) d
    → Untouched i (i + 1) (sent Fprd (station i) b.send_start (zeros b.send_size) number) (datagram_met s d)
goes-on i b number d s x = record { to_come = λ k. absurd (omega (arith, k)); gone_by = reads-on Fprd s d (sent Fprd (station i) b.send_start (zeros b.send_size) number) refl x.gone_by x.gone_by.command }

pub pass-await-reply : (kind : SlaveKind) (i : ℕ) (b : Mailbox) (r : SdoRequest) (c : Config) (trouble : Bool) (number : ℕ) (d : Datagram) (s : SlaveState)
    → i < 64 → CanAct c (AwaitReply i b r) → IsDatagram d → Owes kind i (Up c) trouble (AwaitReply i b r) number d s
pass-await-reply kind i b r c trouble number d s l can good arrives h =
    let x = came-in i b number d l arrives in
    (met false kind i b r c trouble number d s can h l good x.0 x.1 x.2 x.3, goes-on i b number d s arrives)

pub pass-await-free : (kind : SlaveKind) (i : ℕ) (b : Mailbox) (r : SdoRequest) (c : Config) (trouble : Bool) (number : ℕ) (d : Datagram) (s : SlaveState)
    → i < 64 → CanAct c (AwaitFreeReply i b r) → IsDatagram d → Owes kind i (Up c) trouble (AwaitFreeReply i b r) number d s
pass-await-free kind i b r c trouble number d s l can good arrives h =
    let x = came-in i b number d l arrives in
    (met true kind i b r c trouble number d s can h l good x.0 x.1 x.2 x.3, goes-on i b number d s arrives)
