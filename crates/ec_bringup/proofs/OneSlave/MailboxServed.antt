-- A firmware step of a slave that stands at a stage: its mailbox.
use Rattle.ec_bringup.proofs.Words.{ℕ, ◌+◌, ◌-◌, ◌*◌, ◌<◌, ◌≤◌, ◌≡◌, ◌&&◌, ◌++◌, not, Bool, true, Option, Some, None, refl, sym, ◌∙◌, ap, subst, inl, inr, arith, List, length, slice_index, is_some, length-append, option_and_then, ◌%◌, ◌^◌, false, is_none, cases_Bool, both_ways, and_parts, le-ltb, eq-eqb, and_from, and_left, and_right, lt-ltb, length-replicate, zeros, if_true, if_false, within_true, SlaveKind, is_mailbox, is_master_written, is_set, is_master_read, span, SyncManager, is_enabled, mailbox_message_in, padded, may_write, Al, SlaveState, manager_at, station_of, Message, ValueSize, One, Two, Three, Four, DownloadRequest, DownloadResponse, UploadResponse, message_read, message_length, command_of, command_number, message_bytes, message_in, size_number, service_of, service_number, KeepsBesideMessages, IsAnswered, three_parts, messages_keep, messages_rest, requests_answered, requests_decided, finished, switched_on, Answer, answer_of, reads_back, reads-as-message, command-read, service-read, index-read, subindex-read, value-read, replies_fit, replies_alone, message_or_none, dictionary_of, is_preop, has_mailbox, takes_reply, is_served, request_for, request_in, reply_counter, answer_to, bytes_to, message_served, served, is_init, read_finished, request_decided, Transfer, Download, Upload, SdoRequest, message_verdict, reply_verdict, Next, filled, request_bytes, request_command, request_message, request_value, station, datagram_of, Config, Stage, Before, Called, Down, Up, Talk, HasAll, HoldsZeros, IsOfKind, IsConfigured, IsSent, Claims, Talks, IsUpAt, IsDownAt, Reached, HadFault, Stands, IsIn, mod-eq_of_lt, SyncManagerSettings, Mailbox, Fpwr, State, PreOp, governor, covers, in_first_buffer, writes_under, touches, datagram_met, Service, Response, Sdo, reply_in, reply_by, response_in, Dictionary, SendRequest, AreMailboxes, ram_governed, Lowered, HasFallen, IsLoweredAt, shown_fmmu, fmmu_bytes, fmmu_at, [], ◌∷◌, Identity, Assignment, SdoValue, all_assigned, is_assignable, is_fixed, is_aside, raw_verdict, free_message_verdict, free_reply_verdict, size_asked, heard_in, Aside, sized_message, sized_command, Came, IsDictionary, AreDone, done_by, good, set_aside, answered-slots}
use Rattle.ec_bringup.proofs.OneSlave.Alike.{rises-alike, word_of, stands-by, gone-on, had-fault, of-type}
use Rattle.ec_bringup.proofs.OneSlave.AlRequest.{stands-decided, stands-finished}
use Rattle.ec_bringup.proofs.OneSlave.Lacking.{has-above}
use Rattle.ec_coe.specs.ReplyBytes.{reply_bytes, bytes_with, letters_behind}
use Rattle.ec_bringup.proofs.Mailbox.ReplyClaims.{reply-claims, none-stops}
use Rattle.ec_bringup.proofs.Script.Walks.{answered-done}
use Rattle.ec_bringup.proofs.OneFrame.RegisterWrites.{window-sent, own-writes}
use Rattle.ec_bringup.proofs.Mailbox.SendRequest.{sending, sending-length, set-lies, four-of}
use Rattle.ec_bringup.proofs.OneFrame.RegisterPolls.{write-counts}
use Rattle.ec_bringup.proofs.OneFrame.Awaits.{HasReply}

-- ---- a request is answered

abbrev pub message_of : Talk → Message
message_of t = request_message t.counter t.request

-- a request's command has a name
own-command : (x : Transfer) → command_of (command_number (request_command x)) ≡ request_command x
own-command (Download v) = elim v.size as (λ s. command_of (command_number (DownloadRequest s)) ≡ DownloadRequest s) [ One ↦ refl | Two ↦ refl | Three ↦ refl | Four ↦ refl ]
own-command (Upload v) = refl

pub mailbox_message-read : (t : Talk) → message_read (filled t.mailbox.receive_size (request_bytes t.counter t.request)) ≡ Some (message_of t)
mailbox_message-read t = reads_back (message_of t) _ (record { counter = omega arith; service = omega arith; own_service = refl; own_command = own-command t.request.transfer })

-- the reply to a message, in manager 1
abbrev pub reply_raw : SlaveState → Message → List ℕ
reply_raw s r = padded (manager_at s.managers 1) (bytes_to s r)

-- the step, in short
pub record Replies (s : SlaveState) (r : Message) (t : SlaveState) : Type 0 where
  pub kept : KeepsBesideMessages s t
  pub answer : IsAnswered s r t

-- ---- a slave that was sent a request

pub raw-length : (m : SyncManager) (message : List ℕ) (size : ℕ) → length message ≤ m.settings.length → m.settings.length ≡ size → length (padded m message) ≡ size
raw-length m message size e f =
    let a = length-append message (zeros (m.settings.length - length message)) in
    let b = length-replicate {A = ℕ} (m.settings.length - length message) 0 in
    omega (arith, a, b, e, f)

-- a reply fits
pub reply-fits : (s : SlaveState) (r : Message) → 16 ≤ (manager_at s.managers 1).settings.length → length (bytes_to s r) ≤ (manager_at s.managers 1).settings.length
reply-fits s r l = replies_fit.fits (answer_to s r).dictionary (manager_at s.managers 1).settings.length (answer_to s r).reply l

-- the same dictionary after one request more
done-more : (d : Dictionary) (rs : List SdoRequest) (e : Dictionary) (r : SdoRequest) (f : Dictionary) → AreDone d rs e → done_by e r r.transfer ≡ good f → AreDone d (rs ++ r ∷ []) f
done-more d [] e r f h q = (f, ap (λ (x : Dictionary). done_by x r r.transfer) h ∙ q, refl)
done-more d (x ∷ rs) e r f h q = (h.0, h.1, done-more h.0 rs e r f h.2 q)

-- the slave after its answer
answered-dictionary : (s t : SlaveState) (m : Message) → Replies s m t → dictionary_of t ≡ (answer_to s m).dictionary
answered-dictionary s t m r =
    let a : Dictionary = (answer_to s m).dictionary in
    let same = answered-slots (is_preop s.al.state) (dictionary_of s) m (reply_counter s.replies) in
    ap (λ (x : SlaveKind). record { kind = x; identity = t.identity; outs = t.outs; ins = t.ins; values = t.values }) (r.kept.kind ∙ sym same.kind)
    ∙ (ap (λ (x : Identity). record { kind = a.kind; identity = x; outs = t.outs; ins = t.ins; values = t.values }) (r.kept.identity ∙ sym same.identity)
    ∙ (ap (λ (x : Assignment). record { kind = a.kind; identity = a.identity; outs = x; ins = t.ins; values = t.values }) r.answer.outs
    ∙ (ap (λ (x : Assignment). record { kind = a.kind; identity = a.identity; outs = a.outs; ins = x; values = t.values }) r.answer.ins
    ∙ ap (λ (x : List SdoValue). record { kind = a.kind; identity = a.identity; outs = a.outs; ins = a.ins; values = x }) r.answer.values)))

-- no reply is set aside
reply-same : (d e : Dictionary) (room : ℕ) (m : Message) → e.kind ≡ d.kind → reply_bytes e room m ≡ reply_bytes d room m
unfolding reply_bytes
reply-same d e room m h = ap (λ (k : SlaveKind). bytes_with m (letters_behind k.face room m.command)) h

reply-plain : (s : SlaveState) (m : Message) → is_aside (reply_raw s m) ≡ false
reply-plain s m =
    let m1 : SyncManager = manager_at s.managers 1 in
    let a : Answer = answer_to s m in
    let rest : List ℕ = zeros (m1.settings.length - length (bytes_to s m)) in
    let same = answered-slots (is_preop s.al.state) (dictionary_of s) m (reply_counter s.replies) in
    ap (λ (bytes : List ℕ). is_aside (bytes ++ rest)) (reply-same (dictionary_of s) a.dictionary m1.settings.length a.reply same.kind)
    ∙ set_aside.replies (is_preop s.al.state) (dictionary_of s) m (reply_counter s.replies) m1.settings.length rest

pub replied-up : (i : ℕ) (c : Config) (k : Talk) (s t : SlaveState) → c.talk ≡ Some k → length s.managers ≡ 4 → IsUpAt i c s → IsSent k c s → Replies s (message_of k) t → IsUpAt i c t
replied-up i c k s t talk four u h r = record {
  configured = record {
    station_is = ap (λ (m : List ℕ). slice_index m 0x0010 + 256 * slice_index m 0x0011) r.kept.memory ∙ u.configured.station_is;
    settings = λ n l. r.kept.settings n ∙ u.configured.settings n l;
    fmmus = λ n b l m. ap (λ (x : List ℕ). slice_index x (0x0600 + 16 * n + b)) r.kept.memory
        ∙ (u.configured.fmmus n b l m ∙ ap (λ (x : SlaveKind). slice_index (fmmu_bytes (shown_fmmu x.hardware (fmmu_at c.fmmus n))) b) (sym r.kept.kind));
    idle = λ e. ap (λ p. p.busy) r.kept.sii ∙ u.configured.idle e;
    no_messages = λ n a b. ap (λ (m : SyncManager). m.mail) (r.kept.others n a) ∙ u.configured.no_messages n a b;
    outputs = subst HoldsZeros (sym (r.kept.others 2 (omega arith))) u.configured.outputs;
  };
  unlocked = λ n l. r.kept.locked n ∙ u.unlocked n l;
  rises = rises-alike c.rise s t r.kept.kind (ap (λ (m : List ℕ). slice_index m 0x0120 + 256 * slice_index m 0x0121) r.kept.memory) r.kept.al u.rises;
  talks = subst (λ (o : Option Talk). Talks i c o t) (sym talk) (inr (record {
    mailboxes = h.mailboxes;
    no_message = r.answer.no_message;
    raw = reply_raw s (message_of k);
    whole = raw-length (manager_at s.managers 1) (bytes_to s (message_of k)) k.mailbox.send_size
        (reply-fits s (message_of k) (subst (λ (x : ℕ). 16 ≤ x) (sym (ap (λ x. x.length) (u.configured.settings 1 (omega arith)) ∙ h.mailboxes.send_length)) h.mailboxes.send_some))
        (ap (λ x. x.length) (u.configured.settings 1 (omega arith)) ∙ h.mailboxes.send_length);
    reply = r.answer.reply;
    plain = reply-plain s (message_of k);
    done = λ hardware e.
        let m1 : SyncManager = manager_at s.managers 1 in
        let a : Answer = answer_to s (message_of k) in
        let rest : List ℕ = zeros (m1.settings.length - length (bytes_to s (message_of k))) in
        elim (message_or_none a.dictionary m1.settings.length a.reply rest) [
          | inl same ↦
              let f : raw_verdict hardware i k.request (message_bytes a.reply ++ rest) ≡ Next = sym (ap (λ (bytes : List ℕ). raw_verdict hardware i k.request (bytes ++ rest)) same) ∙ e in
              let q = reply-claims hardware (record c { done = c.done ++ k.request ∷ [] }) k.request i (is_preop s.al.state) (dictionary_of s) (message_of k) (reply_counter s.replies) rest h.request refl refl refl refl
              h.assigned.outs h.assigned.ins f in
              let came = h.assigned.came in
              let now : dictionary_of t ≡ a.dictionary = answered-dictionary s t (message_of k) r in
              record {
                outs = subst (Claims _) (sym r.answer.outs) q.0.0;
                ins = subst (Claims _) (sym r.answer.ins) q.0.1;
                came = subst (λ (rs : List SdoRequest). Came t.kind rs (dictionary_of t)) (sym (answered-done c k.request))
                    (record {
                      from = came.from;
                      of_type = subst (λ (x : SlaveKind). IsDictionary x came.from) (sym r.kept.kind) came.of_type;
                      done = done-more came.from c.done (dictionary_of s) k.request (dictionary_of t) came.done (q.1 ∙ ap (λ (x : Dictionary). good x) (sym now));
                    });
              }
          | inr none ↦ absurd (none-stops hardware i k.request (reply_raw s (message_of k)) none e)
        ];
  }));
  early = u.early;
  quiet = u.quiet;
}

-- the request is answered, or waits on
pub data Answering (s : SlaveState) (r : Message) : Type 0 where
  Waits : message_served s ≡ s → Answering s r
  Replied : Replies s r (message_served s) → Answering s r

pub answering : (i : ℕ) (c : Config) (k : Talk) (s : SlaveState) → length s.managers ≡ 4 → IsConfigured i c s → IsSent k c s → Answering s (message_of k)
answering i c k s four u h = elim (cases_Bool (is_served s)) [
  | inr n ↦ Waits ((messages_rest s).waits n)
  | inl y ↦
      let parts = and_parts (has_mailbox s) (takes_reply (manager_at s.managers 1) && is_some (mailbox_message_in (manager_at s.managers 0))) y in
      let inner = and_parts (takes_reply (manager_at s.managers 1)) (is_some (mailbox_message_in (manager_at s.managers 0))) parts.1 in
      elim (cases_Bool (is_enabled (manager_at s.managers 0) && (is_mailbox (manager_at s.managers 0).settings && is_master_written (manager_at s.managers 0).settings))) [
        | inr n ↦ absurd (both_ways (is_some (mailbox_message_in (manager_at s.managers 0))) (ap is_some (if_false _ _ _ n)) inner.1)
        | inl z ↦
            let m1 : SyncManager = manager_at s.managers 1 in
            let raw : List ℕ = filled k.mailbox.receive_size (request_bytes k.counter k.request) in
            let l : mailbox_message_in (manager_at s.managers 0) ≡ Some raw = if_true _ _ _ z ∙ h.mailbox_message in
            let long : 16 ≤ m1.settings.length = subst (λ (x : ℕ). 16 ≤ x) (sym (ap (λ x. x.length) (u.settings 1 (omega arith)) ∙ h.mailboxes.send_length)) h.mailboxes.send_some in
            let fit : request_in s ≡ Some (message_of k)
            = ap (λ (o : Option (List ℕ)). request_for m1 (option_and_then message_read o)) l ∙ (ap (request_for m1) (mailbox_message-read k) ∙ if_true _ _ _ (ap not (le-ltb m1.settings.length message_length long))) in
            Replied (record { kept = messages_keep s; answer = requests_answered s (message_of k) (omega arith) y fit long })
      ]
]

-- ---- any slave at all

-- an assignment that can't be written stays: there is no mailbox, or it is fixed
unwritable : (kind : SlaveKind) (s : SlaveState) → s.kind ≡ kind → is_assignable kind.mailbox kind.hardware ≡ false → ((message_served s).outs ≡ s.outs) × ((message_served s).ins ≡ s.ins)
unwritable kind s is e = by kind.mailbox refl e
  where
    not-back : (b : Bool) → not b ≡ false → b ≡ true
    not-back true f = refl
    not-back false f = absurd (both_ways true f refl)

    by : (o : Option Mailbox) → kind.mailbox ≡ o → is_assignable o kind.hardware ≡ false → ((message_served s).outs ≡ s.outs) × ((message_served s).ins ≡ s.ins)
    by None q f = let z = (messages_rest s).no_mailbox (ap (λ (t : SlaveKind). t.mailbox) is ∙ q) in (ap (λ (t : SlaveState). t.outs) z, ap (λ (t : SlaveState). t.ins) z)
    by (Some b) q f = (messages_keep s).fixed (ap (λ (t : SlaveKind). is_fixed t.hardware) is ∙ not-back (is_fixed kind.hardware) f)

fixed-on : (s t : SlaveState) → t.kind ≡ s.kind → (t.outs ≡ s.outs) × (t.ins ≡ s.ins) → HasAll s → HasAll t
fixed-on s t k same h = record {
  outs = same.0 ∙ (h.outs ∙ ap (λ (x : SlaveKind). all_assigned x.outputs) (sym k));
  ins = same.1 ∙ (h.ins ∙ ap (λ (x : SlaveKind). all_assigned x.inputs) (sym k));
}

message-slave : (kind : SlaveKind) (s : SlaveState) → IsOfKind kind s → IsOfKind kind (message_served s)
message-slave kind s h =
    let k = messages_keep s in
    record {
      kind_is = k.kind ∙ h.kind_is;
      room = ap length k.memory ∙ h.room;
      four = k.count ∙ h.four;
      outs = k.out_slots ∙ h.outs;
      ins = k.in_slots ∙ h.ins;
      fixed = λ e. fixed-on s (message_served s) k.kind (unwritable kind s h.kind_is e) (h.fixed e);
      sizes = k.sizes ∙ h.sizes;
      unlocked_in_init = λ e n l. k.locked n ∙ h.unlocked_in_init (ap (λ (a : Al). a.state) (sym k.al) ∙ e) n l;
      missing = λ a e. ap (λ (x : List ℕ). slice_index x a) k.memory ∙ h.missing a e;
    }

called-served : (i : ℕ) (s : SlaveState) → Reached i Called s → Reached i Called (message_served s)
called-served i s (inl h) = let k = messages_keep s in inl (ap (λ (a : Al). a.requested) k.al ∙ h.0, ap word_of k.memory ∙ h.1)
called-served i s (inr h) = inr (subst HasFallen (sym ((messages_rest s).in_init h.state)) h)

pub up-served : (i : ℕ) (c : Config) (o : Option Talk) (s : SlaveState) → c.talk ≡ o → length s.managers ≡ 4 → Talks i c o s → IsUpAt i c s → IsUpAt i c (message_served s)
up-served i c None s e four h u = subst (λ (x : SlaveState). IsUpAt i c x) (sym ((messages_rest s).empty h.no_message)) u
up-served i c (Some k) s e four (inl h) u = elim (answering i c k s four u.configured h) [
  | Waits q ↦ subst (λ (x : SlaveState). IsUpAt i c x) (sym q) u
  | Replied q ↦ replied-up i c k s (message_served s) e four u h q
]
up-served i c (Some k) s e four (inr h) u = subst (λ (x : SlaveState). IsUpAt i c x) (sym ((messages_rest s).empty h.no_message)) u

reached-served : (i : ℕ) (st : Stage) (s : SlaveState) → length s.managers ≡ 4 → Reached i st s → Reached i st (message_served s)
reached-served i Before s four h = tt
reached-served i Called s four h = called-served i s h
reached-served i (Down f m) s four h = subst (λ (x : SlaveState). IsDownAt f m x) (sym ((messages_rest s).in_init h.init.state)) h
reached-served i (Lowered f m) s four h = subst (λ (x : SlaveState). IsLoweredAt f m x) (sym ((messages_rest s).in_init h.low.state)) h
reached-served i (Up c) s four h = up-served i c c.talk s refl four h.talks h

pub stands-messages : (kind : SlaveKind) (i : ℕ) (st : Stage) (trouble : Bool) (s : SlaveState) → Stands kind i st trouble s → Stands kind i st trouble (message_served s)
stands-messages kind i st trouble s h =
    stands-by kind i st trouble s (message_served s) (message-slave kind s h.slave) (reached-served i st s h.slave.four)
    (λ g. (messages_rest s).in_init (ap (λ (t : SlaveState). t.al.state) (gone-on st s g) ∙ ap (λ (a : Al). a.state) (switched_on s.kind s.identity).al))
    (λ g. subst (λ (x : SlaveState). HadFault i st x) (sym ((messages_rest s).empty (had-fault i st s g).1.silent.no_message)) g) h

-- a whole firmware step
pub stands-served : (kind : SlaveKind) (i : ℕ) (st : Stage) (trouble : Bool) (s : SlaveState) → Stands kind i st trouble s → Stands kind i st trouble (served s)
stands-served kind i st trouble s h = subst (λ (t : SlaveState). Stands kind i st trouble t) (sym (three_parts s))
    (stands-messages kind i st trouble _ (stands-finished kind i st trouble _ (stands-decided kind i st trouble s h)))

-- ---- a request at its slave in PREOP: it counts 1, and after the firmware step the reply that is wanted lies in manager 1

pub request-goes : (s : SlaveState) (i counter : ℕ) (c : Config) (b : Mailbox) (r : SdoRequest) (number : ℕ) → station_of s ≡ station i → i < 64 → length s.managers ≡ 4
    → AreMailboxes b c.managers → IsUpAt i c s → (manager_at s.managers 0).mail ≡ None
    → (datagram_met s (datagram_of (SendRequest i counter b r) number)).counter ≡ 1
request-goes s i counter c b r number e l four h u none =
    let m0 : SyncManager = manager_at s.managers 0 in
    let e0 = u.configured.settings 0 (omega arith) in
    let start : (manager_at s.managers 0).settings.start ≡ b.receive_start = ap (λ (x : SyncManagerSettings). x.start) e0 ∙ h.receive_start in
    let len : (manager_at s.managers 0).settings.length ≡ b.receive_size = ap (λ (x : SyncManagerSettings). x.length) e0 ∙ h.receive_length in
    let long : length (sending b counter r).bytes ≡ b.receive_size = sending-length b counter r h.receive_some in
    let some = h.receive_some in
    let on : is_set (manager_at s.managers 0).settings ≡ true = ap is_set e0 ∙ h.receive_set in
    let lies = set-lies (manager_at s.managers 0).settings on in
    let low = lies.0 in let high = lies.1 in
    let box : is_mailbox (manager_at s.managers 0).settings ≡ true = ap is_mailbox e0 ∙ h.receive_mailbox in
    let wide : span (manager_at s.managers 0).settings ≡ (manager_at s.managers 0).settings.length = if_true _ _ _ box in
    let gov : governor s.managers (b.receive_start + 0) ≡ Some 0
    = ap (λ (ms : List SyncManager). governor ms (b.receive_start + 0)) (four-of s.managers four)
    ∙ if_true _ _ _ (and_from _ _ on (within_true m0.settings.start (span m0.settings) (b.receive_start + 0) (omega (arith, start)) (omega (arith, start, wide, len, some)))) in
    let may : may_write (manager_at s.managers 0) ≡ true
    = and_from _ _ (and_from _ _ on (ap not (u.unlocked 0 (omega arith)))) (and_from _ _ (ap is_master_written e0 ∙ h.receive_written) (if_true _ _ _ box ∙ ap is_none none)) in
    let cov : covers (touches (sending b counter r)) (manager_at s.managers 0) ≡ true
    = and_from _ _ (within_true b.receive_start (length (sending b counter r).bytes) m0.settings.start (omega (arith, start)) (omega (arith, start, long, some)))
    (within_true b.receive_start (length (sending b counter r).bytes) (m0.settings.start + m0.settings.length - 1) (omega (arith, start, len, some)) (omega (arith, start, len, long, some))) in
    let front : in_first_buffer (manager_at s.managers 0) (b.receive_start + 0) ≡ true = lt-ltb _ _ (omega (arith, start, len, some)) in
    let under : writes_under s.managers (touches (sending b counter r)) (b.receive_start + 0) (governor s.managers (b.receive_start + 0)) ≡ true
    = ap (λ (o : Option ℕ). writes_under s.managers (touches (sending b counter r)) (b.receive_start + 0) o) gov ∙ and_from _ _ front (and_from _ _ cov may) in
    write-counts s (datagram_of (SendRequest i counter b r) number) (sending b counter r) 0
    (own-writes s (datagram_of (SendRequest i counter b r) number) refl (let a : (station i % 65536 + 65536 * b.receive_start) % 65536 ≡ station_of s = omega (arith, e, l) in a))
    (window-sent Fpwr (station i) b.receive_start (filled b.receive_size (request_bytes counter r)) number) (omega (arith, long, some)) (has-above s.kind.hardware (b.receive_start + 0) (omega (arith, low, start)))
    ((ram_governed s (b.receive_start + 0) (omega (arith, low, start)) (omega (arith, high, start, wide, len, some))).writes s.sii.busy (touches (sending b counter r)) ∙ under)

-- ---- the reply that is wanted

-- by command and value; without `hardware` an upload has the size that was asked for
abbrev pub DoesBring : (hardware : Bool) → Transfer → Sdo → ℕ → Type 0
DoesBring hardware (Download v) command value = command ≡ DownloadResponse
DoesBring hardware (Upload v) command value =
    (size : ValueSize) × (command ≡ UploadResponse size) × (value ≡ v.number) × (v.number < 2 ^ (8 * size_number size)) × (hardware ≡ false → size ≡ v.size)

pub record IsWanted (hardware : Bool) (r : SdoRequest) (m : Message) : Type 0 where
  pub service : m.service ≡ Response
  pub index : m.index ≡ r.index
  pub subindex : m.subindex ≡ r.subindex
  pub brings : DoesBring hardware r.transfer m.command m.value

wanted-value : (i : ℕ) (r : SdoRequest) (m : Message) (x : Transfer) → DoesBring false x m.command m.value → reply_verdict i r x (response_in m m.command) ≡ Next
wanted-value i r m (Download v) h = ap (λ (c : Sdo). reply_verdict i r (Download v) (response_in m c)) h
wanted-value i r m (Upload v) h =
    let size : h.0 ≡ v.size = h.4 refl in
    let few : v.number < 2 ^ (8 * size_number v.size) = subst (λ (z : ValueSize). v.number < 2 ^ (8 * size_number z)) size h.3 in
    ap (λ (c : Sdo). reply_verdict i r (Upload v) (response_in m c)) (h.1 ∙ ap (λ (z : ValueSize). UploadResponse z) size)
    ∙ (if_false _ _ _ (ap not (eq-eqb (size_number v.size) (size_number v.size) refl))
    ∙ if_true _ _ _ (eq-eqb _ v.number (ap (λ (n : ℕ). n % 2 ^ (8 * size_number v.size)) h.2 ∙ mod-eq_of_lt few)))

-- of any size
free-value : (i : ℕ) (r : SdoRequest) (m : Message) (wanted : ValueSize) (x : Transfer) → DoesBring true x m.command m.value
    → free_reply_verdict i r x (response_in (sized_message wanted m) (sized_command wanted m.command)) ≡ Next
free-value i r m wanted (Download v) h = ap (λ (c : Sdo). free_reply_verdict i r (Download v) (response_in (sized_message wanted m) (sized_command wanted c))) h
free-value i r m wanted (Upload v) h =
    ap (λ (c : Sdo). free_reply_verdict i r (Upload v) (response_in (sized_message wanted m) (sized_command wanted c))) h.1
    ∙ if_true _ _ _ (eq-eqb _ v.number (ap (λ (n : ℕ). n % 2 ^ (8 * size_number h.0)) h.2 ∙ mod-eq_of_lt h.3))

there-in : (index subindex : ℕ) (m : Message) → m.service ≡ Response → m.index ≡ index → m.subindex ≡ subindex → reply_in index subindex m ≡ response_in m m.command
unfolding reply_in
there-in index subindex m service a b = if_true _ _ _ (and_from _ _ (eq-eqb m.index index a) (eq-eqb m.subindex subindex b)) ∙ ap (reply_by m) service

brings-read : (hardware : Bool) (x : Transfer) (c e : Sdo) (v w : ℕ) → e ≡ command_of (command_number c) → w ≡ v → DoesBring hardware x c v → DoesBring hardware x e w
brings-read hardware (Download y) c e v w q p h = q ∙ ap (λ (k : Sdo). command_of (command_number k)) h
brings-read hardware (Upload y) c e v w q p h = (h.0, q ∙ (ap (λ (k : Sdo). command_of (command_number k)) h.1 ∙ own-response h.0), p ∙ h.2, h.3, h.4)
  where
    own-response : (s : ValueSize) → command_of (command_number (UploadResponse s)) ≡ UploadResponse s
    own-response One = refl
    own-response _ = refl

-- also as it is read back from its bytes
wanted-read : (hardware : Bool) (r : SdoRequest) (m : Message) (rest : List ℕ) → IsWanted hardware r m → IsWanted hardware r (message_in (message_bytes m ++ rest))
wanted-read hardware r m rest h = record {
  service = service-read m rest ∙ ap (λ (s : Service). service_of (service_number s)) h.service;
  index = index-read m rest ∙ h.index;
  subindex = subindex-read m rest ∙ h.subindex;
  brings = brings-read hardware r.transfer m.command _ m.value _ (command-read m rest) (value-read m rest) h.brings;
}

pub wanted-back : (hardware : Bool) (i : ℕ) (r : SdoRequest) (m : Message) (rest : List ℕ) → IsWanted hardware r m → raw_verdict hardware i r (message_bytes m ++ rest) ≡ Next
wanted-back false i r m rest h =
    let n : Message = message_in (message_bytes m ++ rest) in
    let w : IsWanted false r n = wanted-read false r m rest h in
    ap (λ (o : Option Message). message_verdict i r o) (reads-as-message m rest)
    ∙ (ap (reply_verdict i r r.transfer) (there-in r.index r.subindex n w.service w.index w.subindex) ∙ wanted-value i r n r.transfer w.brings)
wanted-back true i r m rest h =
    let raw : List ℕ = message_bytes m ++ rest in
    let n : Message = message_in raw in
    let z : ValueSize = size_asked r.transfer in
    let w : IsWanted true r n = wanted-read true r m rest h in
    if_false (is_aside raw) (Aside (heard_in i raw)) (free_message_verdict i r (message_read raw)) (set_aside.messages m rest (inr h.service))
    ∙ (ap (λ (o : Option Message). free_message_verdict i r o) (reads-as-message m rest)
    ∙ (ap (free_reply_verdict i r r.transfer) (there-in r.index r.subindex (sized_message z n) w.service w.index w.subindex) ∙ free-value i r n z r.transfer w.brings))

-- ---- what is asked of a request at a stage: every slave of the type that holds what is known answers it as wanted

pub record Asks (r : SdoRequest) (m : Message) : Type 0 where
  pub command : m.command ≡ request_command r.transfer
  pub index : m.index ≡ r.index
  pub subindex : m.subindex ≡ r.subindex
  pub value : m.value ≡ request_value r.transfer

pub record Knows (kind : SlaveKind) (c : Config) (d : Dictionary) : Type 0 where
  pub of_type : IsDictionary kind d
  pub outs : Claims c.outs d.outs
  pub ins : Claims c.ins d.ins
  pub came : Came kind c.done d

abbrev pub Answers : (hardware : Bool) → SlaveKind → Config → SdoRequest → Type 0
Answers hardware kind c r = (d : Dictionary) (m : Message) (counter : ℕ) → Knows kind c d → Asks r m → IsWanted hardware r (answer_of true d m counter).reply

-- with `hardware`, and without where the type says nothing of real devices
abbrev pub IsGood : SlaveKind → Config → SdoRequest → Type 0
IsGood kind c r = (hardware : Bool) → (hardware ≡ false → is_some kind.hardware ≡ false) → Answers hardware kind c r

-- no letters follow it
wanted-alone : (hardware : Bool) (d : Dictionary) (room : ℕ) (r : SdoRequest) (m : Message) → IsWanted hardware r m → reply_bytes d room m ≡ message_bytes m
wanted-alone hardware d room r m h = by r.transfer h.brings
  where
    by : (x : Transfer) → DoesBring hardware x m.command m.value → reply_bytes d room m ≡ message_bytes m
    by (Download v) b = replies_alone.downloaded d room m b
    by (Upload v) b = replies_alone.uploaded d room m b.0 b.1

-- ---- the firmware step

-- where a message of the slave lies in manager 1 already, nothing is answered
pub full-rests : (s : SlaveState) (raw : List ℕ) → IsIn PreOp s → s.sii.busy ≡ false → (manager_at s.managers 1).mail ≡ Some raw → served s ≡ s
full-rests s raw preop idle mail =
    let still : request_decided s ≡ s = (requests_decided s).rests preop.no_request in
    let quiet : read_finished (request_decided s) ≡ s = ap read_finished still ∙ (finished s).rests idle in
    let full : takes_reply (manager_at s.managers 1) ≡ false = and_right (is_enabled (manager_at s.managers 1)) _ (and_right (is_mailbox (manager_at s.managers 1).settings) _ (and_right (is_master_read (manager_at s.managers 1).settings) _ (ap is_none mail))) in
    three_parts s ∙ (ap message_served quiet ∙ (messages_rest s).waits (and_right (has_mailbox s) _ (and_left (takes_reply (manager_at s.managers 1)) _ full)))

pub replied : (hardware : Bool) (kind : SlaveKind) (i : ℕ) (c : Config) (k : Talk) (box : Mailbox) (s : SlaveState) → IsOfKind kind s → kind.mailbox ≡ Some box → IsConfigured i c s
    → ((n : ℕ) → n < 4 → (manager_at s.managers n).locked ≡ false) → IsIn PreOp s → s.sii.busy ≡ false → IsSent k c s → (manager_at s.managers 1).mail ≡ None → Answers hardware kind c k.request
    → HasReply hardware i k.request k.mailbox.send_size (served s)
replied hardware kind i c k box s slave boxed u unlocked preop idle h none good =
    let m1 : SyncManager = manager_at s.managers 1 in
    let four = slave.four in
    let e0 = u.settings 0 (omega arith) in
    let e1 = u.settings 1 (omega arith) in
    let raw : List ℕ = filled k.mailbox.receive_size (request_bytes k.counter k.request) in
    let on0 : is_enabled (manager_at s.managers 0) ≡ true = and_from _ _ (ap is_set e0 ∙ h.mailboxes.receive_set) (ap not (unlocked 0 (omega arith))) in
    let on1 : is_enabled (manager_at s.managers 1) ≡ true = and_from _ _ (ap is_set e1 ∙ h.mailboxes.send_set) (ap not (unlocked 1 (omega arith))) in
    let takes : takes_reply (manager_at s.managers 1) ≡ true
    = and_from _ _ on1 (and_from _ _ (ap is_mailbox e1 ∙ h.mailboxes.send_mailbox) (and_from _ _ (ap is_master_read e1 ∙ h.mailboxes.send_read) (ap is_none none))) in
    let has : has_mailbox s ≡ true = and_from _ _ (ap (λ (x : State). not (is_init x)) preop.state_is) (ap is_some (ap (λ (x : SlaveKind). x.mailbox) slave.kind_is ∙ boxed)) in
    let l : mailbox_message_in (manager_at s.managers 0) ≡ Some raw
    = if_true _ _ _ (and_from _ _ on0 (and_from _ _ (ap is_mailbox e0 ∙ h.mailboxes.receive_mailbox) (ap is_master_written e0 ∙ h.mailboxes.receive_written))) ∙ h.mailbox_message in
    let size : (manager_at s.managers 1).settings.length ≡ k.mailbox.send_size = ap (λ (x : SyncManagerSettings). x.length) e1 ∙ h.mailboxes.send_length in
    let long : 16 ≤ (manager_at s.managers 1).settings.length = subst (λ (x : ℕ). 16 ≤ x) (sym size) h.mailboxes.send_some in
    let fit : request_in s ≡ Some (message_of k)
    = ap (λ (o : Option (List ℕ)). request_for m1 (option_and_then message_read o)) l ∙ (ap (request_for m1) (mailbox_message-read k) ∙ if_true _ _ _ (ap not (le-ltb m1.settings.length message_length long))) in
    let still : request_decided s ≡ s = (requests_decided s).rests preop.no_request in
    let quiet : read_finished (request_decided s) ≡ s = ap read_finished still ∙ (finished s).rests idle in
    let all : served s ≡ message_served s = three_parts s ∙ ap message_served quiet in
    let rep : Replies s (message_of k) (message_served s) = record { kept = messages_keep s; answer = requests_answered s (message_of k) (omega (arith, four)) (and_from _ _ has (and_from _ _ takes (ap is_some l))) fit long } in
    let wanted : IsWanted hardware k.request (answer_to s (message_of k)).reply
    = subst (λ (x : Bool). IsWanted hardware k.request (answer_of x (dictionary_of s) (message_of k) (reply_counter s.replies)).reply) (sym (ap is_preop preop.state_is))
    (good (dictionary_of s) (message_of k) (reply_counter s.replies)
    (record { of_type = of-type kind s slave; outs = h.assigned.outs; ins = h.assigned.ins; came = subst (λ (x : SlaveKind). Came x c.done (dictionary_of s)) slave.kind_is h.assigned.came })
    (record { command = refl; index = refl; subindex = refl; value = refl })) in
    let rest : List ℕ = zeros (m1.settings.length - length (bytes_to s (message_of k))) in
    let alone : bytes_to s (message_of k) ≡ message_bytes (answer_to s (message_of k)).reply = wanted-alone hardware (answer_to s (message_of k)).dictionary m1.settings.length k.request (answer_to s (message_of k)).reply wanted in
    subst (λ (t : SlaveState). HasReply hardware i k.request k.mailbox.send_size t) (sym all) (record {
      raw = reply_raw s (message_of k);
      long = raw-length m1 (bytes_to s (message_of k)) k.mailbox.send_size (reply-fits s (message_of k) long) size;
      mail = rep.answer.reply;
      fits = ap (λ (bytes : List ℕ). raw_verdict hardware i k.request (bytes ++ rest)) alone ∙ wanted-back hardware i k.request (answer_to s (message_of k)).reply rest wanted;
    })
