-- What a firmware step leaves as it is.
use Rattle.std.proofs.Common.{ℕ, zero, suc, ◌+◌, ◌*◌, ◌≡◌, ◌&&◌, not, Bool, true, false, Option, Some, None, refl, sym, ◌∙◌, ap, if◌then◌else◌, List, [], ◌∷◌, map, get_or, slice_set, is_some, subst}
use Rattle.ec_bits.proofs.AnyLaws.{if_false}
use Rattle.ec_device.specs.declared.hardware.Hardware.{Hardware}
use Rattle.ec_device.specs.Types.{SlaveKind}
use Rattle.ec_sync.specs.Buffer.{Buffer}
use Rattle.ec_regs.specs.declared.manager.SyncManagerSettings.{SyncManagerSettings}
use Rattle.ec_sync.specs.SyncManager.{SyncManager, awaiting, message_taken, message_put, message_in, zeros_published}
use Rattle.ec_al.specs.declared.state.State.{State}
use Rattle.ec_al.specs.declared.state.State.TheVariants.{Init, PreOp, SafeOp, Op}
use Rattle.ec_al.specs.Al.{Al, waiting}
use Rattle.ec_sii.specs.Port as port
use Rattle.ec_sii.specs.Port.{Sii}
use Rattle.ec_coe.specs.declared.message.Message.{Message}
use Rattle.ec_coe.specs.Answers.{answered}
use Rattle.ec_coe.specs.Emergency.{emergency_bytes}
use Rattle.ec_coe.specs.Laws.{KeepsAssignments}
use Rattle.ec_coe.proofs.AssignmentsStay.{assignments_kept}
use Rattle.ec_slave.specs.State.{SlaveState, manager_at, fmmus_of}
use Rattle.ec_slave.specs.Application.{is_running, with_manager}
use Rattle.ec_slave.specs.Serving.{served, request_decided, read_finished, message_served, al_decided, has_outputs, is_slow, is_awaiting, waited_once, outputs_awaited, emergency_put, greets_by, managers_decided, replies_decided, with_al, managers_entered, is_served, reply_given, request_in, refusal_in, bytes_to, is_preop, dictionary_of, reply_counter, unlocked_empty, is_init, is_safeop, has_mailbox, takes_reply}
use Rattle.ec_slave.specs.FirmwareLaws.{RestsQuietly, ServesKeepSettings, ServesKeepBuffers}

-- ---- nothing waits

decided-rests : (s : SlaveState) → s.al.requested ≡ false → request_decided s ≡ s
unfolding request_decided
decided-rests s e = if_false _ _ _ e

read-rests : (s : SlaveState) → s.sii.busy ≡ false → read_finished s ≡ s
unfolding read_finished port.stepped
read-rests s e = ap (λ (x : Sii). record s { sii = x }) (if_false _ _ _ e)

both-false : (a b : Bool) → b ≡ false → (a && b) ≡ false
both-false true b e = e
both-false false b e = refl

either-mail : (b : Bool) (o : Option (List ℕ)) → o ≡ None → is_some (if b then o else None) ≡ false
either-mail true o e = ap is_some e
either-mail false o e = refl

message-rests : (s : SlaveState) → (manager_at s.managers 0).mail ≡ None → message_served s ≡ s
unfolding message_served
message-rests s e = if_false _ _ _ (both-false (has_mailbox s) _ (both-false (takes_reply (manager_at s.managers 1)) _ (either-mail _ _ e)))

pub rests_quietly : RestsQuietly
unfolding served
rests_quietly s q =
    ap (λ (x : SlaveState). message_served (read_finished x)) (decided-rests s q.no_request)
    ∙ (ap message_served (read-rests s q.no_read) ∙ message-rests s q.no_message)

-- ---- one part of each manager

-- a part that the new manager has like the old one is like before in all of them
set-alike : {X : Type 0} (f : SyncManager → X) (ms : List SyncManager) (k : ℕ) (m : SyncManager) → f m ≡ f (manager_at ms k) → (n : ℕ) → f (manager_at (slice_set ms k m) n) ≡ f (manager_at ms n)
set-alike f [] k m e n = refl
set-alike f (x ∷ ms) zero m e zero = e
set-alike f (x ∷ ms) zero m e (suc n) = refl
set-alike f (x ∷ ms) (suc k) m e zero = refl
set-alike f (x ∷ ms) (suc k) m e (suc n) = set-alike f ms k m e n

map-alike : (ms : List SyncManager) (n : ℕ) → (manager_at (map unlocked_empty ms) n).settings ≡ (manager_at ms n).settings
map-alike [] n = refl
map-alike (x ∷ ms) zero = refl
map-alike (x ∷ ms) (suc n) = map-alike ms n

either-settings : (b : Bool) (x y : SyncManager) (w : SyncManagerSettings) → x.settings ≡ w → y.settings ≡ w → (if b then x else y).settings ≡ w
either-settings true x y w p q = p
either-settings false x y w p q = q

either-buffer : (b : Bool) (x y : SyncManager) (w : Buffer) → x.buffer ≡ w → y.buffer ≡ w → (if b then x else y).buffer ≡ w
either-buffer true x y w p q = p
either-buffer false x y w p q = q

taken-settings : (m : SyncManager) → (message_taken m).settings ≡ m.settings
taken-settings m = either-settings (is_some (message_in m)) (record m { mail = None }) m m.settings refl refl

taken-buffer : (m : SyncManager) → (message_taken m).buffer ≡ m.buffer
taken-buffer m = either-buffer (is_some (message_in m)) (record m { mail = None }) m m.buffer refl refl

put-settings : (m : SyncManager) (bytes : List ℕ) → (message_put m bytes).settings ≡ m.settings
put-settings m bytes = either-settings _ _ m m.settings refl refl

put-buffer : (m : SyncManager) (bytes : List ℕ) → (message_put m bytes).buffer ≡ m.buffer
put-buffer m bytes = either-buffer _ _ m m.buffer refl refl

either-managers : (b : Bool) (xs ys : List SyncManager) (w : SyncManagerSettings) (n : ℕ) → (manager_at xs n).settings ≡ w → (manager_at ys n).settings ≡ w → (manager_at (if b then xs else ys) n).settings ≡ w
either-managers true xs ys w n p q = p
either-managers false xs ys w n p q = q

entered-settings : (old new : State) (ms : List SyncManager) (n : ℕ) → (manager_at (managers_entered old new ms) n).settings ≡ (manager_at ms n).settings
entered-settings old new ms n =
    either-managers (is_init new && not (is_init old)) (map unlocked_empty ms) _ _ n (map-alike ms n)
    (either-managers (is_safeop new && is_preop old) (slice_set ms 3 (zeros_published (manager_at ms 3))) ms _ n
    (set-alike (λ (m : SyncManager). m.settings) ms 3 (zeros_published (manager_at ms 3)) refl n) refl)

awaited-settings : (o : Option Hardware) (outputs : Bool) (old new : State) (ms : List SyncManager) (n : ℕ) → (manager_at (outputs_awaited o outputs old new ms) n).settings ≡ (manager_at ms n).settings
awaited-settings None outputs old new ms n = refl
awaited-settings (Some h) outputs old new ms n =
    either-managers (is_safeop new && not (is_safeop old)) (slice_set ms 2 (awaiting (manager_at ms 2) (h.has_firmware && outputs))) ms _ n
    (set-alike (λ (m : SyncManager). m.settings) ms 2 (awaiting (manager_at ms 2) (h.has_firmware && outputs)) refl n) refl

either-buffers : (b : Bool) (xs ys : List SyncManager) (w : Buffer) (n : ℕ) → (manager_at xs n).buffer ≡ w → (manager_at ys n).buffer ≡ w → (manager_at (if b then xs else ys) n).buffer ≡ w
either-buffers true xs ys w n p q = p
either-buffers false xs ys w n p q = q

awaited-buffers : (o : Option Hardware) (outputs : Bool) (old new : State) (ms : List SyncManager) (n : ℕ) → (manager_at (outputs_awaited o outputs old new ms) n).buffer ≡ (manager_at ms n).buffer
awaited-buffers None outputs old new ms n = refl
awaited-buffers (Some h) outputs old new ms n =
    either-buffers (is_safeop new && not (is_safeop old)) (slice_set ms 2 (awaiting (manager_at ms 2) (h.has_firmware && outputs))) ms _ n
    (set-alike (λ (m : SyncManager). m.buffer) ms 2 (awaiting (manager_at ms 2) (h.has_firmware && outputs)) refl n) refl

entered-running : (old new : State) (ms : List SyncManager) → is_running old ≡ true → is_running new ≡ true → managers_entered old new ms ≡ ms
entered-running Init new ms a b = absurd (let f : false ≡ true = a in cc)
entered-running PreOp new ms a b = absurd (let f : false ≡ true = a in cc)
entered-running SafeOp Init ms a b = absurd (let f : false ≡ true = b in cc)
entered-running SafeOp PreOp ms a b = absurd (let f : false ≡ true = b in cc)
entered-running SafeOp SafeOp ms a b = refl
entered-running SafeOp Op ms a b = refl
entered-running Op Init ms a b = absurd (let f : false ≡ true = b in cc)
entered-running Op PreOp ms a b = absurd (let f : false ≡ true = b in cc)
entered-running Op SafeOp ms a b = refl
entered-running Op Op ms a b = refl

-- an emergency changes neither, nor what else a message leaves
pub emergency-alike : {X : Type 0} (f : SyncManager → X) → ((m : SyncManager) (bytes : List ℕ) → f (message_put m bytes) ≡ f m) → (b : Bool) (replies : ℕ) (ms : List SyncManager) (n : ℕ) → f (manager_at (emergency_put b replies ms) n) ≡ f (manager_at ms n)
emergency-alike f h false replies ms n = refl
emergency-alike f h true replies ms n =
    set-alike f ms 1 (message_put (manager_at ms 1) (emergency_bytes (reply_counter replies))) (h (manager_at ms 1) (emergency_bytes (reply_counter replies))) n

emergency-settings : (b : Bool) (replies : ℕ) (ms : List SyncManager) (n : ℕ) → (manager_at (emergency_put b replies ms) n).settings ≡ (manager_at ms n).settings
emergency-settings = emergency-alike (λ (m : SyncManager). m.settings) put-settings

emergency-buffers : (b : Bool) (replies : ℕ) (ms : List SyncManager) (n : ℕ) → (manager_at (emergency_put b replies ms) n).buffer ≡ (manager_at ms n).buffer
emergency-buffers = emergency-alike (λ (m : SyncManager). m.buffer) put-buffer

-- ---- the message

-- what the message part leaves
pub record Kept (s t : SlaveState) : Type 0 where
  pub al : t.al ≡ s.al
  pub memory : t.memory ≡ s.memory
  pub settings : (n : ℕ) → (manager_at t.managers n).settings ≡ (manager_at s.managers n).settings
  pub buffers : (n : ℕ) → (manager_at t.managers n).buffer ≡ (manager_at s.managers n).buffer
  pub kind : t.kind ≡ s.kind
  pub identity : t.identity ≡ s.identity
  pub link : t.link ≡ s.link

-- what was put into manager 1 after the message was taken out changes no settings and no buffer
put-alike : (s : SlaveState) (bytes : List ℕ) (n : ℕ) → (let t : SlaveState = with_manager s 0 (message_taken (manager_at s.managers 0)) in
    ((manager_at (slice_set t.managers 1 (message_put (manager_at t.managers 1) bytes)) n).settings ≡ (manager_at s.managers n).settings)
    × ((manager_at (slice_set t.managers 1 (message_put (manager_at t.managers 1) bytes)) n).buffer ≡ (manager_at s.managers n).buffer))
put-alike s bytes n =
    let t : SlaveState = with_manager s 0 (message_taken (manager_at s.managers 0)) in (
      set-alike (λ (m : SyncManager). m.settings) t.managers 1 _ (put-settings (manager_at t.managers 1) _) n
          ∙ set-alike (λ (m : SyncManager). m.settings) s.managers 0 (message_taken (manager_at s.managers 0)) (taken-settings (manager_at s.managers 0)) n,
      set-alike (λ (m : SyncManager). m.buffer) t.managers 1 _ (put-buffer (manager_at t.managers 1) _) n
          ∙ set-alike (λ (m : SyncManager). m.buffer) s.managers 0 (message_taken (manager_at s.managers 0)) (taken-buffer (manager_at s.managers 0)) n,
    )

replied-kept : (s : SlaveState) (f : Option (List ℕ)) (o : Option Message) → Kept s (reply_given (with_manager s 0 (message_taken (manager_at s.managers 0))) f o)
replied-kept s None None = record {
  al = refl;
  memory = refl;
  settings = set-alike (λ (m : SyncManager). m.settings) s.managers 0 (message_taken (manager_at s.managers 0)) (taken-settings (manager_at s.managers 0));
  buffers = set-alike (λ (m : SyncManager). m.buffer) s.managers 0 (message_taken (manager_at s.managers 0)) (taken-buffer (manager_at s.managers 0));
  kind = refl;
  identity = refl;
  link = refl;
}
replied-kept s (Some bytes) None = record {
  al = refl;
  memory = refl;
  settings = λ n. (put-alike s bytes n).0;
  buffers = λ n. (put-alike s bytes n).1;
  kind = refl;
  identity = refl;
  link = refl;
}
replied-kept s f (Some r) =
    let t : SlaveState = with_manager s 0 (message_taken (manager_at s.managers 0)) in
    let k : KeepsAssignments (dictionary_of t) (answered (is_preop t.al.state) (dictionary_of t) r (reply_counter t.replies)).dictionary = assignments_kept (is_preop t.al.state) (dictionary_of t) r (reply_counter t.replies) in
    record {
      al = refl;
      memory = refl;
      settings = λ n. (put-alike s (bytes_to t r) n).0;
      buffers = λ n. (put-alike s (bytes_to t r) n).1;
      kind = k.kind;
      identity = k.identity;
      link = refl;
    }

either-kept : (b : Bool) (s t : SlaveState) → Kept s t → Kept s (if b then t else s)
either-kept true s t k = k
either-kept false s t k = record { al = refl; memory = refl; settings = λ n. refl; buffers = λ n. refl; kind = refl; identity = refl; link = refl }

pub message-kept : (s : SlaveState) → Kept s (message_served s)
unfolding message_served
message-kept s = either-kept (is_served s) s _ (replied-kept s (refusal_in s) (request_in s))

-- ---- the AL request

-- whether a request is decided now, and whether it is let wait
abbrev pub decides : SlaveState → Bool
decides s = s.al.requested && (not (is_slow s.kind.hardware s) && not (is_awaiting s.kind.hardware s))

abbrev pub lets_wait : SlaveState → Bool
lets_wait s = s.al.requested && is_slow s.kind.hardware s

-- a slave that decides nothing: the count of the steps alone goes on
abbrev pub rested_by : Bool → SlaveState → SlaveState
rested_by b s = record s { al = if b then waiting s.al else s.al }

abbrev pub rested : SlaveState → SlaveState
rested s = rested_by (lets_wait s) s

nested-if : (b c d : Bool) (s y : SlaveState) → (if b then (if c then waited_once s else (if d then s else y)) else s) ≡ (if b && (not c && not d) then y else rested_by (b && c) s)
nested-if true true d s y = refl
nested-if true false true s y = refl
nested-if true false false s y = refl
nested-if false c d s y = refl

pub decided-if : (s : SlaveState) → request_decided s ≡ (if decides s then with_al s (al_decided s.kind.hardware s) else rested s)
unfolding request_decided
decided-if s = nested-if s.al.requested (is_slow s.kind.hardware s) (is_awaiting s.kind.hardware s) s (with_al s (al_decided s.kind.hardware s))

-- whoever waits stays in his state
pub waiting-state : (b : Bool) (a : Al) → (if b then waiting a else a).state ≡ a.state
waiting-state true a = refl
waiting-state false a = refl

either-al : (b : Bool) (s : SlaveState) (a : Al) → (if b then with_al s a else rested s).al ≡ (if b then a else (rested s).al)
either-al true s a = refl
either-al false s a = refl

pub decided-al : (s : SlaveState) → (request_decided s).al ≡ (if decides s then al_decided s.kind.hardware s else (rested s).al)
decided-al s = ap (λ (t : SlaveState). t.al) (decided-if s) ∙ either-al (decides s) s _

either-memory : (b : Bool) (s : SlaveState) (a : Al) → (if b then with_al s a else rested s).memory ≡ s.memory
either-memory true s a = refl
either-memory false s a = refl

decided-memory : (s : SlaveState) → (request_decided s).memory ≡ s.memory
decided-memory s = ap (λ (t : SlaveState). t.memory) (decided-if s) ∙ either-memory (decides s) s _

pub record Same (s t : SlaveState) : Type 0 where
  pub kind : t.kind ≡ s.kind
  pub identity : t.identity ≡ s.identity
  pub outs : t.outs ≡ s.outs
  pub ins : t.ins ≡ s.ins
  pub values : t.values ≡ s.values

either-same : (b : Bool) (s : SlaveState) (a : Al) → Same s (if b then with_al s a else rested s)
either-same true s a = record { kind = refl; identity = refl; outs = refl; ins = refl; values = refl }
either-same false s a = record { kind = refl; identity = refl; outs = refl; ins = refl; values = refl }

pub decided-same : (s : SlaveState) → Same s (request_decided s)
decided-same s = subst (λ (t : SlaveState). Same s t) (sym (decided-if s)) (either-same (decides s) s _)

settings-decided : (b : Bool) (s : SlaveState) (a : Al) (n : ℕ) → (manager_at (if b then with_al s a else rested s).managers n).settings ≡ (manager_at s.managers n).settings
settings-decided true s a n =
    emergency-settings (greets_by s a) (replies_decided s a) (managers_decided s a) n
    ∙ (awaited-settings s.kind.hardware (has_outputs s) s.al.state a.state (managers_entered s.al.state a.state s.managers) n
    ∙ entered-settings s.al.state a.state s.managers n)
settings-decided false s a n = refl

decided-settings : (s : SlaveState) (n : ℕ) → (manager_at (request_decided s).managers n).settings ≡ (manager_at s.managers n).settings
decided-settings s n = ap (λ (t : SlaveState). (manager_at t.managers n).settings) (decided-if s) ∙ settings-decided (decides s) s _ n

buffers-decided : (b : Bool) (s : SlaveState) (a : Al) (n : ℕ) → is_running s.al.state ≡ true → is_running (if b then with_al s a else rested s).al.state ≡ true
    → (manager_at (if b then with_al s a else rested s).managers n).buffer ≡ (manager_at s.managers n).buffer
buffers-decided true s a n r h =
    emergency-buffers (greets_by s a) (replies_decided s a) (managers_decided s a) n
    ∙ (awaited-buffers s.kind.hardware (has_outputs s) s.al.state a.state (managers_entered s.al.state a.state s.managers) n
    ∙ ap (λ (ms : List SyncManager). (manager_at ms n).buffer) (entered-running s.al.state a.state s.managers r h))
buffers-decided false s a n r h = refl

decided-buffers : (s : SlaveState) (n : ℕ) → is_running s.al.state ≡ true → is_running (request_decided s).al.state ≡ true → (manager_at (request_decided s).managers n).buffer ≡ (manager_at s.managers n).buffer
decided-buffers s n r h =
    ap (λ (t : SlaveState). (manager_at t.managers n).buffer) (decided-if s)
    ∙ buffers-decided (decides s) s _ n r (ap (λ (t : SlaveState). is_running t.al.state) (sym (decided-if s)) ∙ h)

-- ---- all of it

-- the read of the SII changes nothing else
read-managers : (s : SlaveState) → ((read_finished s).managers ≡ s.managers) × ((read_finished s).al ≡ s.al) × ((read_finished s).memory ≡ s.memory) × ((read_finished s).kind ≡ s.kind) × ((read_finished s).identity ≡ s.identity) × ((read_finished s).link ≡ s.link)
unfolding read_finished
read-managers s = (refl, refl, refl, refl, refl, refl)

pub served-al : (s : SlaveState) → (served s).al ≡ (request_decided s).al
unfolding served
served-al s = (message-kept (read_finished (request_decided s))).al ∙ (read-managers (request_decided s)).1

-- an AL request changes no data link register
decided-link : (s : SlaveState) → (request_decided s).link ≡ s.link
decided-link s = ap (λ (t : SlaveState). t.link) (decided-if s) ∙ by (decides s) (with_al s (al_decided s.kind.hardware s)) refl
  where
    by : (b : Bool) (t : SlaveState) → t.link ≡ s.link → (let x : SlaveState = if b then t else rested s in x.link ≡ s.link)
    by true t h = h
    by false t h = refl

pub settings_kept : ServesKeepSettings
unfolding served
settings_kept s =
    let d : SlaveState = request_decided s in
    let r : SlaveState = read_finished d in
    let k = message-kept r in
    let q = read-managers d in
    let memory : (message_served r).memory ≡ s.memory = k.memory ∙ (q.2 ∙ decided-memory s) in
    let kind : (message_served r).kind ≡ s.kind = k.kind ∙ (q.3 ∙ (decided-same s).kind) in
    record {
      memory = memory;
      station = ap (λ (x : List ℕ). get_or x 0x0010 0 + 256 * get_or x 0x0011 0) memory;
      fmmus = ap (λ (x : SlaveKind). fmmus_of x.hardware (message_served r).memory) kind ∙ ap (fmmus_of s.kind.hardware) memory;
      settings = λ n. k.settings n ∙ (ap (λ (ms : List SyncManager). (manager_at ms n).settings) q.0 ∙ decided-settings s n);
      kind = kind;
      identity = k.identity ∙ (q.4 ∙ (decided-same s).identity);
      link = k.link ∙ (q.5 ∙ decided-link s);
    }

pub buffers_kept : ServesKeepBuffers
unfolding served
buffers_kept s before after n =
    let d : SlaveState = request_decided s in
    let running : is_running d.al.state ≡ true = ap (λ (a : Al). is_running a.state) (sym (served-al s)) ∙ after in
    (message-kept (read_finished d)).buffers n
    ∙ (ap (λ (ms : List SyncManager). (manager_at ms n).buffer) (read-managers d).0 ∙ decided-buffers s n before running)
