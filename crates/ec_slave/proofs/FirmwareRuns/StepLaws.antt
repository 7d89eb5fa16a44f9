-- The parts of a firmware step, and what it settles.
use Rattle.std.proofs.Common.{ℕ, zero, suc, ◌%◌, ◌<◌, ◌≤◌, ◌≡◌, ◌==◌, ◌⊎◌, ◌&&◌, not, Bool, true, false, Option, Some, None, Result, Ok, Err, refl, sym, ◌∙◌, ap, subst, inl, inr, arith, if◌then◌else◌, List, [], ◌∷◌, length, map, set, nat_le, is_some, length-set, get_or-set_same, get_or-set_other}
use Rattle.std.proofs.lemmas.Bool.{false≢true, cases_Bool, and_parts, and_from, and_left, and_right, le-leb}
use Rattle.ec_bits.proofs.AnyLaws.{if_true, if_false, if_none}
use Rattle.ec_device.specs.declared.hardware.Hardware.{Hardware}
use Rattle.ec_device.specs.Hardware.{has_emergency, is_fixed}
use Rattle.ec_regs.specs.Managers.{is_mailbox, is_master_read, is_master_written}
use Rattle.ec_sync.specs.SyncManager.{SyncManager, no_manager, is_enabled, message_in, message_taken, message_put, may_put_message, padded}
use Rattle.ec_al.specs.declared.state.State.{State}
use Rattle.ec_al.specs.declared.status_code.StatusCode.{StatusCode}
use Rattle.ec_al.specs.declared.transition.Checks.{Checks}
use Rattle.ec_al.specs.declared.transition.Requested.{Requested}
use Rattle.ec_al.specs.declared.transition.Requested.TheVariants.{To, Bootstrap, Unknown}
use Rattle.ec_al.specs.Transitions.{answer, requested_by, acknowledges}
use Rattle.ec_al.specs.Al.{Al, waiting}
use Rattle.ec_al.specs.Al as al
use Rattle.ec_sii.specs.Port.{Sii, commanded, addressed, address_written, byte_for, command_address}
use Rattle.ec_sii.specs.Port as port
use Rattle.ec_sii.specs.declared.image.SiiImage.{SiiImage}
use Rattle.ec_coe.specs.declared.message.Message.{Message}
use Rattle.ec_coe.specs.declared.value.SdoValue.{SdoValue}
use Rattle.ec_coe.specs.Messages.{message_length, size_number}
use Rattle.ec_coe.specs.ReplyBytes.{reply_bytes}
use Rattle.ec_coe.proofs.DownloadEffects.{answered-slots}
use Rattle.ec_coe.proofs.Devices.{fixed_stays}
use Rattle.ec_coe.proofs.Names.{replies_fit}
use Rattle.ec_slave.specs.State.{SlaveState, manager_at}
use Rattle.ec_slave.specs.Application.{with_manager}
use Rattle.ec_slave.specs.Checking.{control_word, checks_of}
use Rattle.ec_slave.specs.Serving.{al_decided, is_slow, is_awaiting, with_al, dictionary_of, is_init, is_preop, has_mailbox, takes_reply, is_served, request_in, reply_counter, answer_to, bytes_to, replied, sent, refusal_in, reply_given, request_decided, read_finished, message_served, served}
use Rattle.ec_slave.specs.Interface.{PlainTypesDecide, StepsSettle, StepsHaveThreeParts, RequestsAreDecided, ChecksAreOfManagers, ReadsAreFinished, MessagesKeep, MessagesRest, IsAnswered, RequestsAreAnswered}
use Rattle.ec_slave.proofs.FirmwareRuns.RestsQuietly.{message-kept, served-al, decided-al, decided-if, decides, rested, rested_by}

pub three_parts : StepsHaveThreeParts
unfolding served
three_parts s = refl

-- ---- the AL request

pub decided : RequestsAreDecided
decided s =
    let slow : Bool = is_slow s.kind.hardware s in
    let awaits : Bool = is_awaiting s.kind.hardware s in
    record {
      rests = λ e. decided-if s ∙ (if_false _ _ _ (and_left s.al.requested _ e) ∙ ap (λ (b : Bool). rested_by b s) (and_left s.al.requested slow e));
      slow = λ e f. decided-if s ∙ (if_false _ _ _ (and_right s.al.requested _ (and_left (not slow) (not awaits) (ap not f))) ∙ ap (λ (b : Bool). rested_by b s) (and_from s.al.requested slow e f));
      awaits = λ q e. decided-if s ∙ (if_false _ _ _ (and_right s.al.requested _ (and_right (not slow) (not awaits) (ap not e))) ∙ ap (λ (b : Bool). rested_by b s) (and_right s.al.requested slow q));
      decides = λ e q f. decided-if s ∙ if_true _ _ _ (and_from _ _ e (and_from (not slow) (not awaits) (ap not q) (ap not f)));
    }

pub plain_decides : PlainTypesDecide
plain_decides s e = record {
  decides = ap (λ (o : Option Hardware). al_decided o s) e;
  at_once = ap (λ (o : Option Hardware). is_awaiting o s) e;
  quick = ap (λ (o : Option Hardware). is_slow o s) e;
  quiet = λ a. and_left _ _ (ap has_emergency e);
}

pub checks : ChecksAreOfManagers
unfolding checks_of
checks s = record { mailbox = refl; outputs = refl; inputs = refl }

abbrev requested_of : Al → Bool
requested_of a = a.requested

either-asks : (b : Bool) (x y : Al) → requested_of x ≡ false → requested_of y ≡ false → requested_of (if b then x else y) ≡ false
either-asks true x y e f = e
either-asks false x y e f = f

answered-asks : (a : Al) (r : Result State StatusCode) → requested_of (al.answered a r) ≡ false
answered-asks a (Ok state) = refl
answered-asks a (Err code) = refl

decided-asks : (a : Al) (control : ℕ) (c : Checks) → requested_of (al.decided a control c) ≡ false
decided-asks a control c = either-asks (a.error && not (acknowledges control)) _ _ refl (answered-asks a (answer a.state (requested_by control) c))

copied-asks : (a : Al) (r : Requested) (flag : Bool) → requested_of (al.copied_to a r flag) ≡ false
copied-asks a (To state) flag = refl
copied-asks a Bootstrap flag = refl
copied-asks a Unknown flag = refl

-- behind a decision no request waits
pub no-more : (o : Option Hardware) (s : SlaveState) → (al_decided o s).requested ≡ false
no-more None s = decided-asks s.al (control_word s) (checks_of s)
no-more (Some h) s = either-asks h.has_firmware _ _ (decided-asks s.al (control_word s) (checks_of s)) (copied-asks s.al (requested_by (control_word s)) (acknowledges (control_word s)))

-- ---- the SII port

abbrev busy_of : Sii → Bool
busy_of p = p.busy

either-idle : (b : Bool) (x y : Sii) → busy_of x ≡ false → busy_of y ≡ false → busy_of (if b then x else y) ≡ false
either-idle true x y e f = e
either-idle false x y e f = f

stepped-idle : (p : Sii) → (port.stepped p).busy ≡ false
unfolding port.stepped
stepped-idle p = elim (cases_Bool p.busy) [
  | inl e ↦ ap busy_of (if_true p.busy _ p e) ∙ either-idle (nat_le p.address (port.last_address p.image)) _ _ refl refl
  | inr e ↦ ap busy_of (if_false p.busy _ p e) ∙ e
]

stepped-rests : (p : Sii) → p.busy ≡ false → port.stepped p ≡ p
unfolding port.stepped
stepped-rests p e = if_false p.busy _ p e

abbrev pub image_of : Sii → SiiImage
image_of p = p.image

pub either-image : (b : Bool) (x y : Sii) (i : SiiImage) → image_of x ≡ i → image_of y ≡ i → image_of (if b then x else y) ≡ i
either-image true x y i e f = e
either-image false x y i e f = f

stepped-image : (p : Sii) → (port.stepped p).image ≡ p.image
unfolding port.stepped
stepped-image p = either-image p.busy _ p p.image (either-image (nat_le p.address (port.last_address p.image)) _ _ p.image refl refl) refl

commanded-image : (p : Sii) (o : Option ℕ) → image_of (commanded p o) ≡ p.image
commanded-image p None = refl
commanded-image p (Some c) = either-image (c % 8 == 0) _ _ p.image refl (either-image (c % 8 == 1) _ _ p.image refl refl)

pub written-image : (p : Sii) (from : ℕ) (bytes : List ℕ) → (port.written p from bytes).image ≡ p.image
unfolding port.written
written-image p from bytes = either-image p.busy p _ p.image refl (commanded-image (addressed p (address_written p.address from bytes)) (byte_for from bytes command_address))

pub finished : ReadsAreFinished
unfolding read_finished
finished s = record { is = refl; idle = stepped-idle s.sii; rests = λ e. ap (λ (p : Sii). record s { sii = p }) (stepped-rests s.sii e) }

-- ---- a message

-- manager n of two that were set, the first two
two-set : (ms : List SyncManager) (a b : SyncManager) (n : ℕ) → 1 < length ms → (n ≡ 0) ⊎ ((n ≡ 1) ⊎ (2 ≤ n))
    → (P : SyncManager → SyncManager → Type 0) → P (manager_at ms 0) a → P (manager_at ms 1) b → ((m : SyncManager) → P m m) → P (manager_at ms n) (manager_at (set (set ms 0 a) 1 b) n)
two-set ms a b n l (inl e) P x y z =
    subst (λ (k : ℕ). P (manager_at ms k) (manager_at (set (set ms 0 a) 1 b) k)) (sym e)
    (subst (P (manager_at ms 0)) (sym (get_or-set_other (set ms 0 a) 1 0 b no_manager (λ q. omega (arith, q)) ∙ get_or-set_same ms 0 a no_manager (omega arith))) x)
two-set ms a b n l (inr (inl e)) P x y z =
    subst (λ (k : ℕ). P (manager_at ms k) (manager_at (set (set ms 0 a) 1 b) k)) (sym e)
    (subst (P (manager_at ms 1)) (sym (get_or-set_same (set ms 0 a) 1 b no_manager (let f = length-set ms 0 a in omega (arith, f, l)))) y)
two-set ms a b n l (inr (inr e)) P x y z =
    subst (P (manager_at ms n)) (sym (get_or-set_other (set ms 0 a) 1 n b no_manager (λ q. omega (arith, q, e)) ∙ get_or-set_other ms 0 n a no_manager (λ q. omega (arith, q, e)))) (z (manager_at ms n))

-- what the new manager has like the old one is as before in all of them
set-alike : {X : Type 0} (f : SyncManager → X) (ms : List SyncManager) (k : ℕ) (m : SyncManager) → f m ≡ f (manager_at ms k) → (n : ℕ) → f (manager_at (set ms k m) n) ≡ f (manager_at ms n)
set-alike f [] k m e n = refl
set-alike f (x ∷ ms) zero m e zero = e
set-alike f (x ∷ ms) zero m e (suc n) = refl
set-alike f (x ∷ ms) (suc k) m e zero = refl
set-alike f (x ∷ ms) (suc k) m e (suc n) = set-alike f ms k m e n

abbrev locked_of : SyncManager → Bool
locked_of m = m.locked

either-locked : (b : Bool) (x m : SyncManager) → locked_of x ≡ m.locked → locked_of (if b then x else m) ≡ m.locked
either-locked true x m e = e
either-locked false x m e = refl

abbrev awaited_of : SyncManager → Bool
awaited_of m = m.awaited

either-awaited : (b : Bool) (x m : SyncManager) → awaited_of x ≡ m.awaited → awaited_of (if b then x else m) ≡ m.awaited
either-awaited true x m e = e
either-awaited false x m e = refl

-- a slave whose message was taken out
abbrev taken_out : SlaveState → SlaveState
taken_out s = with_manager s 0 (message_taken (manager_at s.managers 0))

taken-locked : (s : SlaveState) (n : ℕ) → (manager_at (taken_out s).managers n).locked ≡ (manager_at s.managers n).locked
taken-locked s n = set-alike locked_of s.managers 0 (message_taken (manager_at s.managers 0)) (either-locked (is_some (message_in (manager_at s.managers 0))) (record (manager_at s.managers 0) { mail = None }) (manager_at s.managers 0) refl) n

taken-awaited : (s : SlaveState) (n : ℕ) → (manager_at (taken_out s).managers n).awaited ≡ (manager_at s.managers n).awaited
taken-awaited s n = set-alike awaited_of s.managers 0 (message_taken (manager_at s.managers 0)) (either-awaited (is_some (message_in (manager_at s.managers 0))) (record (manager_at s.managers 0) { mail = None }) (manager_at s.managers 0) refl) n

taken-others : (s : SlaveState) (n : ℕ) → 2 ≤ n → manager_at (taken_out s).managers n ≡ manager_at s.managers n
taken-others s n l = get_or-set_other s.managers 0 n (message_taken (manager_at s.managers 0)) no_manager (λ q. omega (arith, q, l))

-- what the message part does to a slave: nothing, or it takes the message out and answers it
pub data Mailed (s t : SlaveState) : Type 0 where
  Unmoved : is_served s ≡ false → t ≡ s → Mailed s t
  Moved : is_served s ≡ true → t ≡ reply_given (taken_out s) (refusal_in s) (request_in s) → Mailed s t

pub mailed : (s : SlaveState) → Mailed s (message_served s)
unfolding message_served
mailed s = elim (cases_Bool (is_served s)) [
  | inr n ↦ Unmoved n (if_false _ _ _ n)
  | inl y ↦ Moved y (if_true _ _ _ y)
]

abbrev size-of : SdoValue → ℕ
size-of v = size_number v.size

-- what an answer leaves besides what `Kept` says
record Left (s t : SlaveState) : Type 0 where
  sii : t.sii ≡ s.sii
  link : t.link ≡ s.link
  count : length t.managers ≡ length s.managers
  locked : (n : ℕ) → (manager_at t.managers n).locked ≡ (manager_at s.managers n).locked
  awaited : (n : ℕ) → (manager_at t.managers n).awaited ≡ (manager_at s.managers n).awaited
  others : (n : ℕ) → 2 ≤ n → manager_at t.managers n ≡ manager_at s.managers n
  out_slots : length t.outs.slots ≡ length s.outs.slots
  in_slots : length t.ins.slots ≡ length s.ins.slots
  fixed : is_fixed s.kind.hardware ≡ true → (t.outs ≡ s.outs) × (t.ins ≡ s.ins)
  sizes : map size-of t.values ≡ map size-of s.values

put-left : (s : SlaveState) (bytes : List ℕ) → Left s (sent (taken_out s) bytes)
put-left s bytes = record {
  sii = refl;
  link = refl;
  count = length-set (taken_out s).managers 1 (message_put (manager_at (taken_out s).managers 1) bytes) ∙ length-set s.managers 0 (message_taken (manager_at s.managers 0));
  locked = λ n. set-alike locked_of (taken_out s).managers 1 (message_put (manager_at (taken_out s).managers 1) bytes)
      (either-locked (may_put_message (manager_at (taken_out s).managers 1) (length bytes)) _ (manager_at (taken_out s).managers 1) refl) n ∙ taken-locked s n;
  awaited = λ n. set-alike awaited_of (taken_out s).managers 1 (message_put (manager_at (taken_out s).managers 1) bytes)
      (either-awaited (may_put_message (manager_at (taken_out s).managers 1) (length bytes)) _ (manager_at (taken_out s).managers 1) refl) n ∙ taken-awaited s n;
  others = λ n l. get_or-set_other (taken_out s).managers 1 n (message_put (manager_at (taken_out s).managers 1) bytes) no_manager (λ e. omega (arith, e, l)) ∙ taken-others s n l;
  out_slots = refl;
  in_slots = refl;
  fixed = λ f. (refl, refl);
  sizes = refl;
}

given-left : (s : SlaveState) (f : Option (List ℕ)) (o : Option Message) → Left s (reply_given (taken_out s) f o)
given-left s None None = record {
  sii = refl;
  link = refl;
  count = length-set s.managers 0 (message_taken (manager_at s.managers 0));
  locked = taken-locked s;
  awaited = taken-awaited s;
  others = taken-others s;
  out_slots = refl;
  in_slots = refl;
  fixed = λ f. (refl, refl);
  sizes = refl;
}
given-left s (Some bytes) None = put-left s bytes
given-left s f (Some r) =
    let p = put-left s (bytes_to (taken_out s) r) in
    let q = answered-slots (is_preop s.al.state) (dictionary_of s) r (reply_counter s.replies) in
    record {
      sii = refl;
      link = refl;
      count = p.count;
      locked = p.locked;
      awaited = p.awaited;
      others = p.others;
      out_slots = q.outs;
      in_slots = q.ins;
      fixed = λ g. let l = fixed_stays (is_preop s.al.state) (dictionary_of s) r (reply_counter s.replies) g in (l.outs, l.ins);
      sizes = q.sizes;
    }

mailed-left : (s t : SlaveState) → Mailed s t → Left s t
mailed-left s t (Unmoved n e) = subst (λ (x : SlaveState). Left s x) (sym e) (record { sii = refl; link = refl; count = refl; locked = λ n. refl; awaited = λ n. refl; others = λ n l. refl; out_slots = refl; in_slots = refl; fixed = λ f. (refl, refl); sizes = refl })
mailed-left s t (Moved y e) = subst (λ (x : SlaveState). Left s x) (sym e) (given-left s (refusal_in s) (request_in s))

pub messages_keep : MessagesKeep
messages_keep s =
    let k = message-kept s in
    let l = mailed-left s (message_served s) (mailed s) in
    record {
      kind = k.kind;
      identity = k.identity;
      memory = k.memory;
      al = k.al;
      sii = l.sii;
      link = l.link;
      count = l.count;
      settings = k.settings;
      locked = l.locked;
      awaited = l.awaited;
      others = l.others;
      out_slots = l.out_slots;
      in_slots = l.in_slots;
      fixed = l.fixed;
      sizes = l.sizes;
    }

unserved : (s : SlaveState) → is_served s ≡ false → message_served s ≡ s
unfolding message_served
unserved s e = if_false _ _ _ e

pub messages_rest : MessagesRest
messages_rest s = record {
  waits = unserved s;
  empty = λ e. unserved s (and_right (has_mailbox s) _ (and_right (takes_reply (manager_at s.managers 1)) _ (ap is_some (none e))));
  in_init = λ e. unserved s (and_left _ _ (and_left _ _ (ap (λ (x : State). not (is_init x)) e)));
  no_mailbox = λ e. unserved s (and_left _ _ (and_right (not (is_init s.al.state)) _ (ap is_some e)));
}
  where
    none : (manager_at s.managers 0).mail ≡ None → message_in (manager_at s.managers 0) ≡ None
    none e = if_none (is_enabled (manager_at s.managers 0) && (is_mailbox (manager_at s.managers 0).settings && is_master_written (manager_at s.managers 0).settings)) (manager_at s.managers 0).mail e

-- manager 1 lets the firmware put a reply that fits
pub put-right : (m : SyncManager) (message : List ℕ) → length message ≤ m.settings.length → takes_reply m ≡ true → may_put_message m (length message) ≡ true
put-right m message e t =
    let a = and_parts (is_enabled m) _ t in
    let b = and_parts (is_mailbox m.settings) _ a.1 in
    let c = and_parts (is_master_read m.settings) _ b.1 in
    and_from _ _ a.0 (and_from _ _ b.0 (and_from _ _ c.0 (and_from _ _ c.1 (le-leb (length message) m.settings.length e))))

given-answers : (s : SlaveState) (r : Message) → 1 < length s.managers → is_some (message_in (manager_at s.managers 0)) ≡ true → takes_reply (manager_at s.managers 1) ≡ true
    → message_length ≤ (manager_at s.managers 1).settings.length → IsAnswered s r (replied (taken_out s) r)
given-answers s r l there t room =
    let m1 : SyncManager = manager_at s.managers 1 in
    let told : SyncManager → List ℕ = λ m. reply_bytes (answer_to s r).dictionary m.settings.length (answer_to s r).reply in
    let x : SyncManager = message_taken (manager_at s.managers 0) in
    let y : SyncManager = message_put (manager_at (set s.managers 0 x) 1) (told (manager_at (set s.managers 0 x) 1)) in
    let next : manager_at (set s.managers 0 x) 1 ≡ m1 = get_or-set_other s.managers 0 1 x no_manager (λ q. omega (arith, q)) in
    let fits : length (bytes_to s r) ≤ m1.settings.length = replies_fit.fits (answer_to s r).dictionary m1.settings.length (answer_to s r).reply room in
    let put : y.mail ≡ Some (padded m1 (bytes_to s r))
    = ap (λ (m : SyncManager). (message_put m (told m)).mail) next
    ∙ ap (λ (m : SyncManager). m.mail) (if_true _ (record m1 { mail = Some (padded m1 (bytes_to s r)) }) m1 (put-right m1 (bytes_to s r) fits t)) in
    record {
      no_message = ap (λ (m : SyncManager). m.mail) (get_or-set_other (set s.managers 0 x) 1 0 y no_manager (λ q. omega (arith, q)) ∙ get_or-set_same s.managers 0 x no_manager (omega arith))
          ∙ ap (λ (m : SyncManager). m.mail) (if_true (is_some (message_in (manager_at s.managers 0))) (record (manager_at s.managers 0) { mail = None }) (manager_at s.managers 0) there);
      reply = ap (λ (m : SyncManager). m.mail) (get_or-set_same (set s.managers 0 x) 1 y no_manager (let f = length-set s.managers 0 x in omega (arith, f, l))) ∙ put;
      outs = refl;
      ins = refl;
      values = refl;
      counter = refl;
    }

pub requests_answered : RequestsAreAnswered
unfolding message_served
requests_answered s r l y e room =
    let parts = and_parts (has_mailbox s) (takes_reply (manager_at s.managers 1) && is_some (message_in (manager_at s.managers 0))) y in
    let inner = and_parts (takes_reply (manager_at s.managers 1)) (is_some (message_in (manager_at s.managers 0))) parts.1 in
    let is : message_served s ≡ replied (taken_out s) r = if_true _ _ _ y ∙ ap (reply_given (taken_out s) (refusal_in s)) e in
    subst (λ (t : SlaveState). IsAnswered s r t) (sym is) (given-answers s r l inner.1 inner.0 room)

-- ---- all of it

decided-sii : (s : SlaveState) → (request_decided s).sii ≡ s.sii
decided-sii s = ap (λ (t : SlaveState). t.sii) (decided-if s) ∙ by (decides s)
  where
    by : (b : Bool) → (let x : SlaveState = if b then with_al s (al_decided s.kind.hardware s) else rested s in x.sii ≡ s.sii)
    by true = refl
    by false = refl

served-sii : (s : SlaveState) → (served s).sii ≡ port.stepped s.sii
served-sii s =
    ap (λ (t : SlaveState). t.sii) (three_parts s) ∙ ((messages_keep (read_finished (request_decided s))).sii
    ∙ (ap (λ (t : SlaveState). t.sii) (finished (request_decided s)).is ∙ ap port.stepped (decided-sii s)))

at-once : (b c d : Bool) (x y : Al) → c ≡ false → d ≡ false → (if b && (not c && not d) then x else (if b && c then waiting y else y)) ≡ (if b then x else y)
at-once true true d x y e f = absurd (false≢true (sym e))
at-once true false true x y e f = absurd (false≢true (sym f))
at-once true false false x y e f = refl
at-once false c d x y e f = refl

at-slow : (b c d : Bool) (x y : Al) → c ≡ true → (if b && (not c && not d) then x else (if b && c then waiting y else y)) ≡ (if b then waiting y else y)
at-slow true true d x y e = refl
at-slow true false d x y e = absurd (false≢true e)
at-slow false c d x y e = refl

while-awaited : (b c d : Bool) (x y : Al) → c ≡ false → d ≡ true → (if b && (not c && not d) then x else (if b && c then waiting y else y)) ≡ y
while-awaited true true d x y e f = absurd (false≢true (sym e))
while-awaited true false true x y e f = refl
while-awaited true false false x y e f = absurd (false≢true f)
while-awaited false c d x y e f = refl

none-waits : (b : Bool) (x y : Al) → y.requested ≡ b → x.requested ≡ false → requested_of (if b then x else y) ≡ false
none-waits true x y e f = f
none-waits false x y e f = e

pub settles : StepsSettle
settles s =
    let slow : Bool = is_slow s.kind.hardware s in
    let awaits : Bool = is_awaiting s.kind.hardware s in
    let a : (served s).al ≡ (if decides s then al_decided s.kind.hardware s else (rested s).al) = served-al s ∙ decided-al s in
    let now : slow ≡ false → awaits ≡ false → (served s).al ≡ (if s.al.requested then al_decided s.kind.hardware s else s.al)
    = λ q e. a ∙ at-once s.al.requested slow awaits (al_decided s.kind.hardware s) s.al q e in
    record {
      al = now;
      no_request = λ q e. ap requested_of (now q e) ∙ none-waits s.al.requested (al_decided s.kind.hardware s) s.al refl (no-more s.kind.hardware s);
      awaits = λ q e. a ∙ while-awaited s.al.requested slow awaits (al_decided s.kind.hardware s) s.al q e;
      slow = λ q. a ∙ at-slow s.al.requested slow awaits (al_decided s.kind.hardware s) s.al q;
      sii = served-sii s;
      idle = ap busy_of (served-sii s) ∙ stepped-idle s.sii;
      image = ap image_of (served-sii s) ∙ stepped-image s.sii;
    }
