-- Whatever happens to a slave, the values of its managers stay as long as their settings say.
use Rattle.std.proofs.Common.{ℕ, zero, suc, ◌+◌, ◌≡◌, ◌==◌, ◌&&◌, not, Bool, true, false, Option, Some, None, refl, sym, ◌∙◌, ap, subst, if◌then◌else◌, List, [], ◌∷◌, length, map, set, slice_set, slice_index, option_map, is_some, nat_lt}
use Rattle.std.proofs.lemmas.List.{length-replicate}
use Rattle.std.proofs.Math.ListN.{length-set}
use Rattle.ec_bits.specs.Bits.{zeros}
use Rattle.ec_frame.specs.declared.command.Command.{Command}
use Rattle.ec_frame.specs.declared.command.Command.TheVariants.{Nop, Aprd, Apwr, Aprw, Fprd, Fpwr, Fprw, Brd, Bwr, Brw, Lrd, Lwr, Lrw, Armw, Frmw}
use Rattle.ec_frame.specs.Datagram.{Datagram, adp_of}
use Rattle.ec_device.specs.declared.hardware.Hardware.{Hardware}
use Rattle.ec_sync.specs.Buffer.{Buffer, Got, drafted, draft_next, app_written, view_next, app_read}
use Rattle.ec_sync.specs.SyncManager.{SyncManager, awaiting, buffer_length, may_app_put, may_app_get, app_put, app_got, after_get, message_in, message_taken, may_put_message, message_put, padded, zeros_published}
use Rattle.ec_sync.specs.Sound.{IsManager}
use Rattle.ec_al.specs.Al as al
use Rattle.ec_al.specs.Al.{Al}
use Rattle.ec_al.specs.declared.state.State.{State}
use Rattle.ec_al.specs.declared.state.State.TheVariants.{SafeOp, Op}
use Rattle.ec_coe.specs.declared.message.Message.{Message}
use Rattle.ec_coe.specs.Emergency.{emergency_bytes}
use Rattle.ec_slave.specs.Roles.{role_of, is_reading, is_writing}
use Rattle.ec_slave.specs.State.{SlaveState, Met, manager_at, station_of}
use Rattle.ec_slave.specs.Physical.{Window, physical_after, physical_met}
use Rattle.ec_slave.specs.Logical.{meets_logically}
use Rattle.ec_slave.specs.Meeting.{window_of, meets, meets_by, meets_physically, slave_met}
use Rattle.ec_slave.specs.Application.{input_put, output_got, output_taken, with_manager, is_running}
use Rattle.ec_slave.specs.Serving.{served, al_decided, awaited_by, awaited_if, has_outputs, outputs_awaited, request_decided, read_finished, message_served, reply_given, request_in, refusal_in, sent, reply_counter, emergency_put, greets_by, managers_decided, replies_decided, bytes_to, is_served, managers_entered, unlocked_empty, is_init, is_safeop, is_preop, with_al}
use Rattle.ec_slave.specs.Faulting.{faulted, locked_empty, outputs_lost}
use Rattle.ec_slave.specs.Interface.{AreWhole, ValuesStayWhole}
use Rattle.ec_slave.proofs.FirmwareRuns.RestsQuietly.{decided-if, decides, rested}
use Rattle.ec_slave.proofs.Always.MetIsSlave.{AreSound, awaiting-sound, empty-sound, no-manager-sound, all-met-sound, all-exchanged-sound}

none_some : {X : Type 0} (x : X) → None ≡ Some x → ⊥
none_some x e = cc

some_same : {X : Type 0} (x y : X) → Some x ≡ Some y → x ≡ y
some_same x y e = cc

set-sound : (ms : List SyncManager) (k : ℕ) (m : SyncManager) → AreSound ms → IsManager m → AreSound (set ms k m)
set-sound [] k m h f n = h n
set-sound (x ∷ ms) zero m h f zero = f
set-sound (x ∷ ms) zero m h f (suc n) = h (suc n)
set-sound (x ∷ ms) (suc k) m h f zero = h zero
set-sound (x ∷ ms) (suc k) m h f (suc n) = set-sound ms k m (λ j. h (suc j)) f n

-- ---- a datagram

accessed : (s : SlaveState) (reads writes : Bool) (w : Window) → AreWhole s → AreWhole (physical_after s reads writes w)
unfolding physical_after
accessed s reads writes w h = all-met-sound s.kind.hardware [] s.managers reads writes w 0 h

physically : (s : SlaveState) (d : Datagram) → AreWhole s → AreWhole (meets_physically s d).slave
unfolding physical_met
physically s d h = accessed s (is_reading (role_of d.command (adp_of d) (station_of s))) (is_writing (role_of d.command (adp_of d) (station_of s))) (window_of d) h

logically : (reading writing : Bool) (weight : ℕ) (s : SlaveState) (d : Datagram) → AreWhole s → AreWhole (meets_logically reading writing weight s d).slave
unfolding meets_logically
logically reading writing weight s d h = all-exchanged-sound [] s.managers reading writing _ _ _ h

exchanging : (b : Bool) (s : SlaveState) (d : Datagram) → AreWhole s → (let m : Met = if b then meets_logically true true 2 s d else record { slave = s; datagram = d } in AreWhole m.slave)
exchanging true s d h = logically true true 2 s d h
exchanging false s d h = h

by-command : (c : Command) (s : SlaveState) (d : Datagram) → AreWhole s → AreWhole (meets_by c s d).slave
by-command Nop s d h = h
by-command Aprd s d h = physically s d h
by-command Apwr s d h = physically s d h
by-command Aprw s d h = physically s d h
by-command Fprd s d h = physically s d h
by-command Fpwr s d h = physically s d h
by-command Fprw s d h = physically s d h
by-command Brd s d h = physically s d h
by-command Bwr s d h = physically s d h
by-command Brw s d h = physically s d h
by-command Lrd s d h = logically true false 1 s d h
by-command Lwr s d h = logically false true 1 s d h
by-command Lrw s d h = exchanging s.kind.lrw s d h
by-command Armw s d h = physically s d h
by-command Frmw s d h = physically s d h

met-whole : (s : SlaveState) (d : Datagram) → AreWhole s → AreWhole (slave_met s d)
unfolding meets
met-whole s d h = by-command d.command s d h

-- ---- a fault

lost-sound : (o : Option Bool) (m : SyncManager) → IsManager (awaited_if o (locked_empty m))
lost-sound None m = empty-sound m.settings true
lost-sound (Some b) m = awaiting-sound (locked_empty m) b (empty-sound m.settings true)

fault-whole : (s : SlaveState) → AreWhole s → AreWhole (faulted s)
unfolding faulted
fault-whole s h = by (al.is_operational s.al.state)
  where
    by : (b : Bool) → (let x : SlaveState = if b then record s { al = al.faulted s.al; managers = slice_set s.managers 2 (outputs_lost s) } else s in AreWhole x)
    by true = set-sound s.managers 2 (outputs_lost s) h (lost-sound (awaited_by s.kind.hardware (has_outputs s) Op SafeOp) (manager_at s.managers 2))
    by false = h

-- ---- the application

-- a buffer in whose manager all values have so many bytes
record HasLength (n : ℕ) (b : Buffer) : Type 0 where
  published : length b.published ≡ n
  draft : (d : List ℕ) → b.draft ≡ Some d → length d ≡ n
  view : (v : List ℕ) → b.view ≡ Some v → length v ≡ n

has-length : (m : SyncManager) → IsManager m → HasLength (buffer_length m.settings) m.buffer
has-length m h = record { published = h.published; draft = h.draft; view = h.view }

with-length : (m : SyncManager) (b : Buffer) → HasLength (buffer_length m.settings) b → IsManager (record m { buffer = b })
with-length m b h = record { published = h.published; draft = h.draft; view = h.view }

drafted-length : (k : ℕ) (b : Buffer) (i : ℕ) (d : List ℕ) → HasLength k b → length d ≡ k → HasLength k (drafted b i d)
drafted-length k b i d h e = by (i + 1 == length b.published)
  where
    by : (c : Bool) → (let x : Buffer = if c then record b { published = d; draft = None } else record b { draft = Some d } in HasLength k x)
    by true = record { published = e; draft = λ y z. absurd (none_some y z); view = h.view }
    by false = record { published = h.published; draft = λ y z. ap length (sym (some_same d y z)) ∙ e; view = h.view }

next-length : (k : ℕ) (b : Buffer) (i x : ℕ) (o : Option (List ℕ)) (c : Buffer) → HasLength k b → ((d : List ℕ) → o ≡ Some d → length d ≡ k) → draft_next b i x o ≡ Some c → HasLength k c
next-length k b i x None c h all e = absurd (none_some c e)
next-length k b i x (Some d) c h all e = subst (HasLength k) (some_same (drafted b i (slice_set d i x)) c e) (drafted-length k b i (slice_set d i x) h (length-set d i x ∙ all d refl))

put-length : (k : ℕ) (b : Buffer) (i x : ℕ) (c : Buffer) → HasLength k b → app_written b i x ≡ Some c → HasLength k c
unfolding app_written
put-length k b i x c h e = by (nat_lt i (length b.published)) e
  where
    opened : (z : Bool) (d : List ℕ) → (if z then Some (zeros (length b.published)) else b.draft) ≡ Some d → length d ≡ k
    opened true d q = ap length (sym (some_same (zeros (length b.published)) d q)) ∙ (length-replicate {A = ℕ} (length b.published) 0 ∙ h.published)
    opened false d q = h.draft d q

    by : (z : Bool) → (if z then draft_next b i x (if i == 0 then Some (zeros (length b.published)) else b.draft) else None) ≡ Some c → HasLength k c
    by true q = next-length k b i x (if i == 0 then Some (zeros (length b.published)) else b.draft) c h (opened (i == 0)) q
    by false q = absurd (none_some c q)

put-manager : (m : SyncManager) (i x : ℕ) (t : SyncManager) → IsManager m → app_put m i x ≡ Some t → IsManager t
put-manager m i x t h e = by (may_app_put m) e
  where
    of : (o : Option Buffer) → app_written m.buffer i x ≡ o → option_map (λ b. record m { buffer = b }) o ≡ Some t → IsManager t
    of None w q = absurd (none_some t q)
    of (Some b) w q = subst IsManager (some_same (record m { buffer = b }) t q) (with-length m b (put-length (buffer_length m.settings) m.buffer i x b (has-length m h) w))

    by : (z : Bool) → (if z then option_map (λ b. record m { buffer = b }) (app_written m.buffer i x) else None) ≡ Some t → IsManager t
    by true q = of (app_written m.buffer i x) refl q
    by false q = absurd (none_some t q)

put-whole : (s : SlaveState) (i x : ℕ) (t : SlaveState) → AreWhole s → input_put s i x ≡ Some t → AreWhole t
put-whole s i x t h e = by (is_running s.al.state) e
  where
    of : (o : Option SyncManager) → app_put (manager_at s.managers 3) i x ≡ o → option_map (with_manager s 3) o ≡ Some t → AreWhole t
    of None w q = absurd (none_some t q)
    of (Some m) w q = subst AreWhole (some_same (with_manager s 3 m) t q) (set-sound s.managers 3 m h (put-manager (manager_at s.managers 3) i x m (h 3) w))

    by : (z : Bool) → (if z then option_map (with_manager s 3) (app_put (manager_at s.managers 3) i x) else None) ≡ Some t → AreWhole t
    by true q = of (app_put (manager_at s.managers 3) i x) refl q
    by false q = absurd (none_some t q)

view-length : (k : ℕ) (b : Buffer) (i : ℕ) (o : Option (List ℕ)) (g : Got) → HasLength k b → ((v : List ℕ) → o ≡ Some v → length v ≡ k) → view_next b i o ≡ Some g → HasLength k g.buffer
view-length k b i None g h all e = absurd (none_some g e)
view-length k b i (Some v) g h all e =
    let was : Got = record { byte = slice_index v i; buffer = record b { view = if i + 1 == length b.published then None else Some v } } in
    subst (λ (x : Got). HasLength k x.buffer) (some_same was g e) (by (i + 1 == length b.published))
  where
    by : (z : Bool) → (let x : Buffer = record b { view = if z then None else Some v } in HasLength k x)
    by true = record { published = h.published; draft = h.draft; view = λ y q. absurd (none_some y q) }
    by false = record { published = h.published; draft = h.draft; view = λ y q. ap length (sym (some_same v y q)) ∙ all v refl }

got-length : (k : ℕ) (b : Buffer) (i : ℕ) (g : Got) → HasLength k b → app_read b i ≡ Some g → HasLength k g.buffer
unfolding app_read
got-length k b i g h e = by (nat_lt i (length b.published)) e
  where
    opened : (z : Bool) (v : List ℕ) → (if z then Some b.published else b.view) ≡ Some v → length v ≡ k
    opened true v q = ap length (sym (some_same b.published v q)) ∙ h.published
    opened false v q = h.view v q

    by : (z : Bool) → (if z then view_next b i (if i == 0 then Some b.published else b.view) else None) ≡ Some g → HasLength k g.buffer
    by true q = view-length k b i (if i == 0 then Some b.published else b.view) g h (opened (i == 0)) q
    by false q = absurd (none_some g q)

got-manager : (m : SyncManager) (i : ℕ) (g : Got) → IsManager m → app_got m i ≡ Some g → IsManager (record m { buffer = g.buffer })
got-manager m i g h e = by (may_app_get m) e
  where
    by : (z : Bool) → (if z then app_read m.buffer i else None) ≡ Some g → IsManager (record m { buffer = g.buffer })
    by true q = with-length m g.buffer (got-length (buffer_length m.settings) m.buffer i g (has-length m h) q)
    by false q = absurd (none_some g q)

taken-whole : (s : SlaveState) (i : ℕ) → AreWhole s → AreWhole (output_taken s (output_got s i))
taken-whole s i h = of (output_got s i) refl
  where
    by : (z : Bool) (g : Got) → (if z then app_got (manager_at s.managers 2) i else None) ≡ Some g → app_got (manager_at s.managers 2) i ≡ Some g
    by true g q = q
    by false g q = absurd (none_some g q)

    of : (o : Option Got) → output_got s i ≡ o → AreWhole (output_taken s o)
    of None e = h
    of (Some g) e = set-sound s.managers 2 (after_get (manager_at s.managers 2) (Some g)) h (got-manager (manager_at s.managers 2) i g (h 2) (by (is_running s.al.state) g e))

-- ---- the firmware

all-emptied : (ms : List SyncManager) → AreSound (map unlocked_empty ms)
all-emptied [] n = no-manager-sound
all-emptied (m ∷ ms) zero = empty-sound m.settings false
all-emptied (m ∷ ms) (suc n) = all-emptied ms n

zeros-sound : (m : SyncManager) → IsManager m → IsManager (zeros_published m)
zeros-sound m h = record { published = length-replicate {A = ℕ} (length m.buffer.published) 0 ∙ h.published; draft = h.draft; view = h.view }

entered-sound : (old new : State) (ms : List SyncManager) → AreSound ms → AreSound (managers_entered old new ms)
entered-sound old new ms h = by (is_init new && not (is_init old)) (is_safeop new && is_preop old)
  where
    by : (a b : Bool) → (let x : List SyncManager = if a then map unlocked_empty ms else (if b then slice_set ms 3 (zeros_published (manager_at ms 3)) else ms) in AreSound x)
    by true b = all-emptied ms
    by false true = set-sound ms 3 (zeros_published (manager_at ms 3)) h (zeros-sound (manager_at ms 3) (h 3))
    by false false = h

awaited-sound : (o : Option Hardware) (outputs : Bool) (old new : State) (ms : List SyncManager) → AreSound ms → AreSound (outputs_awaited o outputs old new ms)
awaited-sound None outputs old new ms h = h
awaited-sound (Some x) outputs old new ms h = by (is_safeop new && not (is_safeop old))
  where
    by : (b : Bool) → (let xs : List SyncManager = if b then slice_set ms 2 (awaiting (manager_at ms 2) (x.has_firmware && outputs)) else ms in AreSound xs)
    by true = set-sound ms 2 (awaiting (manager_at ms 2) (x.has_firmware && outputs)) h (awaiting-sound (manager_at ms 2) (x.has_firmware && outputs) (h 2))
    by false = h

message_put-sound : (m : SyncManager) (bytes : List ℕ) → IsManager m → IsManager (message_put m bytes)
message_put-sound m bytes h = by (may_put_message m (length bytes))
  where
    by : (b : Bool) → (let x : SyncManager = if b then record m { mail = Some (padded m bytes) } else m in IsManager x)
    by true = record { published = h.published; draft = h.draft; view = h.view }
    by false = h

emergency-sound : (b : Bool) (replies : ℕ) (ms : List SyncManager) → AreSound ms → AreSound (emergency_put b replies ms)
emergency-sound false replies ms h = h
emergency-sound true replies ms h = set-sound ms 1 (message_put (manager_at ms 1) (emergency_bytes (reply_counter replies))) h (message_put-sound (manager_at ms 1) (emergency_bytes (reply_counter replies)) (h 1))

decided-whole : (s : SlaveState) → AreWhole s → AreWhole (request_decided s)
decided-whole s h = subst AreWhole (sym (decided-if s)) (by (decides s))
  where
    a : Al
    a = al_decided s.kind.hardware s

    by : (b : Bool) → (let x : SlaveState = if b then with_al s a else rested s in AreWhole x)
    by true = emergency-sound (greets_by s a) (replies_decided s a) (managers_decided s a)
        (awaited-sound s.kind.hardware (has_outputs s) s.al.state a.state (managers_entered s.al.state a.state s.managers) (entered-sound s.al.state a.state s.managers h))
    by false = h

finished-whole : (s : SlaveState) → AreWhole s → AreWhole (read_finished s)
unfolding read_finished
finished-whole s h = h

message_taken-sound : (m : SyncManager) → IsManager m → IsManager (message_taken m)
message_taken-sound m h = by (is_some (message_in m))
  where
    by : (b : Bool) → (let x : SyncManager = if b then record m { mail = None } else m in IsManager x)
    by true = record { published = h.published; draft = h.draft; view = h.view }
    by false = h

back-whole : (s : SlaveState) (bytes : List ℕ) → AreWhole s → AreWhole (sent s bytes)
back-whole s bytes h = set-sound s.managers 1 (message_put (manager_at s.managers 1) bytes) h (message_put-sound (manager_at s.managers 1) bytes (h 1))

reply-whole : (s : SlaveState) (f : Option (List ℕ)) (o : Option Message) → AreWhole s → AreWhole (reply_given s f o)
reply-whole s None None h = h
reply-whole s (Some bytes) None h = back-whole s bytes h
reply-whole s f (Some r) h = back-whole s (bytes_to s r) h

message-whole : (s : SlaveState) → AreWhole s → AreWhole (message_served s)
unfolding message_served
message-whole s h = by (is_served s)
  where
    emptied : SlaveState
    emptied = with_manager s 0 (message_taken (manager_at s.managers 0))

    by : (b : Bool) → (let x : SlaveState = if b then reply_given emptied (refusal_in s) (request_in s) else s in AreWhole x)
    by true = reply-whole emptied (refusal_in s) (request_in s) (set-sound s.managers 0 (message_taken (manager_at s.managers 0)) h (message_taken-sound (manager_at s.managers 0) (h 0)))
    by false = h

served-whole : (s : SlaveState) → AreWhole s → AreWhole (served s)
unfolding served
served-whole s h = message-whole (read_finished (request_decided s)) (finished-whole (request_decided s) (decided-whole s h))

pub stay_whole : ValuesStayWhole
stay_whole s h = record {
  met = λ d. met-whole s d h;
  served = served-whole s h;
  faulted = fault-whole s h;
  put = λ i x t e. put-whole s i x t h e;
  taken = λ i. taken-whole s i h;
}
