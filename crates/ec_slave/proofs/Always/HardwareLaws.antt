-- A slave of a type of real devices.
use Rattle.std.proofs.Common.{ℕ, zero, suc, ◌+◌, ◌-◌, ◌*◌, ◌/◌, ◌%◌, ◌<◌, ◌≤◌, ◌≡◌, ◌≢◌, ◌==◌, ◌&&◌, ◌||◌, ◌⊎◌, not, Bool, true, false, Option, Some, None, is_some, unwrap_or, option_map, refl, sym, ◌∙◌, ap, subst, inl, inr, arith, if◌then◌else◌, List, [], ◌∷◌, length, map, slice_index, slice_set, nat_lt}
use Rattle.std.proofs.lemmas.Bool.{and_from, and_left, and_parts, both_ways, cases_Bool, cases_lt, false_from_ne_true, false≢true, or_right}
use Rattle.ec_bits.specs.Bits.{within}
use Rattle.ec_bits.proofs.AnyLaws.{any_below_from, if_false, if_true, within_above, within_true}
use Rattle.ec_device.specs.declared.hardware.Hardware.{Hardware}
use Rattle.ec_device.specs.Hardware.{AreNumbered, has_firmware, manager_number, manager_place}
use Rattle.ec_device.specs.Types.{SlaveKind}
use Rattle.ec_regs.specs.declared.manager.SyncManagerSettings.{SyncManagerSettings}
use Rattle.ec_regs.specs.Managers.{manager_bytes, settings_of}
use Rattle.ec_regs.specs.Names.{shown_manager}
use Rattle.ec_regs.proofs.ShownBack.{settings_back}
use Rattle.ec_al.specs.Al.{Al, copied, copied_to, is_operational, status_word}
use Rattle.ec_al.specs.Al as al
use Rattle.ec_al.specs.States.{state_number}
use Rattle.ec_al.specs.Transitions.{acknowledges, requested_by, requested_number}
use Rattle.ec_al.specs.declared.state.State.{State}
use Rattle.ec_al.specs.declared.state.State.TheVariants.{Init, PreOp, SafeOp, Op}
use Rattle.ec_al.specs.declared.transition.Requested.{Requested}
use Rattle.ec_al.proofs.CopyLemmas.{copies_shown}
use Rattle.ec_sync.specs.Buffer.{Buffer, Got, app_written}
use Rattle.ec_sync.specs.SyncManager.{SyncManager, after_get, app_put, awaiting, may_app_put, may_put_message, message_put, no_manager, zeros_published}
use Rattle.ec_sync.specs.Governing.{manager_byte}
use Rattle.ec_slave.specs.State.{SlaveState, manager_at, power_on}
use Rattle.ec_slave.specs.Physical.{as_shown, byte_at, is_missing, numbered_byte, setting_for}
use Rattle.ec_slave.specs.Application.{is_running, output_got, output_taken, with_manager}
use Rattle.ec_slave.specs.Checking.{checks_of, control_word}
use Rattle.ec_slave.specs.Faulting.{faulted, locked_empty, outputs_lost}
use Rattle.ec_slave.specs.Serving.{al_decided, awaited_by, awaited_if, has_outputs, is_slow, is_awaiting, greets_by, managers_decided, replies_decided, is_init, is_preop, is_safeop, managers_entered, outputs_awaited, read_finished, request_decided, served, unlocked_empty, with_al}
use Rattle.ec_slave.specs.Showing.{after_all}
use Rattle.ec_slave.specs.Steps.{Happening, Meets, Serves, Faults, Puts, Gets, Resets, after_one}
use Rattle.ec_slave.specs.HardwareLaws.{naming_manager, SlavesTakeNames, MissingFmmusReadZero, StatusIsCopied, OutputsComeFirst, AwaitsOutsideOp, SwitchedOnAwaitsNothing, OutputsAreAwaitedOutsideOp}
use Rattle.ec_slave.proofs.Memory.RegisterByte.{in_memory, register-read, settings-byte, stored-byte}
use Rattle.ec_slave.proofs.Memory.RegisterLaws.{managers_aside, settings-alike, shows_itself, stored-setting}
use Rattle.ec_slave.proofs.Memory.MissingFmmus.{not-missing}
use Rattle.ec_slave.proofs.Memory.WindowBytes.{from-inside}
use Rattle.ec_slave.proofs.FirmwareRuns.RestsQuietly.{decided-al, decided-if, decides, emergency-alike, rested, served-al, settings_kept}
use Rattle.ec_slave.proofs.FirmwareRuns.StatesAreEntered.{asked-op, granted, op-answer, served-state}
use Rattle.ec_slave.proofs.FirmwareRuns.StepLaws.{messages_keep, three_parts, finished}
use Rattle.ec_slave.proofs.Always.DatagramsKeepTheInside.{inside_kept}
use Rattle.ec_slave.proofs.Always.SlavesAreSwitchedOn.{switched_on}

-- ---- names at the border

own-byte : (o : Option Hardware) (n : ℕ) (m : SyncManagerSettings) (k : ℕ) → manager_number o n < 4 → k < 8 → (nat_lt k 5 || (k == 6)) ≡ true
    → setting_for o (naming_manager o n m) n k ≡ Some (slice_index (manager_bytes (shown_manager o m)) k)
own-byte o n m k l h t = if_true _ _ _ (stored-setting (manager_number o n) k l h t) ∙ from-inside (naming_manager o n m) k h

low_and_high : (x : ℕ) → x % 256 + 256 * (x / 256) ≡ x
low_and_high x = omega arith

read-back : (m : SyncManagerSettings) → settings_of (slice_index (manager_bytes m)) ≡ m
read-back m = rw (low_and_high m.start, low_and_high m.length) refl

-- places that differ have numbers that do
apart : (o : Option Hardware) (n k : ℕ) → AreNumbered o → n < 4 → k < 4 → k ≢ n → manager_number o k ≢ manager_number o n
apart o n k a l h ne e = ne (sym (a.back k h) ∙ (ap (manager_place o) e ∙ a.back n l))

above : (a b c : ℕ) → b + c ≤ a → within b c a ≡ false
above a b c l = within_above b c a l

pub names_taken : SlavesTakeNames
names_taken s n numbered l =
    let o : Option Hardware = s.kind.hardware in
    let q : ℕ = manager_number o n in
    let few : q < 4 = numbered.few n l in
    record {
      taken = λ m.
          let own : (k : ℕ) → k < 8 → (nat_lt k 5 || (k == 6)) ≡ true
          → unwrap_or (setting_for o (naming_manager o n m) n k) (manager_byte (as_shown o (manager_at s.managers n)) k) ≡ slice_index (manager_bytes (shown_manager o m)) k
          = λ k h t. ap (λ (x : Option ℕ). unwrap_or x (manager_byte (as_shown o (manager_at s.managers n)) k)) (own-byte o n m k few h t) in
          ap (shown_manager o)
          (settings-alike (λ k. unwrap_or (setting_for o (naming_manager o n m) n k) (manager_byte (as_shown o (manager_at s.managers n)) k)) (slice_index (manager_bytes (shown_manager o m)))
          (own 0 (omega arith) refl) (own 1 (omega arith) refl) (own 2 (omega arith) refl) (own 3 (omega arith) refl) (own 4 (omega arith) refl) (own 6 (omega arith) refl)
          ∙ read-back (shown_manager o m))
          ∙ settings_back.manager o m;
      set = λ m. any_below_from 8 (λ k. is_some (setting_for o (naming_manager o n m) n k)) 0 (omega arith) (ap is_some (own-byte o n m 0 few (omega arith) refl));
      others = λ m k h ne.
          let other : manager_number o k ≢ q = apart o n k numbered l h ne in
          managers_aside o (naming_manager o n m) k (elim (cases_lt q (manager_number o k)) [
            | inl x ↦ inl (omega (arith, x))
            | inr x ↦ inr (omega (arith, x, other))
          ]);
      read = λ k h.
          let a : ℕ = 2048 + 8 * q + k in
          let number : (a - 2048) / 8 ≡ q = omega (arith, h) in
          let rest : a % 8 ≡ k = omega (arith, h) in
          let outside : in_memory a ≡ false
          = ap (λ (b : Bool). b || (within 288 2 a || within 1536 64 a)) (above a 16 2 (omega arith))
          ∙ (ap (λ (b : Bool). b || within 1536 64 a) (above a 288 2 (omega arith)) ∙ above a 1536 64 (omega arith)) in
          register-read s a (omega (arith, few, h))
          ∙ (settings-byte s a (above a 4 3 (omega arith)) outside (above a 304 2 (omega arith)) (above a 308 2 (omega arith)) (above a 1282 10 (omega arith)) (within_true 2048 32 a (omega arith) (omega (arith, few, h)))
          ∙ (ap (λ (i : ℕ). numbered_byte o s.managers i (a % 8)) number
          ∙ (ap (λ (i : ℕ). numbered_byte o s.managers q i) rest
          ∙ ap (λ (i : ℕ). manager_byte (as_shown o (manager_at s.managers i)) k) (numbered.back n l))));
    }

-- ---- missing FMMUs

-- the registers of missing FMMUs are 0 in the memory
record IsZero (kind : SlaveKind) (s : SlaveState) : Type 0 where
  kind_is : s.kind ≡ kind
  zero : (a : ℕ) → is_missing kind.hardware a ≡ true → slice_index s.memory a ≡ 0

zero-kept : (kind : SlaveKind) (s t : SlaveState) → t.kind ≡ s.kind → ((a : ℕ) → is_missing s.kind.hardware a ≡ true → slice_index t.memory a ≡ slice_index s.memory a) → IsZero kind s → IsZero kind t
zero-kept kind s t e left z = record {
  kind_is = e ∙ z.kind_is;
  zero = λ a h. left a (ap (λ (k : SlaveKind). is_missing k.hardware a) z.kind_is ∙ h) ∙ z.zero a h;
}

fault-memory : (s : SlaveState) → ((faulted s).kind ≡ s.kind) × ((faulted s).memory ≡ s.memory)
unfolding faulted
fault-memory s = by (is_operational s.al.state)
  where
    t : SlaveState
    t = record s { managers = slice_set s.managers 2 (outputs_lost s) }

    by : (b : Bool) → (let x : SlaveState = if b then record t { al = al.faulted s.al } else s in (x.kind ≡ s.kind) × (x.memory ≡ s.memory))
    by true = (refl, refl)
    by false = (refl, refl)

put-memory : (s : SlaveState) (o : Option SyncManager) (b : Bool)
    → (let t : SlaveState = unwrap_or (if b then option_map (with_manager s 3) o else None) s in (t.kind ≡ s.kind) × (t.memory ≡ s.memory))
put-memory s None true = (refl, refl)
put-memory s (Some m) true = (refl, refl)
put-memory s o false = (refl, refl)

got-memory : (s : SlaveState) (o : Option Got) → ((output_taken s o).kind ≡ s.kind) × ((output_taken s o).memory ≡ s.memory)
got-memory s None = (refl, refl)
got-memory s (Some g) = (refl, refl)

one-zero : (kind : SlaveKind) (s : SlaveState) (h : Happening) → IsZero kind s → IsZero kind (after_one s h)
one-zero kind s (Meets d) z = let k = inside_kept s d in zero-kept kind s _ k.kind k.missing z
one-zero kind s Serves z = let k = settings_kept s in zero-kept kind s _ k.kind (λ a h. ap (λ (xs : List ℕ). slice_index xs a) k.memory) z
one-zero kind s Faults z = let k = fault-memory s in zero-kept kind s _ k.0 (λ a h. ap (λ (xs : List ℕ). slice_index xs a) k.1) z
one-zero kind s (Puts i x) z = let k = put-memory s (app_put (manager_at s.managers 3) i x) (is_running s.al.state) in zero-kept kind s _ k.0 (λ a h. ap (λ (xs : List ℕ). slice_index xs a) k.1) z
one-zero kind s (Gets i) z = let k = got-memory s (output_got s i) in zero-kept kind s _ k.0 (λ a h. ap (λ (xs : List ℕ). slice_index xs a) k.1) z
one-zero kind s Resets z = let k = switched_on s.kind s.identity in record { kind_is = k.kind_is ∙ z.kind_is; zero = λ a h. k.memory a }

all-zero : (kind : SlaveKind) (s : SlaveState) (hs : List Happening) → IsZero kind s → IsZero kind (after_all s hs)
all-zero kind s [] z = z
all-zero kind s (h ∷ hs) z = all-zero kind (after_one s h) hs (one-zero kind s h z)

-- they read what the memory has
missing-reads : (s : SlaveState) (o : Option Hardware) (a : ℕ) → is_missing o a ≡ true → byte_at s a ≡ slice_index s.memory a
missing-reads s o a h =
    let low : 1536 ≤ a = elim (cases_lt a 1536) [ inl l ↦ absurd (both_ways (is_missing o a) (not-missing o a (inl l)) h) | inr l ↦ l ] in
    let high : a < 1600 = elim (cases_lt a 1600) [ inl l ↦ l | inr l ↦ absurd (both_ways (is_missing o a) (not-missing o a (inr l)) h) ] in
    let inside : in_memory a ≡ true = or_right (within 16 2 a) _ (or_right (within 288 2 a) _ (within_true 1536 64 a low (omega (arith, high)))) in
    register-read s a (omega (arith, high)) ∙ stored-byte s a (above a 4 3 (omega (arith, low))) inside

pub missing_read_zero : MissingFmmusReadZero
missing_read_zero kind identity hs a h =
    let on = switched_on kind identity in
    let z = all-zero kind (power_on kind identity) hs (record { kind_is = on.kind_is; zero = λ b k. on.memory b }) in
    missing-reads (after_all (power_on kind identity) hs) kind.hardware a h ∙ z.zero a h

-- ---- the AL state machine

-- without firmware nothing is awaited, and a request is copied
unawaited : (o : Option Hardware) (s : SlaveState) → has_firmware o ≡ false → is_awaiting o s ≡ false
unawaited None s e = refl
unawaited (Some h) s e = and_left _ _ e

unslow : (o : Option Hardware) (s : SlaveState) → has_firmware o ≡ false → is_slow o s ≡ false
unslow None s e = refl
unslow (Some h) s e = and_left _ _ e

by-copy : (o : Option Hardware) (s : SlaveState) → has_firmware o ≡ false → al_decided o s ≡ copied s.al (control_word s)
by-copy None s e = absurd (false≢true (sym e))
by-copy (Some h) s e = if_false _ _ _ e

pub status_copied : StatusIsCopied
status_copied s wanted plain asks asked =
    let o : Option Hardware = s.kind.hardware in
    let now : decides s ≡ true = and_from _ _ asks (and_from _ _ (ap not (unslow o s plain)) (ap not (unawaited o s plain))) in
    let is : (served s).al ≡ copied s.al (control_word s)
    = served-al s ∙ (decided-al s ∙ (if_true (decides s) (al_decided o s) (rested s).al now ∙ by-copy o s plain)) in (
      (shows_itself (served s)).status ∙ (ap status_word is ∙ copies_shown s.al (control_word s) wanted asked),
      ap (λ (a : Al). a.code) is ∙ ap (λ (r : Requested). (copied_to s.al r (acknowledges (control_word s))).code) asked,
    )

-- outputs that would be awaited keep the request waiting
pub outputs_first : OutputsComeFirst
outputs_first s h hw fw other now =
    let f : has_firmware s.kind.hardware ≡ true = ap has_firmware hw ∙ fw in
    let g = granted (decides s) s.al (control_word s) (checks_of s) Op other (sym (served-state s f) ∙ now) in
    let w = op-answer s.al.state (requested_by (control_word s)) (checks_of s) other g.1 in
    let safe : is_safeop s.al.state ≡ true = ap is_safeop w.0 in
    let asks : (requested_number (control_word s) == state_number Op) ≡ true = ap (λ (n : ℕ). n == state_number Op) (asked-op (control_word s) w.1) in
    let free : not (is_awaiting s.kind.hardware s) ≡ true = (and_parts (not (is_slow s.kind.hardware s)) _ (and_parts s.al.requested _ g.0).1).1 in
    false_from_ne_true (manager_at s.managers 2).awaited (λ t.
    let held : is_awaiting s.kind.hardware s ≡ true
    = ap (λ (o : Option Hardware). is_awaiting o s) hw ∙ and_from _ _ fw (and_from _ _ safe (and_from _ _ asks t)) in
    false≢true (sym (ap not held) ∙ free))

-- ---- what is awaited

abbrev pub awaited_of : SyncManager → Bool
awaited_of m = m.awaited

abbrev AreQuiet : List SyncManager → Type 0
AreQuiet ms = (n : ℕ) → (manager_at ms n).awaited ≡ false

set-quiet : (ms : List SyncManager) (k n : ℕ) (m : SyncManager) → m.awaited ≡ false → (manager_at ms n).awaited ≡ false → (manager_at (slice_set ms k m) n).awaited ≡ false
set-quiet [] k n m e q = q
set-quiet (x ∷ ms) zero zero m e q = e
set-quiet (x ∷ ms) zero (suc n) m e q = q
set-quiet (x ∷ ms) (suc k) zero m e q = q
set-quiet (x ∷ ms) (suc k) (suc n) m e q = set-quiet ms k n m e q

emptied-quiet : (ms : List SyncManager) (n : ℕ) → (manager_at (map unlocked_empty ms) n).awaited ≡ false
emptied-quiet [] n = refl
emptied-quiet (x ∷ ms) zero = refl
emptied-quiet (x ∷ ms) (suc n) = emptied-quiet ms n

entered-quiet : (old new : State) (ms : List SyncManager) → AreQuiet ms → AreQuiet (managers_entered old new ms)
entered-quiet old new ms q n = by (is_init new && not (is_init old)) (is_safeop new && is_preop old)
  where
    by : (a b : Bool) → (let xs : List SyncManager = if a then map unlocked_empty ms else (if b then slice_set ms 3 (zeros_published (manager_at ms 3)) else ms) in (manager_at xs n).awaited ≡ false)
    by true b = emptied-quiet ms n
    by false true = set-quiet ms 3 n (zeros_published (manager_at ms 3)) (q 3) (q n)
    by false false = q n

-- no firmware of real devices awaits them
abbrev Unwanting : Option Hardware → Type 0
Unwanting o = (o ≡ None) ⊎ (has_firmware o ≡ false)

awaited-quiet : (o : Option Hardware) (outputs : Bool) (old new : State) (ms : List SyncManager) → Unwanting o → AreQuiet ms → AreQuiet (outputs_awaited o outputs old new ms)
awaited-quiet None outputs old new ms u q = q
awaited-quiet (Some h) outputs old new ms (inl e) q = λ n. cc
awaited-quiet (Some h) outputs old new ms (inr e) q = λ n. by n (is_safeop new && not (is_safeop old))
  where
    by : (n : ℕ) (b : Bool) → (let xs : List SyncManager = if b then slice_set ms 2 (awaiting (manager_at ms 2) (h.has_firmware && outputs)) else ms in (manager_at xs n).awaited ≡ false)
    by n true = set-quiet ms 2 n (awaiting (manager_at ms 2) (h.has_firmware && outputs)) (and_left _ _ e) (q n)
    by n false = q n

-- an emergency changes nothing of it
either-awaited : (b : Bool) (x m : SyncManager) → awaited_of x ≡ m.awaited → awaited_of (if b then x else m) ≡ m.awaited
either-awaited true x m e = e
either-awaited false x m e = refl

pub put-awaited : (m : SyncManager) (bytes : List ℕ) → awaited_of (message_put m bytes) ≡ m.awaited
put-awaited m bytes = either-awaited (may_put_message m (length bytes)) _ m refl

decided-quiet : (s : SlaveState) → Unwanting s.kind.hardware → AreQuiet s.managers → AreQuiet (request_decided s).managers
decided-quiet s u q n = ap (λ (t : SlaveState). awaited_of (manager_at t.managers n)) (decided-if s) ∙ by (decides s)
  where
    a : Al
    a = al_decided s.kind.hardware s

    by : (b : Bool) → (let t : SlaveState = if b then with_al s a else rested s in awaited_of (manager_at t.managers n) ≡ false)
    by true = emergency-alike awaited_of put-awaited (greets_by s a) (replies_decided s a) (managers_decided s a) n
        ∙ awaited-quiet s.kind.hardware (has_outputs s) s.al.state a.state (managers_entered s.al.state a.state s.managers) u (entered-quiet s.al.state a.state s.managers q) n
    by false = q n

-- behind the decision a firmware step leaves what is awaited
pub rest-awaited : (s : SlaveState) (n : ℕ) → (manager_at (served s).managers n).awaited ≡ (manager_at (request_decided s).managers n).awaited
rest-awaited s n =
    ap (λ (t : SlaveState). awaited_of (manager_at t.managers n)) (three_parts s)
    ∙ ((messages_keep (read_finished (request_decided s))).awaited n
    ∙ ap (λ (t : SlaveState). awaited_of (manager_at t.managers n)) (finished (request_decided s)).is)

served-quiet : (s : SlaveState) → Unwanting s.kind.hardware → AreQuiet s.managers → AreQuiet (served s).managers
served-quiet s u q n = rest-awaited s n ∙ decided-quiet s u q n

-- a state that is entered is not SAFEOP where it is OP
op-entered : (o : Option Hardware) (outputs : Bool) (old new : State) (ms : List SyncManager) → new ≡ Op → outputs_awaited o outputs old new (managers_entered old new ms) ≡ ms
op-entered None outputs old new ms e = ap (λ (x : State). managers_entered old x ms) e
op-entered (Some h) outputs old new ms e = ap (λ (x : State). outputs_awaited (Some h) outputs old x (managers_entered old x ms)) e

pub op_or_not : (s : State) → (s ≡ Op) ⊎ (s ≢ Op)
op_or_not Init = inr (λ e. cc)
op_or_not PreOp = inr (λ e. cc)
op_or_not SafeOp = inr (λ e. cc)
op_or_not Op = inl refl

-- whoever is in OP behind a step awaited nothing before
before-op : (s : SlaveState) → AwaitsOutsideOp s → (served s).al.state ≡ Op → (manager_at s.managers 2).awaited ≡ false
before-op s q now = elim (op_or_not s.al.state) [ inl e ↦ q.in_op e | inr other ↦ by s.kind.hardware refl other ]
  where
    by : (o : Option Hardware) → s.kind.hardware ≡ o → s.al.state ≢ Op → (manager_at s.managers 2).awaited ≡ false
    by None e other = q.plain e 2
    by (Some h) e other = elim (cases_Bool h.has_firmware) [
      | inl f ↦ outputs_first s h e f other now
      | inr f ↦ q.without_firmware (ap has_firmware e ∙ f) 2
    ]

in-op : (s : SlaveState) → AwaitsOutsideOp s → (served s).al.state ≡ Op → (manager_at (request_decided s).managers 2).awaited ≡ (manager_at s.managers 2).awaited
in-op s q now =
    let there : (if decides s then al_decided s.kind.hardware s else (rested s).al).state ≡ Op = ap (λ (a : Al). a.state) (sym (served-al s ∙ decided-al s)) ∙ now in
    ap (λ (t : SlaveState). awaited_of (manager_at t.managers 2)) (decided-if s) ∙ by (decides s) there
  where
    a : Al
    a = al_decided s.kind.hardware s

    by : (b : Bool) → (if b then a else (rested s).al).state ≡ Op → (let t : SlaveState = if b then with_al s a else rested s in awaited_of (manager_at t.managers 2) ≡ awaited_of (manager_at s.managers 2))
    by true e = emergency-alike awaited_of put-awaited (greets_by s a) (replies_decided s a) (managers_decided s a) 2
        ∙ ap (λ (ms : List SyncManager). awaited_of (manager_at ms 2)) (op-entered s.kind.hardware (has_outputs s) s.al.state a.state s.managers e)
    by false e = refl

served-stays : (s : SlaveState) → AwaitsOutsideOp s → AwaitsOutsideOp (served s)
served-stays s q =
    let k : (served s).kind ≡ s.kind = (settings_kept s).kind in
    record {
      in_op = λ e. rest-awaited s 2 ∙ (in-op s q e ∙ before-op s q e);
      plain = λ e. let own : s.kind.hardware ≡ None = ap (λ (x : SlaveKind). x.hardware) (sym k) ∙ e in served-quiet s (inl own) (q.plain own);
      without_firmware = λ e. let own : has_firmware s.kind.hardware ≡ false = ap (λ (x : SlaveKind). has_firmware x.hardware) (sym k) ∙ e in served-quiet s (inr own) (q.without_firmware own);
    }

met-stays : (s : SlaveState) (t : SlaveState) → t.kind ≡ s.kind → (t.al.state ≡ Op → s.al.state ≡ Op) → ((n : ℕ) → (manager_at s.managers n).awaited ≡ false → (manager_at t.managers n).awaited ≡ false)
    → AwaitsOutsideOp s → AwaitsOutsideOp t
met-stays s t k state left q = record {
  in_op = λ e. left 2 (q.in_op (state e));
  plain = λ e n. left n (q.plain (ap (λ (x : SlaveKind). x.hardware) (sym k) ∙ e) n);
  without_firmware = λ e n. left n (q.without_firmware (ap (λ (x : SlaveKind). has_firmware x.hardware) (sym k) ∙ e) n);
}

pub safeop-op : SafeOp ≡ Op → ⊥
safeop-op e = cc

-- what a fault leaves is awaited by firmware of real devices alone
lost-quiet : (o : Option Hardware) (outputs : Bool) (m : SyncManager) → Unwanting o → awaited_of (awaited_if (awaited_by o outputs Op SafeOp) (locked_empty m)) ≡ false
lost-quiet None outputs m u = refl
lost-quiet (Some h) outputs m (inl e) = cc
lost-quiet (Some h) outputs m (inr e) = and_left _ _ e

fault-stays : (s : SlaveState) → AwaitsOutsideOp s → AwaitsOutsideOp (faulted s)
unfolding faulted
fault-stays s q = by s.al.state refl
  where
    t : SlaveState
    t = record s { al = al.faulted s.al; managers = slice_set s.managers 2 (outputs_lost s) }

    fallen : s.al.state ≡ Op → t.al.state ≡ SafeOp
    fallen e = ap (λ (x : State). (if is_operational x then record { state = SafeOp; error = true; code = 1; requested = s.al.requested; waited = s.al.waited } else s.al).state) e

    by : (x : State) → s.al.state ≡ x → AwaitsOutsideOp (if is_operational x then t else s)
    by Init e = q
    by PreOp e = q
    by SafeOp e = q
    by Op e = record {
      in_op = λ f. absurd (safeop-op (sym (fallen e) ∙ f));
      plain = λ f n. set-quiet s.managers 2 n (outputs_lost s) (lost-quiet s.kind.hardware (has_outputs s) (manager_at s.managers 2) (inl f)) (q.plain f n);
      without_firmware = λ f n. set-quiet s.managers 2 n (outputs_lost s) (lost-quiet s.kind.hardware (has_outputs s) (manager_at s.managers 2) (inr f)) (q.without_firmware f n);
    }

-- the application changes a buffer
pub put-quiet : (m : SyncManager) (b : Bool) (o : Option Buffer) (x : SyncManager) → (if b then option_map (λ (y : Buffer). record m { buffer = y }) o else None) ≡ Some x → x.awaited ≡ m.awaited
put-quiet m true None x e = cc
put-quiet m true (Some y) x e = let f : record m { buffer = y } ≡ x = cc in ap awaited_of (sym f)
put-quiet m false o x e = cc

pub alike-awaited : (ms : List SyncManager) (k n : ℕ) (x : SyncManager) → x.awaited ≡ (manager_at ms k).awaited → (manager_at (slice_set ms k x) n).awaited ≡ (manager_at ms n).awaited
alike-awaited [] k n x e = refl
alike-awaited (y ∷ ms) zero zero x e = e
alike-awaited (y ∷ ms) zero (suc n) x e = refl
alike-awaited (y ∷ ms) (suc k) zero x e = refl
alike-awaited (y ∷ ms) (suc k) (suc n) x e = alike-awaited ms k n x e

put-stays : (s : SlaveState) (b : Bool) (o : Option SyncManager) (t : SlaveState) → ((x : SyncManager) → o ≡ Some x → x.awaited ≡ (manager_at s.managers 3).awaited)
    → (if b then option_map (with_manager s 3) o else None) ≡ Some t → AwaitsOutsideOp s → AwaitsOutsideOp t
put-stays s true None t h e q = cc
put-stays s true (Some m) t h e q =
    let same : with_manager s 3 m ≡ t = cc in
    subst AwaitsOutsideOp same (met-stays s (with_manager s 3 m) refl (λ f. f) (λ n z. alike-awaited s.managers 3 n m (h m refl) ∙ z) q)
put-stays s false o t h e q = cc

got-stays : (s : SlaveState) (o : Option Got) → AwaitsOutsideOp s → AwaitsOutsideOp (output_taken s o)
got-stays s None q = q
got-stays s (Some g) q = met-stays s (output_taken s (Some g)) refl (λ f. f) (λ n z. alike-awaited s.managers 2 n (after_get (manager_at s.managers 2) (Some g)) refl ∙ z) q

four-quiet : (n : ℕ) → (manager_at (no_manager ∷ no_manager ∷ no_manager ∷ no_manager ∷ []) n).awaited ≡ false
four-quiet zero = refl
four-quiet (suc zero) = refl
four-quiet (suc (suc zero)) = refl
four-quiet (suc (suc (suc zero))) = refl
four-quiet (suc (suc (suc (suc n)))) = refl

pub nothing_awaited : SwitchedOnAwaitsNothing
unfolding power_on
nothing_awaited kind identity = record { in_op = λ e. refl; plain = λ e n. four-quiet n; without_firmware = λ e n. four-quiet n }

pub stays_outside : OutputsAreAwaitedOutsideOp
stays_outside s q = record {
  met = λ d. let k = inside_kept s d in met-stays s _ k.kind (λ e. sym k.state ∙ e) k.awaited q;
  served = served-stays s q;
  faulted = fault-stays s q;
  put = λ i x t e. put-stays s (is_running s.al.state) (app_put (manager_at s.managers 3) i x) t
      (λ m f. put-quiet (manager_at s.managers 3) (may_app_put (manager_at s.managers 3)) (app_written (manager_at s.managers 3).buffer i x) m f) e q;
  taken = λ i. got-stays s (output_got s i) q;
}
