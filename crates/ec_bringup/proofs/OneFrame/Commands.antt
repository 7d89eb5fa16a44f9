-- The commands of a start-up at their slave: each counts 1, and what the firmware step after it makes of it.
use Rattle.ec_bringup.proofs.Words.{ℕ, zero, suc, ◌+◌, ◌-◌, ◌*◌, ◌/◌, ◌%◌, ◌<◌, ◌≤◌, ◌≡◌, ◌&&◌, not, Bool, true, false, List, Option, Some, None, Ok, refl, sym, ◌∙◌, ap, subst, arith, [], ◌∷◌, length, or_left, and_left, le-leb, if_true, if_false, SyncManagerSettings, FmmuSettings, Device, device_of, is_stored, takes_writes, manager_bytes, fmmu_bytes, State, Init, PreOp, SafeOp, Op, Checks, state_number, answer, requested_by, acknowledges, Al, sii_image_word_at as word_at, size_of, Sii, written, read_command, SlaveState, station_of, datagram_met, control_word, checks_of, served, AskWord, SetManager, SetFmmu, ManagerRegister, AskState, station, datagram_of, word_address_of, IsStepUp, IsAsked, IsOfType, settles, Hardware, has_firmware, al_decided, is_awaiting, is_safeop, manager_at, requested_number, cases_Bool, both_ways, inl, inr, ◌==◌, fmmu_count, is_slow, Identity, SlaveKind, WantedDevice, wanted_of}
use Rattle.ec_al.specs.Al as al
use Rattle.ec_sii.specs.Port as port
use Rattle.ec_bringup.proofs.OneSlave.Lacking.{has-above, has-below, has-own}
use Rattle.ec_bringup.proofs.OneFrame.RegisterPolls.{register-goes}
use Rattle.ec_bringup.proofs.OneFrame.SetRegisters.{fmmu-stored}

-- ---- they count

pub ask-state-goes : (s : SlaveState) (i : ℕ) (state : State) (number : ℕ) → station_of s ≡ station i → i < 64 → (datagram_met s (datagram_of (AskState i state) number)).counter ≡ 1
ask-state-goes s i state number e l = register-goes s i 0x0120 (state_number state ∷ 0 ∷ []) number 0 e l (omega arith) (omega arith) (has-below s.kind.hardware 0x0120 (omega arith)) refl

pub ask-word-goes : (s : SlaveState) (i which number : ℕ) → station_of s ≡ station i → i < 64 → s.sii.busy ≡ false → (datagram_met s (datagram_of (AskWord i which) number)).counter ≡ 1
ask-word-goes s i which number e l idle =
    register-goes s i 0x0502 (read_command (word_address_of which)) number 0 e l (let n : length (read_command (word_address_of which)) ≡ 6 = refl in omega (arith, n)) (omega arith) (has-below s.kind.hardware 0x0502 (omega arith)) (ap (λ (b : Bool). takes_writes b 0x0502) idle)

pub set-fmmu-goes : (s : SlaveState) (i n : ℕ) (f : FmmuSettings) (start number : ℕ) → station_of s ≡ station i → i < 64 → n < 4 → n < fmmu_count s.kind.hardware → (datagram_met s (datagram_of (SetFmmu i n f start) number)).counter ≡ 1
set-fmmu-goes s i n f start number e l b has =
    let g : FmmuSettings = record f { physical_start = start } in
    register-goes s i (0x0600 + 16 * n) (fmmu_bytes g) number 0 e l (let k : length (fmmu_bytes g) ≡ 16 = refl in omega (arith, k)) (omega (arith, b)) (has-own s.kind.hardware n 0 has (omega arith)) (or_left _ _ (fmmu-stored n 0 b (omega arith)))

manager-stored : (n : ℕ) → n < 4 → is_stored (0x0800 + 8 * n + 0) ≡ true
manager-stored (suc (suc (suc (suc n)))) l = absurd (omega (arith, l))
manager-stored _ l = refl

-- it is written under the number that the device has for it
pub set-manager-goes : (s : SlaveState) (i n : ℕ) (m : SyncManagerSettings) (r : ManagerRegister) (number : ℕ) → station_of s ≡ station i → i < 64 → r.number < 4
    → (datagram_met s (datagram_of (SetManager i n m r) number)).counter ≡ 1
set-manager-goes s i n m r number e l b =
    let x : SyncManagerSettings = record m { start = r.start } in
    register-goes s i (0x0800 + 8 * r.number) (manager_bytes x) number 0 e l (let k : length (manager_bytes x) ≡ 8 = refl in omega (arith, k)) (omega (arith, b)) (has-above s.kind.hardware (0x0800 + 8 * r.number + 0) (omega arith)) (or_left _ _ (manager-stored r.number b))

-- ---- a state that was asked for is granted, where the checks of the step pass

abbrev pub Passes : Checks → State → Type 0
Passes checks PreOp = checks.mailbox ≡ true
Passes checks SafeOp = (checks.outputs ≡ true) × (checks.inputs ≡ true)
Passes checks _ = Unit {0}

pub answer-granted : (from to : State) (checks : Checks) → IsStepUp from to → Passes checks to → answer from (requested_by (state_number to)) checks ≡ Ok to
answer-granted Init PreOp checks h p = if_true _ _ _ p
answer-granted PreOp SafeOp checks h p = if_true _ _ _ p.0 ∙ if_true _ _ _ p.1
answer-granted SafeOp Op checks h p = refl
answer-granted _ _ checks h p = absurd h

-- in the state, without an error or a request
pub record IsThere (state : State) (s : SlaveState) : Type 0 where
  pub state_is : s.al.state ≡ state
  pub no_error : s.al.error ≡ false
  pub no_request : s.al.requested ≡ false

-- by the checks; there is no error before
checked : (s : SlaveState) (from to : State) → IsStepUp from to → IsAsked from (state_number to) s → s.al.error ≡ false → Passes (checks_of s) to
    → al.decided s.al (control_word s) (checks_of s) ≡ al.answered s.al (Ok to)
checked s from to up h clean p =
    if_false (s.al.error && not (acknowledges (control_word s))) (al.ignored s.al) _ (and_left _ _ clean)
    ∙ (ap (λ (k : ℕ). al.answered s.al (answer s.al.state (requested_by k) (checks_of s))) h.control_is
    ∙ (ap (λ (t : State). al.answered s.al (answer t (requested_by (state_number to)) (checks_of s))) h.state
    ∙ ap (λ r. al.answered s.al r) (answer-granted from to (checks_of s) up p)))

-- or without firmware, which copies the state and no acknowledgement
copied-to : (x : Al) (to : State) → (from : State) → IsStepUp from to → al.copied x (state_number to) ≡ al.answered x (Ok to)
copied-to x PreOp from up = refl
copied-to x SafeOp from up = refl
copied-to x Op from up = refl
copied-to x Init Init up = absurd up
copied-to x Init PreOp up = absurd up
copied-to x Init SafeOp up = absurd up
copied-to x Init Op up = absurd up

decided-to : (s : SlaveState) (o : Option Hardware) (from to : State) → IsStepUp from to → IsAsked from (state_number to) s → (has_firmware o ≡ true → s.al.error ≡ false) → Passes (checks_of s) to
    → al_decided o s ≡ al.answered s.al (Ok to)
decided-to s None from to up h clean p = checked s from to up h (clean refl) p
decided-to s (Some w) from to up h clean p = elim (cases_Bool w.has_firmware) [
  | inl f ↦ if_true w.has_firmware (al.decided s.al (control_word s) (checks_of s)) (al.copied s.al (control_word s)) f ∙ checked s from to up h (clean f) p
  | inr f ↦ if_false w.has_firmware (al.decided s.al (control_word s) (checks_of s)) (al.copied s.al (control_word s)) f ∙ (ap (al.copied s.al) h.control_is ∙ copied-to s.al to from up)
]

-- outputs are there, or none are wanted before OP
abbrev pub Unawaited : Option Hardware → SlaveState → Type 0
Unawaited None s = Unit {0}
Unawaited (Some h) s = s.al.state ≡ SafeOp → (manager_at s.managers 2).awaited ≡ false

-- a request that is for another state than OP waits for no outputs
other-request : (to : State) (n : ℕ) → (to ≡ Op → ⊥) → n ≡ state_number to → (requested_number n == state_number Op) ≡ false
other-request Init n ne e = ap (λ (k : ℕ). requested_number k == state_number Op) e
other-request PreOp n ne e = ap (λ (k : ℕ). requested_number k == state_number Op) e
other-request SafeOp n ne e = ap (λ (k : ℕ). requested_number k == state_number Op) e
other-request Op n ne e = absurd (ne refl)

not-asked : (a b c d : Bool) → c ≡ false → (a && (b && (c && d))) ≡ false
not-asked true true true d q = absurd (both_ways true q refl)
not-asked true true false d q = refl
not-asked true false c d q = refl
not-asked false b c d q = refl

not-wanted : (a b c d : Bool) → (b ≡ true → d ≡ false) → (a && (b && (c && d))) ≡ false
not-wanted true true true d q = q refl
not-wanted true true false d q = refl
not-wanted true false c d q = refl
not-wanted false b c d q = refl

safe-state : (st : State) → is_safeop st ≡ true → st ≡ SafeOp
safe-state SafeOp e = refl
safe-state Init e = absurd (both_ways false refl e)
safe-state PreOp e = absurd (both_ways false refl e)
safe-state Op e = absurd (both_ways false refl e)

at-once : (s : SlaveState) (o : Option Hardware) (to : State) → control_word s ≡ state_number to → (to ≡ Op → Unawaited o s) → is_awaiting o s ≡ false
at-once s None to e w = refl
at-once s (Some h) to e w = by to refl
  where
    by : (x : State) → to ≡ x → is_awaiting (Some h) s ≡ false
    by Op q = not-wanted h.has_firmware (is_safeop s.al.state) (requested_number (control_word s) == state_number Op) (manager_at s.managers 2).awaited (λ e. w q (safe-state s.al.state e))
    by Init q = not-asked h.has_firmware (is_safeop s.al.state) _ (manager_at s.managers 2).awaited (other-request to (control_word s) (λ p. cc (sym q ∙ p)) e)
    by PreOp q = not-asked h.has_firmware (is_safeop s.al.state) _ (manager_at s.managers 2).awaited (other-request to (control_word s) (λ p. cc (sym q ∙ p)) e)
    by SafeOp q = not-asked h.has_firmware (is_safeop s.al.state) _ (manager_at s.managers 2).awaited (other-request to (control_word s) (λ p. cc (sym q ∙ p)) e)

pub granted : (s : SlaveState) (from to : State) → IsStepUp from to → IsAsked from (state_number to) s → (has_firmware s.kind.hardware ≡ true → s.al.error ≡ false) → (to ≡ Op → Unawaited s.kind.hardware s)
    → is_slow s.kind.hardware s ≡ false → Passes (checks_of s) to → IsThere to (served s)
granted s from to up h clean wanted quick p =
    let q : (served s).al ≡ al.answered s.al (Ok to) = (settles s).al quick (at-once s s.kind.hardware to h.control_is wanted) ∙ (if_true _ _ _ h.request ∙ decided-to s s.kind.hardware from to up h clean p) in
    record { state_is = ap (λ (x : Al). x.state) q; no_error = ap (λ (x : Al). x.error) q; no_request = ap (λ (x : Al). x.requested) q }

-- ---- a word of the SII that was asked for is found

abbrev pub word_of : Device → ℕ → ℕ
word_of t zero = t.vendor
word_of t (suc zero) = t.product
word_of t (suc (suc which)) = t.revision

-- a value is the word of a device that is wanted: one of any revision has any third word
abbrev pub IsWord : WantedDevice → ℕ → ℕ → Type 0
IsWord t zero value = value ≡ t.device.vendor
IsWord t (suc zero) value = value ≡ t.device.product
IsWord t (suc (suc which)) value = t.any_revision ≡ false → value ≡ t.device.revision

pub record HasFound (t : WantedDevice) (which : ℕ) (p : Sii) : Type 0 where
  pub idle : p.busy ≡ false
  pub no_error : p.error ≡ false
  pub found_is : IsWord t which p.found

-- the port found this value
record HasRead (value : ℕ) (p : Sii) : Type 0 where
  idle : p.busy ≡ false
  no_error : p.error ≡ false
  found_is : p.found ≡ value

whole : (n : ℕ) → n % 65536 + 65536 * (n / 65536) ≡ n
whole n = omega arith

-- every image has the words of the identity
room : (o : Option (List ℕ)) → 62 ≤ 64 * size_of o - 2
room None = omega arith
room (Some categories) = omega arith

-- a read that is under way there is finished
finished-read : (q : Sii) → q.busy ≡ true → q.address ≤ 62 → port.stepped q ≡ record { image = q.image; address = q.address; busy = false; error = q.error; found = port.two_words q.image q.address }
unfolding port.stepped
finished-read q b l = if_true _ _ _ b ∙ if_true _ _ _ (le-leb q.address (port.last_address q.image) (let r = room q.image.categories in omega (arith, l, r)))

found-by : (value : ℕ) (q : Sii) → q.busy ≡ true → q.error ≡ false → q.address ≤ 62 → port.two_words q.image q.address ≡ value → HasRead value (port.stepped q)
found-by value q b e l f = subst (HasRead value) (sym (finished-read q b l)) (record { idle = refl; no_error = e; found_is = f })

finds : (p : Sii) (which : ℕ) → which < 3 → p.busy ≡ false → HasRead (word_of (device_of p.image.identity) which) (port.stepped (written p 0x0502 (read_command (word_address_of which))))
unfolding written word_at
finds p zero l e = subst (λ (q : Sii). HasRead p.image.identity.vendor (port.stepped q)) (sym (if_false _ _ _ e)) (found-by p.image.identity.vendor _ refl refl (omega arith) (whole p.image.identity.vendor))
finds p (suc zero) l e = subst (λ (q : Sii). HasRead p.image.identity.product (port.stepped q)) (sym (if_false _ _ _ e)) (found-by p.image.identity.product _ refl refl (omega arith) (whole p.image.identity.product))
finds p (suc (suc zero)) l e = subst (λ (q : Sii). HasRead p.image.identity.revision (port.stepped q)) (sym (if_false _ _ _ e)) (found-by p.image.identity.revision _ refl refl (omega arith) (whole p.image.identity.revision))
finds p (suc (suc (suc which))) l e = absurd (omega (arith, l))

-- the slave's own word is that of a device of its type
own-word : (kind : SlaveKind) (i : Identity) (which value : ℕ) → IsOfType kind i → value ≡ word_of (device_of i) which → IsWord (wanted_of kind) which value
own-word kind i zero value h e = e ∙ h.vendor
own-word kind i (suc zero) value h e = e ∙ h.product
own-word kind i (suc (suc which)) value h e = λ named. e ∙ h.revision named

-- by the write alone: what the SII port became
pub word-found : (kind : SlaveKind) (s r : SlaveState) (which : ℕ) → which < 3 → s.sii.busy ≡ false → IsOfType kind s.sii.image.identity → r.sii ≡ written s.sii 0x0502 (read_command (word_address_of which))
    → HasFound (wanted_of kind) which (served r).sii
word-found kind s r which l e h q =
    let read : HasRead (word_of (device_of s.sii.image.identity) which) (served r).sii
    = subst (λ (p : Sii). HasRead (word_of (device_of s.sii.image.identity) which) p) (sym ((settles r).sii ∙ ap port.stepped q)) (finds s.sii which l e) in
    record { idle = read.idle; no_error = read.no_error; found_is = own-word kind s.sii.image.identity which (served r).sii.found h read.found_is }
