-- The polls of a start-up at a slave that has what is waited for: one poll ends the wait.
use Rattle.ec_bringup.proofs.Words.{ℕ, zero, suc, ◌+◌, ◌*◌, ◌%◌, ◌^◌, ◌<◌, ◌≤◌, ◌≡◌, ◌==◌, ◌&&◌, not, Bool, true, false, Some, refl, sym, ◌∙◌, ap, arith, List, length, slice_index, is_some, bit_at, to_le_bytes, w32, from_bool, from_le_bytes-to_le_bytes_4, eq-eqb, and_from, length-replicate, zeros, if_true, if_false, Device, Mailbox, ram_start, Fprd, adp_of, State, Init, state_number, may_read, SlaveState, station_of, manager_at, Window, byte_at, byte_read, updated, some_byte_read, window_of, datagram_met, message_read, AwaitWord, AwaitState, AwaitCleanInit, AwaitReply, AwaitFreeReply, SdoRequest, Datagram, PreOp, SafeOp, Op, IsStepUp, is_aside, raw_verdict, free_verdict, heard_in, Heard, MayRepeat, inr, WantedDevice, or_right, station, sent, datagram_of, Next, Word, Again, Aside, with_word, is_device, word_at, long_at, word_verdict, message_verdict, verdict, shows_itself, ◌||◌, or_left, Verdict}
use Rattle.ec_bringup.proofs.OneFrame.RegisterWrites.{window-sent}
use Rattle.ec_bringup.proofs.OneFrame.RegisterPolls.{read-byte, read-bytes, register-shows}
use Rattle.ec_bringup.proofs.Mailbox.AwaitReply.{Boxes, asking, read-counter, some-read, raw-read}
use Rattle.ec_bringup.proofs.OneFrame.Commands.{IsThere, HasFound, IsWord, word_of}

-- byte k of the data that comes back
back : (s : SlaveState) (i ado n number k : ℕ) → station_of s ≡ station i → i < 64 → ado + n ≤ ram_start → k < n
    → slice_index (datagram_met s (sent Fprd (station i) ado (zeros n) number)).data_bytes k ≡ byte_at s (ado + k)
back s i ado n number k e l r b =
    let z = length-replicate {A = ℕ} n 0 in
    read-byte s (sent Fprd (station i) ado (zeros n) number) (record { from = ado; bytes = zeros n }) k refl
    (let a : (station i % 65536 + 65536 * ado) % 65536 ≡ station_of s = omega (arith, e, l) in a) (window-sent Fprd (station i) ado (zeros n) number) (omega (arith, r, z)) (omega (arith, b, z))

-- ---- a state

good-state : (st : State) → (bit_at (state_number st) 4 == 1) ≡ false
good-state Init = refl
good-state _ = refl

same-state : (st : State) → (state_number st % 32 == state_number st) ≡ true
same-state Init = refl
same-state _ = refl

pub await-state-ends : (n step : ℕ) (seen : Device) (types : ℕ → WantedDevice) (s : SlaveState) (i : ℕ) (state : State) (number : ℕ) → station_of s ≡ station i → i < 64 → IsThere state s
    → verdict n step seen types (AwaitState i state) (datagram_met s (datagram_of (AwaitState i state) number)) ≡ Next
await-state-ends n step seen types s i state number e l h =
    let b : slice_index (datagram_met s (datagram_of (AwaitState i state) number)).data_bytes 0 ≡ state_number state
    = back s i 0x0130 6 number 0 e l (omega arith) (omega arith) ∙ ((shows_itself s).status ∙ (ap (λ (x : State). state_number x + 16 * from_bool s.al.error) h.state_is ∙ (ap (λ (x : Bool). state_number state + 16 * from_bool x) h.no_error ∙ more (state_number state)))) in
    if_true _ _ _ (eq-eqb _ 1 (register-shows s i 0x0130 (zeros 6) number 0 e l (omega arith) (omega arith)))
    ∙ (if_false _ _ _ (ap (λ (x : ℕ). bit_at x 4 == 1) b ∙ good-state state) ∙ if_true _ _ _ (ap (λ (x : ℕ). x % 32 == state_number state) b ∙ same-state state))
  where
    more : (n : ℕ) → n + 16 * 0 ≡ n
    more n = omega arith

-- ---- INIT, without an error

pub await-clean-ends : (n step : ℕ) (seen : Device) (types : ℕ → WantedDevice) (s : SlaveState) (i : ℕ) (number : ℕ) → station_of s ≡ station i → i < 64 → s.al.state ≡ Init → s.al.error ≡ false
    → verdict n step seen types (AwaitCleanInit i) (datagram_met s (datagram_of (AwaitCleanInit i) number)) ≡ Next
await-clean-ends n step seen types s i number e l state clean =
    let b : slice_index (datagram_met s (datagram_of (AwaitCleanInit i) number)).data_bytes 0 ≡ 1
    = back s i 0x0130 6 number 0 e l (omega arith) (omega arith) ∙ ((shows_itself s).status ∙ (ap (λ (x : State). state_number x + 16 * from_bool s.al.error) state ∙ ap (λ (x : Bool). 1 + 16 * from_bool x) clean)) in
    if_true _ _ _ (eq-eqb _ 1 (register-shows s i 0x0130 (zeros 6) number 0 e l (omega arith) (omega arith)))
    ∙ if_true _ _ _ (eq-eqb _ 1 (ap (λ (x : ℕ). x % 32) b))

-- ---- a word

long-spells : (bytes : List ℕ) (n : ℕ) → n < 2 ^ 32 → ((j : ℕ) → j < 4 → slice_index bytes (6 + j) ≡ slice_index (to_le_bytes w32 n) j) → long_at bytes 6 ≡ n
long-spells bytes n l h =
    let a = h 0 (omega arith) in let b = h 1 (omega arith) in let c = h 2 (omega arith) in let d = h 3 (omega arith) in
    omega (arith, a, b, c, d, from_le_bytes-to_le_bytes_4 n l)

-- the words that this slave has shown before are the type's
abbrev pub Tells : Device → Device → ℕ → Type 0
Tells t s zero = Unit {0}
Tells t s (suc zero) = s.vendor ≡ t.vendor
Tells t s (suc (suc which)) = (s.vendor ≡ t.vendor) × (s.product ≡ t.product)

-- a type that names no revision takes any
takes : (any : Bool) (named value : ℕ) → (any ≡ false → value ≡ named) → (any || (named == value)) ≡ true
takes true named value h = or_left true (named == value) refl
takes false named value h = or_right false (named == value) (eq-eqb named value (sym (h refl)))

fits : (t : WantedDevice) (s : Device) (which value : ℕ) → which < 3 → Tells t.device s which → IsWord t which value → ((which == 2) && not (is_device t (with_word s which value))) ≡ false
fits t s (suc (suc zero)) value l h w =
    ap not (and_from _ _ (eq-eqb t.device.vendor s.vendor (sym h.0)) (and_from _ _ (eq-eqb t.device.product s.product (sym h.1)) (takes t.any_revision t.device.revision value w)))
fits t s (suc (suc (suc which))) value l h w = absurd (omega (arith, l))
fits t s _ value l h w = refl

word-ends : (t : WantedDevice) (seen : Device) (i which : ℕ) (bytes : List ℕ) → which < 3 → Tells t.device seen which → word_at bytes 0 ≡ 0 → IsWord t which (long_at bytes 6)
    → word_verdict t seen i which bytes ≡ Word (long_at bytes 6)
word-ends t seen i which bytes l h z w =
    if_false _ _ _ (ap (λ (x : ℕ). bit_at x 13 == 1) z)
    ∙ (if_false _ _ _ (ap (λ (x : ℕ). bit_at x 15 == 1) z)
    ∙ if_false _ _ _ (fits t seen which (long_at bytes 6) l h w))

-- the word that comes back is the one that the port found, as far as the type names it
word-back : (t : WantedDevice) (which found value : ℕ) → word_of t.device which < 2 ^ 32 → ((n : ℕ) → n < 2 ^ 32 → found ≡ n → value ≡ n) → IsWord t which found → IsWord t which value
word-back t zero found value big back h = back t.device.vendor big h
word-back t (suc zero) found value big back h = back t.device.product big h
word-back t (suc (suc which)) found value big back h = λ named. back t.device.revision big (h named)

-- the verdict of a word that fits
abbrev pub IsTold : WantedDevice → ℕ → Verdict → Type 0
IsTold t which v = (value : ℕ) × IsWord t which value × (v ≡ Word value)

pub await-word-ends : (n step : ℕ) (seen : Device) (types : ℕ → WantedDevice) (s : SlaveState) (i which : ℕ) (number : ℕ) → station_of s ≡ station i → i < 64 → which < 3
    → word_of (types i).device which < 2 ^ 32 → Tells (types i).device seen which → HasFound (types i) which s.sii
    → IsTold (types i) which (verdict n step seen types (AwaitWord i which) (datagram_met s (datagram_of (AwaitWord i which) number)))
await-word-ends n step seen types s i which number e l w big told h =
    let low : slice_index (datagram_met s (datagram_of (AwaitWord i which) number)).data_bytes 0 ≡ 0 = back s i 0x0502 10 number 0 e l (omega arith) (omega arith) ∙ (shows_itself s).sii_low in
    let high : slice_index (datagram_met s (datagram_of (AwaitWord i which) number)).data_bytes 1 ≡ 0
    = back s i 0x0502 10 number 1 e l (omega arith) (omega arith) ∙ ((shows_itself s).sii_high ∙ (ap (λ (x : Bool). from_bool x + 32 * from_bool s.sii.error + 128 * from_bool x) h.idle ∙ ap (λ (x : Bool). 0 + 32 * from_bool x + 128 * 0) h.no_error)) in
    let bytes : List ℕ = (datagram_met s (datagram_of (AwaitWord i which) number)).data_bytes in
    let word : IsWord (types i) which (long_at bytes 6)
    = word-back (types i) which s.sii.found (long_at bytes 6) big
    (λ n few is. long-spells bytes n few
    (λ j b. back s i 0x0502 10 number (6 + j) e l (omega arith) (omega (arith, b)) ∙ (moved j ∙ ((shows_itself s).sii_found j b ∙ ap (λ (x : ℕ). slice_index (to_le_bytes w32 x) j) is)))) h.found_is in (
      long_at bytes 6,
      word,
      if_true _ _ _ (eq-eqb _ 1 (register-shows s i 0x0502 (zeros 10) number 0 e l (omega arith) (omega arith)))
          ∙ word-ends (types i) seen i which bytes w told (omega (arith, low, high)) word,
    )
  where
    moved : (j : ℕ) → byte_at s (0x0502 + (6 + j)) ≡ byte_at s (0x0508 + j)
    moved j = let q : 0x0502 + (6 + j) ≡ 0x0508 + j = omega arith in ap (byte_at s) q

-- ---- a state that isn't there yet

low-state : (st : State) → (bit_at (state_number st) 4 == 1) ≡ false
low-state Init = refl
low-state _ = refl

other-state : (from to : State) → IsStepUp from to → (state_number from % 32 == state_number to) ≡ false
other-state Init PreOp up = refl
other-state PreOp SafeOp up = refl
other-state SafeOp Op up = refl
other-state _ _ up = absurd up

pub await-state-goes-on : (n step : ℕ) (seen : Device) (types : ℕ → WantedDevice) (s : SlaveState) (i : ℕ) (from to : State) (number : ℕ) → station_of s ≡ station i → i < 64 → IsStepUp from to → s.al.state ≡ from → s.al.error ≡ false
    → verdict n step seen types (AwaitState i to) (datagram_met s (datagram_of (AwaitState i to) number)) ≡ Again
await-state-goes-on n step seen types s i from to number e l up state clean =
    let b : slice_index (datagram_met s (datagram_of (AwaitState i to) number)).data_bytes 0 ≡ state_number from
    = back s i 0x0130 6 number 0 e l (omega arith) (omega arith) ∙ ((shows_itself s).status ∙ (ap (λ (x : State). state_number x + 16 * from_bool s.al.error) state ∙ (ap (λ (x : Bool). state_number from + 16 * from_bool x) clean ∙ more (state_number from)))) in
    if_true _ _ _ (eq-eqb _ 1 (register-shows s i 0x0130 (zeros 6) number 0 e l (omega arith) (omega arith)))
    ∙ (if_false _ _ _ (ap (λ (x : ℕ). bit_at x 4 == 1) b ∙ low-state from) ∙ if_false _ _ _ (ap (λ (x : ℕ). x % 32 == state_number to) b ∙ other-state from to up))
  where
    more : (n : ℕ) → n + 16 * 0 ≡ n
    more n = omega arith

-- an error in INIT that isn't acknowledged yet
pub await-clean-goes-on : (n step : ℕ) (seen : Device) (types : ℕ → WantedDevice) (s : SlaveState) (i : ℕ) (number : ℕ) → station_of s ≡ station i → i < 64 → s.al.state ≡ Init → s.al.error ≡ true
    → verdict n step seen types (AwaitCleanInit i) (datagram_met s (datagram_of (AwaitCleanInit i) number)) ≡ Again
await-clean-goes-on n step seen types s i number e l state bad =
    let b : slice_index (datagram_met s (datagram_of (AwaitCleanInit i) number)).data_bytes 0 ≡ 17
    = back s i 0x0130 6 number 0 e l (omega arith) (omega arith) ∙ ((shows_itself s).status ∙ (ap (λ (x : State). state_number x + 16 * from_bool s.al.error) state ∙ ap (λ (x : Bool). 1 + 16 * from_bool x) bad)) in
    if_true _ _ _ (eq-eqb _ 1 (register-shows s i 0x0130 (zeros 6) number 0 e l (omega arith) (omega arith)))
    ∙ if_false _ _ _ (ap (λ (x : ℕ). x % 32 == 1) b)

-- ---- a reply

-- the reply that is wanted lies in manager 1
pub record HasReply (hardware : Bool) (i : ℕ) (r : SdoRequest) (size : ℕ) (s : SlaveState) : Type 0 where
  pub raw : List ℕ
  pub long : length raw ≡ size
  pub mail : (manager_at s.managers 1).mail ≡ Some raw
  pub fits : raw_verdict hardware i r raw ≡ Next

-- what lies there is read
module _ (s : SlaveState) (i : ℕ) (b : Mailbox) (number : ℕ) (raw : List ℕ) (e : station_of s ≡ station i) (l : i < 64) (bx : Boxes b s) (mail : (manager_at s.managers 1).mail ≡ Some raw) (long : length raw ≡ b.send_size) where
  abbrev d : Datagram
  d = sent Fprd (station i) b.send_start (zeros b.send_size) number

  adp : adp_of d ≡ station_of s
  adp = omega (arith, e, l)

  w : window_of d ≡ asking b
  w = window-sent Fprd (station i) b.send_start (zeros b.send_size) number

  full : may_read (manager_at s.managers 1) ≡ true
  full = and_from _ _ bx.enabled (and_from _ _ bx.read (if_true _ _ _ bx.box ∙ ap is_some mail))

  pub counts : (datagram_met s d).counter ≡ 1
  counts = read-counter s d refl adp ∙ (ap (λ (x : Window). (0 + from_bool (some_byte_read s.managers x)) % 65536) w
      ∙ ap (λ (x : Bool). (0 + from_bool x) % 65536) (some-read b s true bx full))

  pub brought : (datagram_met s d).data_bytes ≡ raw
  brought = read-bytes s d refl adp ∙ (ap (λ (x : Window). updated x.bytes (byte_read s false x)) w ∙ raw-read b s raw bx mail long full)

pub await-reply-ends : (n step : ℕ) (seen : Device) (types : ℕ → WantedDevice) (s : SlaveState) (i : ℕ) (b : Mailbox) (r : SdoRequest) (number : ℕ) → station_of s ≡ station i → i < 64
    → Boxes b s → HasReply false i r b.send_size s
    → verdict n step seen types (AwaitReply i b r) (datagram_met s (datagram_of (AwaitReply i b r) number)) ≡ Next
await-reply-ends n step seen types s i b r number e l bx h =
    let sum = counts s i b number h.raw e l bx h.mail h.long in
    let bytes = brought s i b number h.raw e l bx h.mail h.long in
    if_false _ _ _ (ap (λ (x : ℕ). x == 0) sum)
    ∙ (if_true _ _ _ (ap (λ (x : ℕ). x == 1) sum)
    ∙ (ap (λ (x : List ℕ). message_verdict i r (message_read x)) bytes ∙ h.fits))

pub await-free-ends : (n step : ℕ) (seen : Device) (types : ℕ → WantedDevice) (s : SlaveState) (i : ℕ) (b : Mailbox) (r : SdoRequest) (number : ℕ) → station_of s ≡ station i → i < 64
    → Boxes b s → HasReply true i r b.send_size s
    → verdict n step seen types (AwaitFreeReply i b r) (datagram_met s (datagram_of (AwaitFreeReply i b r) number)) ≡ Next
await-free-ends n step seen types s i b r number e l bx h =
    let sum = counts s i b number h.raw e l bx h.mail h.long in
    let bytes = brought s i b number h.raw e l bx h.mail h.long in
    if_false _ _ _ (ap (λ (x : ℕ). x == 0) sum)
    ∙ (if_true _ _ _ (ap (λ (x : ℕ). x == 1) sum)
    ∙ (ap (λ (x : List ℕ). free_verdict i r x) bytes ∙ h.fits))

-- ---- what a slave says as it enters PREOP is read first, and set aside

pub record Greets (size : ℕ) (s : SlaveState) : Type 0 where
  pub raw : List ℕ
  pub long : length raw ≡ size
  pub mail : (manager_at s.managers 1).mail ≡ Some raw
  pub aside : is_aside raw ≡ true

pub await-free-goes-on : (n step : ℕ) (seen : Device) (types : ℕ → WantedDevice) (s : SlaveState) (i : ℕ) (b : Mailbox) (r : SdoRequest) (number : ℕ) → station_of s ≡ station i → i < 64
    → Boxes b s → Greets b.send_size s
    → (heard : Heard) × (verdict n step seen types (AwaitFreeReply i b r) (datagram_met s (datagram_of (AwaitFreeReply i b r) number)) ≡ Aside heard)
await-free-goes-on n step seen types s i b r number e l bx h =
    let sum = counts s i b number h.raw e l bx h.mail h.long in
    let bytes = brought s i b number h.raw e l bx h.mail h.long in (
      heard_in i h.raw,
      if_false _ _ _ (ap (λ (x : ℕ). x == 0) sum)
          ∙ (if_true _ _ _ (ap (λ (x : ℕ). x == 1) sum)
          ∙ (ap (λ (x : List ℕ). free_verdict i r x) bytes ∙ if_true _ _ _ h.aside)),
    )

-- and it is one that may be tried again
pub greets-repeat : (s : SlaveState) (i : ℕ) (b : Mailbox) (r : SdoRequest) (number : ℕ) → station_of s ≡ station i → i < 64 → Boxes b s → Greets b.send_size s → MayRepeat (AwaitFreeReply i b r) (datagram_met s (datagram_of (AwaitFreeReply i b r) number))
greets-repeat s i b r number e l bx h = inr (ap is_aside (brought s i b number h.raw e l bx h.mail h.long) ∙ h.aside)
