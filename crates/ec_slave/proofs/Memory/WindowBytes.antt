-- What one byte of a window gives.
use Rattle.std.proofs.Common.{ℕ, ◌+◌, ◌-◌, ◌<◌, ◌≤◌, ◌≡◌, ◌⊎◌, List, length, Bool, true, false, slice_index, get_or, Option, Some, None, bit_or, ◌&&◌, ◌||◌, not, is_none, nat_lt, refl, sym, ◌∙◌, ap, inl, inr, arith, if◌then◌else◌}
use Rattle.std.proofs.Math.Bool.{and-false}
use Rattle.std.proofs.lemmas.Bool.{cases_lt, ltb-true, lt-ltb, le-ltb, or_left, and_parts}
use Rattle.ec_bits.specs.Bits.{within}
use Rattle.ec_bits.proofs.Overlays.{or_true}
use Rattle.ec_bits.proofs.AnyLaws.{if_true, if_false, if_none, within_true, within_below, within_above}
use Rattle.ec_device.specs.declared.hardware.Hardware.{Hardware}
use Rattle.ec_regs.specs.Memory.{ram_start, ram_end, is_stored, takes_writes}
use Rattle.ec_sync.specs.SyncManager.{SyncManager, may_read, may_write}
use Rattle.ec_sync.specs.Governing.{covers, governor, in_first_buffer, visible_byte}
use Rattle.ec_slave.specs.State.{SlaveState, manager_at}
use Rattle.ec_slave.specs.Managers.{reads_under, writes_under}
use Rattle.ec_slave.specs.Physical.{Window, touches, register_byte, ram_byte, byte_at, byte_from, byte_read, may_read_byte, may_write_byte, is_missing, is_stored_at, updated_from}
use Rattle.ec_slave.proofs.Memory.MissingFmmus.{skipped}
use Rattle.ec_slave.proofs.Memory.UpdatedAlong.{updated_along, get-updated_outside, updated-alike, updated-none}

pub from-outside : (w : Window) (a : ℕ) → (a < w.from) ⊎ (w.from + length w.bytes ≤ a) → byte_from w a ≡ None
from-outside w a h =
    let t : within w.from (length w.bytes) a ≡ false = elim h [ inl x ↦ within_below _ _ _ x | inr y ↦ within_above _ _ _ y ] in
    if_false _ _ _ t

pub from-inside : (w : Window) (i : ℕ) → i < length w.bytes → byte_from w (w.from + i) ≡ Some (slice_index w.bytes i)
from-inside w i h =
    let e : w.from + i - w.from ≡ i = omega arith in
    if_true _ _ _ (within_true w.from (length w.bytes) (w.from + i) (omega arith) (omega arith)) ∙ ap (λ k. Some (slice_index w.bytes k)) e

-- what the memory itself keeps of a datagram
abbrev pub kept_byte : List SyncManager → Window → ℕ → Option ℕ
kept_byte ms w a = if is_stored_at ms a then byte_from w a else None

pub kept-inside : (ms : List SyncManager) (w : Window) (i : ℕ) → i < length w.bytes
    → kept_byte ms w (w.from + i) ≡ (if is_stored_at ms (w.from + i) then Some (slice_index w.bytes i) else None)
kept-inside ms w i h = ap (λ o. if is_stored_at ms (w.from + i) then o else None) (from-inside w i h)

pub kept-outside : (ms : List SyncManager) (w : Window) (a : ℕ) → (a < w.from) ⊎ (w.from + length w.bytes ≤ a) → kept_byte ms w a ≡ None
kept-outside ms w a h = if_none _ _ (from-outside w a h)

-- the same of a slave of a type, which may lack FMMUs
abbrev pub taken_byte : Option Hardware → List SyncManager → Window → ℕ → Option ℕ
taken_byte o ms w a = if is_missing o a then None else kept_byte ms w a

pub taken-outside : (o : Option Hardware) (ms : List SyncManager) (w : Window) (a : ℕ) → (a < w.from) ⊎ (w.from + length w.bytes ≤ a) → taken_byte o ms w a ≡ None
taken-outside o ms w a h = skipped (is_missing o a) (kept_byte ms w a) (kept-outside ms w a h)

-- a datagram of which the memory itself keeps all bytes
pub all-kept : (ms : List SyncManager) (w : Window) (memory : List ℕ) → ((a : ℕ) → w.from ≤ a → a < w.from + length w.bytes → is_stored_at ms a ≡ true)
    → updated_from 0 memory (byte_from w) ≡ updated_from 0 memory (kept_byte ms w)
all-kept ms w memory h = updated-alike memory (byte_from w) (kept_byte ms w) (λ a. elim (cases_lt a w.from) [
  | inl x ↦ from-outside w a (inl x) ∙ sym (kept-outside ms w a (inl x))
  | inr x ↦ elim (cases_lt a (w.from + length w.bytes)) [
    | inl y ↦ sym (if_true (is_stored_at ms a) (byte_from w a) None (h a (omega arith) y))
    | inr y ↦ from-outside w a (inr (omega arith)) ∙ sym (kept-outside ms w a (inr (omega arith)))
  ]
])

-- and one of which it keeps none
pub none-kept : (ms : List SyncManager) (w : Window) (memory : List ℕ) → ((a : ℕ) → w.from ≤ a → a < w.from + length w.bytes → is_stored_at ms a ≡ false)
    → memory ≡ updated_from 0 memory (kept_byte ms w)
none-kept ms w memory h = updated-none memory (kept_byte ms w) (λ a l. elim (cases_lt a w.from) [
  | inl x ↦ kept-outside ms w a (inl x)
  | inr x ↦ elim (cases_lt a (w.from + length w.bytes)) [
    | inl y ↦ if_false (is_stored_at ms a) (byte_from w a) None (h a (omega arith) y)
    | inr y ↦ kept-outside ms w a (inr (omega arith))
  ]
])

-- the byte that a read puts over data byte x
abbrev pub over : Bool → ℕ → ℕ → ℕ
over joining x y = if joining then bit_or x y else y

pub read-denied : (s : SlaveState) (joining : Bool) (w : Window) (i : ℕ) → may_read_byte s.managers (touches w) (w.from + i) ≡ false → byte_read s joining w i ≡ None
read-denied s joining w i h = if_false _ _ _ h

pub read-given : (s : SlaveState) (joining : Bool) (w : Window) (i : ℕ) (now : List ℕ) (y r : ℕ) → may_read_byte s.managers (touches w) (w.from + i) ≡ true
    → now ≡ updated_along i 0 w.bytes (byte_read s joining w) → y ≡ byte_at s (w.from + i) → r ≡ over joining (slice_index now i) y → byte_read s joining w i ≡ Some r
read-given s joining w i now y r h inv e g =
    let own : get_or now i 0 ≡ get_or w.bytes i 0 = ap (λ xs. get_or xs i 0) inv ∙ get-updated_outside i 0 w.bytes (byte_read s joining w) i (inr (omega arith)) in
    if_true _ _ _ h ∙ ap Some (sym (g ∙ (ap (λ x. over joining x y) own ∙ ap (over joining (slice_index w.bytes i)) e)))

pub from-at : (w : Window) (a : ℕ) → w.from ≤ a → a < w.from + length w.bytes → byte_from w a ≡ Some (slice_index w.bytes (a - w.from))
from-at w a l h = if_true _ _ _ (within_true w.from (length w.bytes) a l h)

-- the same of a byte of a part that begins at another place than 0
pub read-given-at : (s : SlaveState) (joining : Bool) (w : Window) (at k : ℕ) (now : List ℕ) (y r : ℕ) → may_read_byte s.managers (touches w) (w.from + (at + k)) ≡ true
    → now ≡ updated_along k at w.bytes (byte_read s joining w) → y ≡ byte_at s (w.from + (at + k)) → r ≡ over joining (slice_index now (at + k)) y → byte_read s joining w (at + k) ≡ Some r
read-given-at s joining w at k now y r h inv e g =
    let own : get_or now (at + k) 0 ≡ get_or w.bytes (at + k) 0
    = ap (λ xs. get_or xs (at + k) 0) inv ∙ get-updated_outside k at w.bytes (byte_read s joining w) (at + k) (inr (omega arith)) in
    if_true _ _ _ h ∙ ap Some (sym (g ∙ (ap (λ x. over joining x y) own ∙ ap (over joining (slice_index w.bytes (at + k))) e)))

-- what a read puts over byte i depends on no byte but that one
pub read-own : (s : SlaveState) (joining : Bool) (from : ℕ) (xs ys : List ℕ) (i : ℕ) → length xs ≡ length ys → slice_index xs i ≡ slice_index ys i
    → byte_read s joining (record { from = from; bytes = xs }) i ≡ byte_read s joining (record { from = from; bytes = ys }) i
read-own s joining from xs ys i long own =
    ap (λ (n : ℕ). if may_read_byte s.managers (within from n) (from + i) then Some (over joining (slice_index xs i) (byte_at s (from + i))) else None) long
    ∙ ap (λ (x : ℕ). if may_read_byte s.managers (within from (length ys)) (from + i) then Some (over joining x (byte_at s (from + i))) else None) own

-- bytes that are alike may be read or not alike
pub read-alike : (ms : List SyncManager) (touched : ℕ → Bool) (a b : ℕ) → nat_lt a ram_start ≡ nat_lt b ram_start → nat_lt a ram_end ≡ nat_lt b ram_end
    → governor ms a ≡ governor ms b → ((n : ℕ) → governor ms b ≡ Some n → in_first_buffer (manager_at ms n) a ≡ in_first_buffer (manager_at ms n) b)
    → may_read_byte ms touched a ≡ may_read_byte ms touched b
unfolding may_read_byte
read-alike ms touched a b low high g front =
    ap (λ (x : Bool). x || (nat_lt a ram_end && reads_under ms touched a (governor ms a))) low
    ∙ (ap (λ (x : Bool). nat_lt b ram_start || (x && reads_under ms touched a (governor ms a))) high
    ∙ (ap (λ (o : Option ℕ). nat_lt b ram_start || (nat_lt b ram_end && reads_under ms touched a o)) g
    ∙ ap (λ (x : Bool). nat_lt b ram_start || (nat_lt b ram_end && x)) (under (governor ms b) (λ n e. front n e))))
  where
    under : (o : Option ℕ) → ((n : ℕ) → o ≡ Some n → in_first_buffer (manager_at ms n) a ≡ in_first_buffer (manager_at ms n) b)
        → reads_under ms touched a o ≡ reads_under ms touched b o
    under None h = refl
    under (Some n) h = ap (λ (x : Bool). x && (covers touched (manager_at ms n) && may_read (manager_at ms n))) (h n refl)

-- a byte that is read lies in the memory
pub read-inside : (ms : List SyncManager) (touched : ℕ → Bool) (a : ℕ) → may_read_byte ms touched a ≡ true → a < ram_end
unfolding may_read_byte
read-inside ms touched a h = elim (or_true (nat_lt a ram_start) _ h) [
  | inl low ↦ let x = ltb-true a ram_start low in omega (arith, x)
  | inr ram ↦ ltb-true a ram_end (and_parts (nat_lt a ram_end) _ ram).0
]

-- every register is read
pub read-register : (ms : List SyncManager) (touched : ℕ → Bool) (a : ℕ) → a < ram_start → may_read_byte ms touched a ≡ true
unfolding may_read_byte
read-register ms touched a h = or_left (nat_lt a ram_start) _ (lt-ltb a ram_start h)

-- a register is written if it takes writes
pub write-register : (ms : List SyncManager) (busy : Bool) (touched : ℕ → Bool) (a : ℕ) → a < ram_start → may_write_byte ms busy touched a ≡ takes_writes busy a
unfolding may_write_byte
write-register ms busy touched a h =
    if_true (nat_lt a ram_start) (takes_writes busy a) (nat_lt a ram_end && writes_under ms touched a (governor ms a)) (lt-ltb a ram_start h)

-- a byte of the RAM is read, or written, as its governor lets it
pub read-governed : (ms : List SyncManager) (touched : ℕ → Bool) (a : ℕ) (o : Option ℕ) → ram_start ≤ a → a < ram_end → governor ms a ≡ o → may_read_byte ms touched a ≡ reads_under ms touched a o
unfolding may_read_byte
read-governed ms touched a o lo hi g =
    ap (λ (x : Bool). x || (nat_lt a ram_end && reads_under ms touched a (governor ms a))) (le-ltb a ram_start lo)
    ∙ (ap (λ (x : Bool). x && reads_under ms touched a (governor ms a)) (lt-ltb a ram_end hi) ∙ ap (reads_under ms touched a) g)

pub write-governed : (ms : List SyncManager) (busy : Bool) (touched : ℕ → Bool) (a : ℕ) (o : Option ℕ) → ram_start ≤ a → a < ram_end → governor ms a ≡ o → may_write_byte ms busy touched a ≡ writes_under ms touched a o
unfolding may_write_byte
write-governed ms busy touched a o lo hi g =
    if_false (nat_lt a ram_start) (takes_writes busy a) (nat_lt a ram_end && writes_under ms touched a (governor ms a)) (le-ltb a ram_start lo)
    ∙ (ap (λ (x : Bool). x && writes_under ms touched a (governor ms a)) (lt-ltb a ram_end hi) ∙ ap (writes_under ms touched a) g)

-- bytes of the RAM that are alike may be written or not alike
pub write-alike : (ms : List SyncManager) (busy : Bool) (touched : ℕ → Bool) (a b : ℕ) → ram_start ≤ a → ram_start ≤ b → nat_lt a ram_end ≡ nat_lt b ram_end
    → governor ms a ≡ governor ms b → ((n : ℕ) → governor ms b ≡ Some n → in_first_buffer (manager_at ms n) a ≡ in_first_buffer (manager_at ms n) b)
    → may_write_byte ms busy touched a ≡ may_write_byte ms busy touched b
unfolding may_write_byte
write-alike ms busy touched a b la lb high g front =
    if_false (nat_lt a ram_start) (takes_writes busy a) (nat_lt a ram_end && writes_under ms touched a (governor ms a)) (le-ltb a ram_start la)
    ∙ (ap (λ (x : Bool). x && writes_under ms touched a (governor ms a)) high
    ∙ (ap (λ (o : Option ℕ). nat_lt b ram_end && writes_under ms touched a o) g
    ∙ (ap (λ (x : Bool). nat_lt b ram_end && x) (under (governor ms b) (λ n e. front n e))
    ∙ sym (if_false (nat_lt b ram_start) (takes_writes busy b) (nat_lt b ram_end && writes_under ms touched b (governor ms b)) (le-ltb b ram_start lb)))))
  where
    under : (o : Option ℕ) → ((n : ℕ) → o ≡ Some n → in_first_buffer (manager_at ms n) a ≡ in_first_buffer (manager_at ms n) b)
        → writes_under ms touched a o ≡ writes_under ms touched b o
    under None h = refl
    under (Some n) h = ap (λ (x : Bool). x && (covers touched (manager_at ms n) && may_write (manager_at ms n))) (h n refl)

-- and are kept in the memory itself or not
pub kept-alike : (ms : List SyncManager) (a b : ℕ) → ram_start ≤ a → ram_start ≤ b → nat_lt a ram_end ≡ nat_lt b ram_end → governor ms a ≡ governor ms b
    → is_stored_at ms a ≡ is_stored_at ms b
unfolding is_stored_at
kept-alike ms a b la lb high g =
    if_false (nat_lt a ram_start) (is_stored a && not (within 0x0800 32 a)) (nat_lt a ram_end && is_none (governor ms a)) (le-ltb a ram_start la)
    ∙ (ap (λ (x : Bool). x && is_none (governor ms a)) high
    ∙ (ap (λ (o : Option ℕ). nat_lt b ram_end && is_none o) g
    ∙ sym (if_false (nat_lt b ram_start) (is_stored b && not (within 0x0800 32 b)) (nat_lt b ram_end && is_none (governor ms b)) (le-ltb b ram_start lb))))

-- the memory itself keeps no register of a manager
pub manager-unkept : (ms : List SyncManager) (a : ℕ) → 0x0800 ≤ a → a < 0x0820 → is_stored_at ms a ≡ false
unfolding is_stored_at
manager-unkept ms a l h =
    if_true (nat_lt a ram_start) (is_stored a && not (within 0x0800 32 a)) (nat_lt a ram_end && is_none (governor ms a)) (lt-ltb a ram_start (omega arith))
    ∙ (ap (λ (x : Bool). is_stored a && not x) (within_true 0x0800 32 a l (omega arith)) ∙ and-false (is_stored a))

-- a byte that is kept lies in the memory
pub kept-below : (ms : List SyncManager) (a : ℕ) → is_stored_at ms a ≡ true → a < ram_end
unfolding is_stored_at
kept-below ms a h = elim (cases_lt a ram_start) [
  | inl x ↦ omega (arith, x)
  | inr x ↦
      let e : (nat_lt a ram_end && is_none (governor ms a)) ≡ true
      = sym (if_false (nat_lt a ram_start) (is_stored a && not (within 0x0800 32 a)) (nat_lt a ram_end && is_none (governor ms a)) (le-ltb a ram_start x)) ∙ h in
      ltb-true a ram_end (and_parts (nat_lt a ram_end) (is_none (governor ms a)) e).0
]

-- ---- what the RAM reads

pub plain-byte : (s : SlaveState) (a : ℕ) → ram_start ≤ a → governor s.managers a ≡ None → byte_at s a ≡ slice_index s.memory a
unfolding byte_at
plain-byte s a l g =
    if_false (nat_lt a ram_start) (register_byte s a) (ram_byte s.memory s.managers a (governor s.managers a)) (le-ltb a ram_start l)
    ∙ ap (ram_byte s.memory s.managers a) g

pub governed-byte : (s : SlaveState) (a n : ℕ) → ram_start ≤ a → governor s.managers a ≡ Some n → byte_at s a ≡ visible_byte (manager_at s.managers n) a
unfolding byte_at
governed-byte s a n l g =
    if_false (nat_lt a ram_start) (register_byte s a) (ram_byte s.memory s.managers a (governor s.managers a)) (le-ltb a ram_start l)
    ∙ ap (ram_byte s.memory s.managers a) g
