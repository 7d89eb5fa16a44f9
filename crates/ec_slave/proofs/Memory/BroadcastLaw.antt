-- Physical datagrams that leave a slave as it was.
use Rattle.std.proofs.Common.{ℕ, ◌+◌, ◌%◌, ◌<◌, ◌≤◌, ◌≡◌, ◌==◌, ◌||◌, Bool, true, false, Some, refl, ◌∙◌, ap, inl, inr, arith, is_some, List, [], ◌∷◌, ◌++◌, length, slice_index, nat_lt, nat_le, Option}
use Rattle.std.specs.Prelude.{bit_or}
use Rattle.std.proofs.lemmas.Bool.{and_left, and_right, and_parts, cases_Bool, or_left, lt-ltb, leb-true}
use Rattle.ec_bits.proofs.AnyLaws.{any_below_from, any_below_none, if_none, if_true, if_false, within_above}
use Rattle.ec_device.specs.declared.hardware.Hardware.{Hardware}
use Rattle.ec_device.specs.Hardware.{manager_number}
use Rattle.ec_regs.specs.declared.manager.SyncManagerSettings.{SyncManagerSettings}
use Rattle.ec_regs.specs.Memory.{manager_start, ram_start, sync_managers}
use Rattle.ec_regs.specs.Managers.{is_set, is_mailbox, is_buffered, is_master_written, is_master_read}
use Rattle.ec_frame.specs.Datagram.{ado_of}
use Rattle.ec_sync.specs.SyncManager.{SyncManager, may_read, may_write}
use Rattle.ec_slave.specs.State.{SlaveState}
use Rattle.ec_slave.specs.Managers.{is_read_by, is_written_by, is_ungoverned, manager_after}
use Rattle.ec_slave.specs.Physical.{Window, is_configured, setting_for, touches, byte_at, byte_read, may_read_byte, some_byte_read, updated, physical_value, physical_manager, physical_managers, physical_after, physical_met}
use Rattle.ec_slave.specs.Meeting.{meets, window_of}
use Rattle.ec_slave.specs.LogicalLaws.{BroadcastLaw}
use Rattle.ec_slave.proofs.Memory.AgainstAll.{updated_alike}
use Rattle.ec_slave.proofs.Memory.WindowBytes.{from-outside}

-- a set manager begins in the RAM
pub set-start : (m : SyncManagerSettings) → is_set m ≡ true → ram_start ≤ m.start
unfolding is_set
set-start m h =
    let a = (and_parts (m.activate % 2 == 1) _ h).1 in
    let b = (and_parts (is_mailbox m || is_buffered m) _ a).1 in
    let c = (and_parts (is_master_written m || is_master_read m) _ b).1 in
    let d = (and_parts (nat_lt 0 m.length) _ c).1 in
    leb-true ram_start m.start (and_parts (nat_le ram_start m.start) _ d).0

-- a datagram on registers alone reads no manager
registers-covered : (w : Window) (own : ℕ → Bool) (m : SyncManager) → w.from + length w.bytes ≤ ram_start → is_read_by (touches w) own m ≡ false
registers-covered w own m l = elim (cases_Bool (is_set m.settings)) [
  | inl t ↦ and_right (may_read m) _ (and_left _ _ (and_left _ _ (within_above w.from (length w.bytes) m.settings.start (let x = set-start m.settings t in omega arith))))
  | inr f ↦ and_left (may_read m) _ (and_left _ _ (and_left _ _ f))
]

-- it leaves every manager as it was, if it only reads
pub managers-read : (o : Option Hardware) (lower ms : List SyncManager) (reads : Bool) (w : Window) (n : ℕ) → w.from + length w.bytes ≤ ram_start → physical_managers o lower reads false w n ms ≡ ms
unfolding physical_manager
managers-read o lower [] reads w n l = refl
managers-read o lower (m ∷ ms) reads w n l =
    let one : manager_after reads false (touches w) (touches w) (is_ungoverned lower) (physical_value lower w) m ≡ m
    = if_false _ _ _ (and_right reads _ (registers-covered w (is_ungoverned lower) m l)) in
    ap (λ x. x ∷ physical_managers o (lower ++ m ∷ []) reads false w (n + 1) ms) one
    ∙ ap (λ xs. m ∷ xs) (managers-read o (lower ++ m ∷ []) ms reads w (n + 1) l)

-- registers belong to no manager
pub registers-idle : (s : SlaveState) (w : Window) → w.from + length w.bytes ≤ ram_start → physical_after s true false w ≡ s
unfolding physical_after
registers-idle s w l = rw (managers-read s.kind.hardware [] s.managers true w 0 l) refl

-- a write below the managers' registers leaves every manager as it was
low-unset : (o : Option Hardware) (w : Window) (n : ℕ) → w.from + length w.bytes ≤ sync_managers → is_configured o w n ≡ false
low-unset o w n l = any_below_none 8 (λ k. is_some (setting_for o w n k)) (λ k h. ap is_some (if_none _ _ (from-outside w (manager_start (manager_number o n) + k) (inr (omega arith)))))

low-covered : (w : Window) (own : ℕ → Bool) (m : SyncManager) → w.from + length w.bytes ≤ ram_start → is_written_by (touches w) own m ≡ false
low-covered w own m l = elim (cases_Bool (is_set m.settings)) [
  | inl t ↦ and_right (may_write m) _ (and_left _ _ (and_left _ _ (within_above w.from (length w.bytes) m.settings.start (let x = set-start m.settings t in omega arith))))
  | inr f ↦ and_left (may_write m) _ (and_left _ _ (and_left _ _ f))
]

pub managers-write : (o : Option Hardware) (lower ms : List SyncManager) (reads : Bool) (w : Window) (n : ℕ) → w.from + length w.bytes ≤ sync_managers → physical_managers o lower reads true w n ms ≡ ms
unfolding physical_manager
managers-write o lower [] reads w n l = refl
managers-write o lower (m ∷ ms) reads w n l =
    let low : w.from + length w.bytes ≤ ram_start = omega arith in
    let own = is_ungoverned lower in
    let one : physical_manager o lower reads true w n m ≡ m
    = if_false _ _ _ (low-unset o w n l) ∙ (if_false _ _ _ (low-covered w own m low) ∙ if_false _ _ _ (and_right reads _ (registers-covered w own m low))) in
    ap (λ x. x ∷ physical_managers o (lower ++ m ∷ []) reads true w (n + 1) ms) one
    ∙ ap (λ xs. m ∷ xs) (managers-write o (lower ++ m ∷ []) ms reads w (n + 1) l)

-- every register reads
registers-read : (s : SlaveState) (w : Window) (k : ℕ) → w.from + length w.bytes ≤ ram_start → k < length w.bytes → may_read_byte s.managers (touches w) (w.from + k) ≡ true
unfolding may_read_byte
registers-read s w k l i = or_left _ _ (lt-ltb (w.from + k) ram_start (omega arith))

pub broadcast_read : BroadcastLaw
unfolding meets physical_met
broadcast_read s d c n l =
    let w = window_of d in
    let some : some_byte_read s.managers w ≡ true = any_below_from (length d.data_bytes) (λ k. may_read_byte s.managers (touches w) (ado_of d + k)) 0 n (registers-read s w 0 l n) in
    let bytes : updated d.data_bytes (byte_read s true w) ≡ updated d.data_bytes (λ k. Some (bit_or (slice_index d.data_bytes k) (byte_at s (ado_of d + k))))
    = updated_alike 0 d.data_bytes _ _ (λ k i. if_true _ _ _ (registers-read s w k l (omega arith))) in
    rw (c, registers-idle s w l, some, bytes) refl
