-- Accesses that leave managers, or the whole slave, as they were.
use Rattle.std.proofs.Common.{ℕ, ◌+◌, ◌≡◌, true, false, refl, ◌∙◌, ap, if◌then◌else◌, List, [], ◌∷◌, ◌++◌, length, Option}
use Rattle.ec_bits.specs.Bits.{within}
use Rattle.ec_device.specs.declared.hardware.Hardware.{Hardware}
use Rattle.ec_sync.specs.SyncManager.{SyncManager, ring_read}
use Rattle.ec_slave.specs.Managers.{is_read_by, is_ungoverned}
use Rattle.ec_slave.specs.State.{SlaveState}
use Rattle.ec_slave.specs.Physical.{Window, physical_manager, physical_managers, physical_after}

-- a datagram that neither reads nor writes
managers-idle : (o : Option Hardware) (lower ms : List SyncManager) (w : Window) (n : ℕ) → physical_managers o lower false false w n ms ≡ ms
unfolding physical_manager
managers-idle o lower [] w n = refl
managers-idle o lower (m ∷ ms) w n = ap (λ xs. m ∷ xs) (managers-idle o (lower ++ m ∷ []) ms w (n + 1))

pub slave_idle : (s : SlaveState) (w : Window) → physical_after s false false w ≡ s
unfolding physical_after
slave_idle s w = rw (managers-idle s.kind.hardware [] s.managers w 0) refl

-- a read goes by where the bytes lie, and not by what they are
pub managers-reach : (o : Option Hardware) (lower ms : List SyncManager) (from n : ℕ) (b c : List ℕ) → length b ≡ length c
    → physical_managers o lower true false (record { from = from; bytes = b }) n ms ≡ physical_managers o lower true false (record { from = from; bytes = c }) n ms
unfolding physical_manager
managers-reach o lower [] from n b c e = refl
managers-reach o lower (m ∷ ms) from n b c e =
    ap (λ k. (if is_read_by (within from k) (is_ungoverned lower) m then ring_read m else m) ∷ physical_managers o (lower ++ m ∷ []) true false (record { from = from; bytes = b }) (n + 1) ms) e
    ∙ ap (λ xs. (if is_read_by (within from (length c)) (is_ungoverned lower) m then ring_read m else m) ∷ xs) (managers-reach o (lower ++ m ∷ []) ms from (n + 1) b c e)

pub slave_reach : (s : SlaveState) (from : ℕ) (b c : List ℕ) → length b ≡ length c
    → physical_after s true false (record { from = from; bytes = b }) ≡ physical_after s true false (record { from = from; bytes = c })
unfolding physical_after
slave_reach s from b c e = rw (managers-reach s.kind.hardware [] s.managers from 0 b c e) refl
