-- The rule of the lowest manager, stated for all managers at once. A manager's value gets what a datagram brings to the bytes
-- that this manager governs among all; only a datagram that gets at such a byte writes or reads it; and no manager is
-- judged by what another has become.
use Rattle.std.specs.Prelude.{ℕ, ◌+◌, ◌*◌, ◌/◌, ◌≡◌, ◌==◌, ◌&&◌, List, [], ◌∷◌, Bool, false, if◌then◌else◌, Option, Some, None}
use Rattle.ec_bits.specs.Bits.{overlay, zeros}
use Rattle.ec_device.specs.declared.hardware.Hardware.{Hardware}
use Rattle.ec_regs.specs.declared.fmmu.FmmuSettings.{FmmuSettings}
use Rattle.ec_sync.specs.SyncManager.{SyncManager, configured}
use Rattle.ec_sync.specs.Governing.{governor}
use Rattle.ec_fmmu.specs.Applied.{LogicalSpan, touched_by_reading, touched_by_writing}
use Rattle.ec_slave.specs.Managers.{manager_after}
use Rattle.ec_slave.specs.Physical.{Window, touches, byte_from, updated, is_configured, settings_written, physical_managers}
use Rattle.ec_slave.specs.Logical.{brought, only_if, logical_managers}

abbrev pub is_governor : ℕ → Option ℕ → Bool
is_governor n None = false
is_governor n (Some k) = k == n

-- each manager, with its number, by itself
abbrev pub each_from : ℕ → (ℕ → SyncManager → SyncManager) → List SyncManager → List SyncManager
each_from n f [] = []
each_from n f (m ∷ ms) = f n m ∷ each_from (n + 1) f ms

-- the bytes that manager n governs among all
abbrev pub governs_among : List SyncManager → ℕ → ℕ → Bool
governs_among all n a = is_governor n (governor all a)

-- the value of manager n, of its start and length: the bytes that it governs among all, 0 elsewhere
abbrev pub value_among : List SyncManager → Window → ℕ → ℕ → ℕ → List ℕ
value_among all w n start len = updated (zeros len) (λ k. if governs_among all n (start + k) then byte_from w (start + k) else None)

-- this value bit by bit
abbrev pub bits_among : List SyncManager → List FmmuSettings → LogicalSpan → List ℕ → ℕ → ℕ → ℕ → List ℕ
bits_among all fs p bytes n start len =
    overlay (zeros len) (λ k. only_if (governs_among all n ((8 * start + k) / 8)) (brought fs p bytes (8 * start + k)))

-- a physical datagram: every manager against all as they were
abbrev pub PhysicalAgainstAll : Type 0
PhysicalAgainstAll =
    (o : Option Hardware) (reads writes : Bool) (w : Window) (ms : List SyncManager)
    → physical_managers o [] reads writes w 0 ms
    ≡ each_from 0 (λ n m. if writes && is_configured o w n then configured m (settings_written o w n m)
    else manager_after reads writes (touches w) (touches w) (governs_among ms n) (value_among ms w n) m) ms

-- a logical datagram: every manager against all as they were
abbrev pub LogicalAgainstAll : Type 0
LogicalAgainstAll =
    (reading writing : Bool) (fs : List FmmuSettings) (p : LogicalSpan) (bytes : List ℕ) (ms : List SyncManager)
    → logical_managers [] reading writing fs p bytes ms
    ≡ each_from 0 (λ n m. manager_after reading writing (touched_by_reading fs p) (touched_by_writing fs p) (governs_among ms n) (bits_among ms fs p bytes n) m) ms
