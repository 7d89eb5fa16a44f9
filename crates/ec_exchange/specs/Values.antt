-- Where process data lie in a slave (ETG.1000.4, "Sync manager"; which manager has them is this project's profile), and what a
-- logical datagram brings there and takes from there as a whole.
use Rattle.std.specs.Prelude.{ℕ, ◌+◌, ◌-◌, ◌<◌, ◌≤◌, ◌≡◌, List, get_or, if◌then◌else◌, nat_lt, false, Some, None}
use Rattle.ec_bits.specs.Bits.{bit, overlay, within, zeros, bytes_of_bits}
use Rattle.ec_regs.specs.declared.manager.SyncManagerSettings.{SyncManagerSettings}
use Rattle.ec_regs.specs.Managers.{is_mailbox}
use Rattle.ec_regs.specs.Memory.{ram_start, ram_end}
use Rattle.ec_sync.specs.Buffer.{publishing}
use Rattle.ec_sync.specs.SyncManager.{SyncManager, no_manager}
use Rattle.ec_sync.specs.Governing.{governor}
use Rattle.ec_fmmu.specs.Applied.{LogicalSpan}
use Rattle.ec_fmmu.specs.Areas.{Area}

abbrev pub manager_at : List SyncManager → ℕ → SyncManager
manager_at ms n = get_or ms n no_manager

-- a buffered manager of this start and length, inside RAM
pub record IsBufferAt (m : SyncManagerSettings) (start len : ℕ) : Type 0 where
  pub start_is : m.start ≡ start
  pub length_is : m.length ≡ len
  pub no_mailbox : is_mailbox m ≡ false
  pub from_ram : ram_start ≤ start
  pub to_ram : start + len ≤ ram_end

-- `bits` bits that begin at an address, if there are any, are the value of manager n, which governs each byte of it
pub record LiesIn (ms : List SyncManager) (n start bits : ℕ) : Type 0 where
  pub governed : (k : ℕ) → k < bytes_of_bits bits → governor ms (start + k) ≡ Some n
  pub buffer : 0 < bits → IsBufferAt (manager_at ms n).settings start (bytes_of_bits bits)

-- `bits` bits that begin at an address lie in the RAM itself: no manager governs a byte of them
pub record LiesFree (ms : List SyncManager) (start bits : ℕ) : Type 0 where
  pub free : (k : ℕ) → k < bytes_of_bits bits → governor ms (start + k) ≡ None
  pub to_ram : start + bytes_of_bits bits ≤ ram_end

-- the outputs that the data has for the slave, and 0 up to the whole byte
abbrev pub outputs_from : Area → LogicalSpan → List ℕ → List ℕ
outputs_from a p bytes = overlay (zeros (bytes_of_bits a.outs)) (λ k. if nat_lt k a.outs then Some (bit bytes (a.out_at + k - p.from)) else None)

-- the data with the slave's inputs in their places, all else kept
abbrev pub inputs_into : Area → LogicalSpan → List ℕ → List ℕ → List ℕ
inputs_into a p inputs bytes = overlay bytes (λ i. if within a.in_at a.ins (p.from + i) then Some (bit inputs (p.from + i - a.in_at)) else None)

-- the ring has written the value, which is awaited no more
abbrev pub with_published : SyncManager → List ℕ → SyncManager
with_published m value = record m { buffer = publishing m.buffer value; awaited = false }
