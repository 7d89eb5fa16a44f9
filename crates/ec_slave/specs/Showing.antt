-- A read of a sync manager of a slave, on the ring or by its application, gets what a run of that manager shows. So it gets
-- only values that were published whole (`ec_sync`, specs/Runs.antt), whatever happened to the slave since it was switched on.
use Rattle.std.specs.Prelude.{ℕ, ◌+◌, ◌-◌, ◌*◌, ◌/◌, ◌≡◌, ◌≤◌, List, [], ◌∷◌, ◌++◌, Bool, if◌then◌else◌, bit_or, slice_index, Some, Contains}
use Rattle.ec_bits.specs.Bits.{bit}
use Rattle.ec_device.specs.declared.slave_type.Identity.{Identity}
use Rattle.ec_regs.specs.Memory.{ram_start}
use Rattle.ec_device.specs.Types.{SlaveKind}
use Rattle.ec_sync.specs.Buffer.{Got}
use Rattle.ec_sync.specs.SyncManager.{SyncManager, no_manager}
use Rattle.ec_sync.specs.Governing.{covers, governor}
use Rattle.ec_sync.specs.Runs.{Operation, RingRead, AppGet, run, history, visible_to}
use Rattle.ec_fmmu.specs.Sets.{target, readers}
use Rattle.ec_fmmu.specs.Applied.{LogicalSpan, touched_by_reading}
use Rattle.ec_slave.specs.State.{SlaveState, manager_at, fmmus, power_on}
use Rattle.ec_slave.specs.Physical.{Window, touches, byte_read}
use Rattle.ec_slave.specs.Logical.{read_bit}
use Rattle.ec_slave.specs.Application.{output_got}
use Rattle.ec_slave.specs.Steps.{Happening, Resets, after_one, steps_at}

-- ---- what a read brings

-- The manager shows a value to an operation, and x is what f finds in it.
pub record IsShown {X : Type 0} (m : SyncManager) (o : Operation) (f : List ℕ → X) (x : X) : Type 0 where
  pub value : List ℕ
  pub visible : visible_to m o ≡ Some value
  pub found : x ≡ f value

-- a byte after a read, if the datagram brought another: a broadcast joins the two
abbrev pub as_read : Bool → ℕ → ℕ → ℕ
as_read joining brought found = if joining then bit_or brought found else found

-- A read of a manager gets a part of the value that its run shows to that read: a byte of the RAM that the manager governs, which
-- a physical datagram brings back; a bit that a logical one does; a byte that the application gets of the outputs.
pub record ReadsShowTheRun : Type 0 where
  pub byte : (s : SlaveState) (joining : Bool) (w : Window) (k n x : ℕ) → ram_start ≤ w.from + k → governor s.managers (w.from + k) ≡ Some n
      → byte_read s joining w k ≡ Some x
      → IsShown (manager_at s.managers n) (RingRead (covers (touches w) (manager_at s.managers n)))
      (λ value. as_read joining (slice_index w.bytes k) (slice_index value (w.from + k - (manager_at s.managers n).settings.start))) x
  pub bit : (s : SlaveState) (p : LogicalSpan) (i q n : ℕ) (x : Bool) → target (readers (fmmus s)) (p.from + i) ≡ Some q → governor s.managers (q / 8) ≡ Some n
      → read_bit s.memory s.managers (fmmus s) p i ≡ Some x
      → IsShown (manager_at s.managers n) (RingRead (covers (touched_by_reading (fmmus s) p) (manager_at s.managers n)))
      (λ value. bit value (q - 8 * (manager_at s.managers n).settings.start)) x
  pub got : (s : SlaveState) (i : ℕ) (got : Got) → output_got s i ≡ Some got
      → IsShown (manager_at s.managers 2) (AppGet i) (λ value. slice_index value i) got.byte

-- ---- whatever happens

abbrev pub after_all : SlaveState → List Happening → SlaveState
after_all s [] = s
after_all s (h ∷ hs) = after_all (after_one s h) hs

-- The steps that led to manager n since the slave was switched on last; `before` led to it so far.
abbrev pub steps_behind : List Operation → SlaveState → Happening → ℕ → List Operation
steps_behind before s Resets n = []
steps_behind before s h n = before ++ steps_at s h n

abbrev pub steps_since : List Operation → SlaveState → List Happening → ℕ → List Operation
steps_since before s [] n = before
steps_since before s (h ∷ hs) n = steps_since (steps_behind before s h n) (after_one s h) hs n

-- These steps lead from a new manager to this one. What it shows to any reader was published as a whole by one of them,
-- or is what a new manager holds.
pub record ShowsWholeValues (operations : List Operation) (m : SyncManager) : Type 0 where
  pub leads : run no_manager operations ≡ m
  pub whole : (o : Operation) (value : List ℕ) → visible_to m o ≡ Some value
      → Contains (no_manager.buffer.published ∷ history no_manager operations) value

-- This holds for each manager of a slave that was switched on, whatever happened to it since: the steps are those that datagrams,
-- firmware, faults and application did to it.
abbrev pub SlavesShowWholeValues : Type 0
SlavesShowWholeValues =
    (kind : SlaveKind) (identity : Identity) (happenings : List Happening) (n : ℕ)
    → ShowsWholeValues (steps_since [] (power_on kind identity) happenings n) (manager_at (after_all (power_on kind identity) happenings).managers n)
