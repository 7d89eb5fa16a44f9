-- How a slave finds whether a logical datagram wrote a bit: in the memory itself, or in some manager's value.
use Rattle.std.specs.Prelude.{ℕ, ◌+◌, ◌*◌, ◌&&◌, ◌||◌, List, [], ◌∷◌, ◌++◌, Bool, false, is_some}
use Rattle.ec_bits.specs.Bits.{any_below}
use Rattle.ec_regs.specs.declared.fmmu.FmmuSettings.{FmmuSettings}
use Rattle.ec_regs.specs.Memory.{ram_end}
use Rattle.ec_sync.specs.SyncManager.{SyncManager, may_write}
use Rattle.ec_sync.specs.Governing.{covers}
use Rattle.ec_fmmu.specs.Applied.{LogicalSpan, touched_by_writing}
use Rattle.ec_slave.specs.Logical.{plain_bit}

-- a bit is brought to a value of this start and length, outside the bytes that `lower` govern
abbrev pub some_brought : List SyncManager → List FmmuSettings → LogicalSpan → List ℕ → ℕ → ℕ → Bool
some_brought lower fs p bytes start len = any_below (8 * len) (λ k. is_some (plain_bit lower fs p bytes (8 * start + k)))

abbrev pub some_manager_written : List SyncManager → List FmmuSettings → LogicalSpan → List ℕ → List SyncManager → Bool
some_manager_written lower fs p bytes [] = false
some_manager_written lower fs p bytes (m ∷ ms) =
    (covers (touched_by_writing fs p) m && (may_write m && some_brought lower fs p bytes m.settings.start m.settings.length))
    || some_manager_written (lower ++ m ∷ []) fs p bytes ms

abbrev pub some_plain_written : List SyncManager → List FmmuSettings → LogicalSpan → List ℕ → Bool
some_plain_written ms fs p bytes = any_below (8 * ram_end) (λ q. is_some (plain_bit ms fs p bytes q))
