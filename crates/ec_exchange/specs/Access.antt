-- What an access of the ring, physical or logical, gets at if sync managers share bytes (ETG.1000.4, "Sync manager"; that the
-- lowest manager has a byte is this project's profile).
use Rattle.std.specs.Prelude.{ℕ, ◌+◌, ◌&&◌, List, Bool, is_none}
use Rattle.ec_bits.specs.Bits.{any_below}
use Rattle.ec_sync.specs.SyncManager.{SyncManager, may_read, may_write}
use Rattle.ec_sync.specs.Governing.{covers, governor}

-- a byte that no manager of these governs
abbrev pub is_ungoverned : List SyncManager → ℕ → Bool
is_ungoverned ms a = is_none (governor ms a)

-- An access gets at a manager: it touches the first and the last byte of its value, and a byte of it that this manager
-- itself governs. `own` says which bytes those are.
abbrev pub gets_at : (ℕ → Bool) → (ℕ → Bool) → SyncManager → Bool
gets_at touched own m =
    covers touched m && any_below m.settings.length (λ k. touched (m.settings.start + k) && own (m.settings.start + k))

-- it gets at the manager, and may write it
abbrev pub is_written_by : (ℕ → Bool) → (ℕ → Bool) → SyncManager → Bool
is_written_by touched own m = may_write m && gets_at touched own m

-- it gets at the manager, and may read it
abbrev pub is_read_by : (ℕ → Bool) → (ℕ → Bool) → SyncManager → Bool
is_read_by touched own m = may_read m && gets_at touched own m
