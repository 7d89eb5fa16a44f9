-- What holds of every manager.
use Rattle.std.specs.Prelude.{ℕ, ◌≡◌, List, length, Some}
use Rattle.ec_sync.specs.SyncManager.{SyncManager, buffer_length}

-- its published value, an open draft and an open view have as many bytes as its settings say
pub record IsManager (m : SyncManager) : Type 0 where
  pub published : length m.buffer.published ≡ buffer_length m.settings
  pub draft : (d : List ℕ) → m.buffer.draft ≡ Some d → length d ≡ buffer_length m.settings
  pub view : (v : List ℕ) → m.buffer.view ≡ Some v → length v ≡ buffer_length m.settings
