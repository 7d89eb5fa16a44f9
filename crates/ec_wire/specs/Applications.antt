-- The applications of a segment. A choice of this project: after each frame, slave after slave makes a firmware step, and then its
-- application steps. The application sees its outputs as a whole and publishes its inputs as a whole.
use Rattle.std.specs.Prelude.{ℕ, ◌≡◌, ◌<◌, ◌==◌, ◌&&◌, List, [], length, slice_get, slice_index, Bool, true, false, if◌then◌else◌, Some, None}
use Rattle.ec_sync.specs.SyncManager.{SyncManager}
use Rattle.ec_slave.specs.State.{SlaveState, manager_at}
use Rattle.ec_slave.specs.Application.{get_size, put_size, with_manager}
use Rattle.ec_slave.specs.Serving.{served}

-- the outputs that a slave's application sees: those that were published last; none if it is denied them
abbrev pub outputs_seen : SlaveState → List ℕ
outputs_seen s = if get_size s == 0 then [] else (manager_at s.managers 2).buffer.published

abbrev pub without_view : SyncManager → SyncManager
without_view m = record m { buffer = record m.buffer { view = None } }

-- the application has read its outputs to the last byte, which closes its view
abbrev pub outputs_read : SlaveState → SlaveState
outputs_read s = if get_size s == 0 then s else with_manager s 2 (without_view (manager_at s.managers 2))

abbrev pub with_published : SyncManager → List ℕ → SyncManager
with_published m inputs = record m { buffer = record m.buffer { published = inputs; draft = None } }

-- the application has written its inputs to the last byte, which publishes them
abbrev pub inputs_written : SlaveState → List ℕ → SlaveState
inputs_written s inputs = if put_size s == 0 then s else with_manager s 3 (with_published (manager_at s.managers 3) inputs)

-- An application steps: from its outputs it makes as many bytes of inputs as it may publish. `may_produce` relates the outputs to the
-- inputs that it may make.
pub record HasStepped (may_produce : List ℕ → List ℕ → Type 0) (old new : SlaveState) : Type 0 where
  pub inputs : List ℕ
  pub size : length inputs ≡ put_size old
  pub made : may_produce (outputs_seen old) inputs
  pub slave : new ≡ inputs_written (outputs_read old) inputs

-- the application may read outputs or write inputs now
abbrev pub has_data : SlaveState → Bool
has_data s = if get_size s == 0 && (put_size s == 0) then false else true

-- A slave makes a firmware step, and then its application steps, if it has process data.
pub record IsServed (may_produce : List ℕ → List ℕ → Type 0) (old new : SlaveState) : Type 0 where
  pub idle : has_data (served old) ≡ false → new ≡ served old
  pub works : has_data (served old) ≡ true → HasStepped may_produce (served old) new

-- each slave is served
pub record AreServed (may_produce : List ℕ → List ℕ → Type 0) (old new : List SlaveState) : Type 0 where
  pub count : length new ≡ length old
  pub each : (i : ℕ) (s t : SlaveState) → slice_get old i ≡ Some s → slice_get new i ≡ Some t → IsServed may_produce s t

-- The application of `ecat loop` and `ecat segment` copies its outputs to its inputs, and sets the inputs beyond them to 0.
abbrev pub IsEchoed : List ℕ → List ℕ → Type 0
IsEchoed outputs inputs = (i : ℕ) → i < length inputs → slice_index inputs i ≡ slice_index outputs i
