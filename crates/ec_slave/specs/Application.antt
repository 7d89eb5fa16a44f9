-- What a slave's application reads and writes (ETG.1000.5, "process data"; byte by byte, the profile of the simulated
-- slaves): the outputs of manager 2 and the inputs of manager 3, in SAFEOP and in OP.
use Rattle.std.specs.Prelude.{ℕ, zero, suc, ◌&&◌, List, [], Bool, true, false, if◌then◌else◌, Option, Some, None, option_map, unwrap_or, slice_index, slice_set}
use Rattle.ec_regs.specs.Managers.{is_set, is_buffered}
use Rattle.ec_al.specs.declared.state.State.{State}
use Rattle.ec_al.specs.declared.state.State.TheVariants.{SafeOp, Op}
use Rattle.ec_sync.specs.Buffer.{Got}
use Rattle.ec_sync.specs.SyncManager.{SyncManager, may_app_put, may_app_get, app_put, app_got, after_get}
use Rattle.ec_slave.specs.State.{SlaveState, manager_at}

-- the states in which the application has process data
abbrev pub is_running : State → Bool
is_running SafeOp = true
is_running Op = true
is_running state = false

-- the last outputs that were published whole; none if manager 2 isn't a set buffered manager
abbrev pub outputs_shown : SlaveState → List ℕ
outputs_shown s =
    let m = manager_at s.managers 2 in
    if is_set m.settings && is_buffered m.settings then m.buffer.published else []

-- how many bytes of outputs the application may read now, 0 if every byte is denied
abbrev pub get_size : SlaveState → ℕ
get_size s = let m = manager_at s.managers 2 in if is_running s.al.state && may_app_get m then m.settings.length else 0

-- how many bytes of inputs it may write now, 0 if every byte is denied
abbrev pub put_size : SlaveState → ℕ
put_size s = let m = manager_at s.managers 3 in if is_running s.al.state && may_app_put m then m.settings.length else 0

abbrev pub with_manager : SlaveState → ℕ → SyncManager → SlaveState
with_manager s n m = record s { managers = slice_set s.managers n m }

-- the slave after its application wrote byte i of the inputs; none if it is denied
abbrev pub input_put : SlaveState → ℕ → ℕ → Option SlaveState
input_put s i x = if is_running s.al.state then option_map (with_manager s 3) (app_put (manager_at s.managers 3) i x) else None

-- the first n bytes of these inputs one after the other; one that is denied changes nothing
unfoldable pub inputs_put : SlaveState → List ℕ → ℕ → SlaveState
inputs_put s inputs zero = s
inputs_put s inputs (suc n) = unwrap_or (input_put (inputs_put s inputs n) n (slice_index inputs n)) (inputs_put s inputs n)

-- what the application gets of byte i of the outputs; none if it is denied
abbrev pub output_got : SlaveState → ℕ → Option Got
output_got s i = if is_running s.al.state then app_got (manager_at s.managers 2) i else None

-- the slave after it
abbrev pub output_taken : SlaveState → Option Got → SlaveState
output_taken s None = s
output_taken s (Some got) = with_manager s 2 (after_get (manager_at s.managers 2) (Some got))

-- the first n bytes of the outputs one after the other
unfoldable pub outputs_taken : SlaveState → ℕ → SlaveState
outputs_taken s zero = s
outputs_taken s (suc n) = output_taken (outputs_taken s n) (output_got (outputs_taken s n) n)
