-- A fault of a slave's application (the profile of the simulated slaves): only in OP. It leads to SAFEOP with an error, and
-- manager 2, the outputs, gets its deactivate bit and is emptied. Firmware of real devices then awaits outputs, as ever when
-- SAFEOP is entered. INIT alone unlocks the manager, so it comes back to OP through INIT.
use Rattle.std.specs.Prelude.{slice_set, true, if◌then◌else◌}
use Rattle.ec_al.specs.Al as al
use Rattle.ec_al.specs.declared.state.State.TheVariants.{SafeOp, Op}
use Rattle.ec_sync.specs.SyncManager.{SyncManager, empty_manager}
use Rattle.ec_slave.specs.State.{SlaveState, manager_at}
use Rattle.ec_slave.specs.Serving.{awaited_by, awaited_if, has_outputs}

abbrev pub locked_empty : SyncManager → SyncManager
locked_empty m = empty_manager m.settings true

-- manager 2 then
abbrev pub outputs_lost : SlaveState → SyncManager
outputs_lost s = awaited_if (awaited_by s.kind.hardware (has_outputs s) Op SafeOp) (locked_empty (manager_at s.managers 2))

unfoldable pub faulted : SlaveState → SlaveState
faulted s =
    if al.is_operational s.al.state
    then record s { al = al.faulted s.al; managers = slice_set s.managers 2 (outputs_lost s) }
    else s
