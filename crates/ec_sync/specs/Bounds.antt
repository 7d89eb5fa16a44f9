-- A manager's bytes, decoded: what `Bounds::of` returns. `governs` and `in_first_buffer` say what a call returns of them.
use Rattle.std.specs.Prelude.{ℕ, ◌+◌, if◌then◌else◌}
use Rattle.ec_regs.specs.declared.manager.SyncManagerSettings.{SyncManagerSettings}
use Rattle.ec_regs.specs.Managers.{is_set, span}
use Rattle.ec_sync.specs.declared.bounds.Bounds.{Bounds}

abbrev pub span_end_of : SyncManagerSettings → ℕ
span_end_of m = if is_set m then m.start + span m else 0

abbrev pub bounds_of : SyncManagerSettings → Bounds
bounds_of m = record { first = m.start; value_end = m.start + m.length; span_end = span_end_of m; is_set = is_set m }
