-- What the firmware checks before it grants a state (ETG.1000.6, "EtherCAT state machine"; that it compares the managers with
-- its type and with the PDOs that are assigned is the profile of the simulated slaves).
use Rattle.std.specs.Prelude.{ℕ, ◌+◌, ◌*◌, ◌%◌, ◌==◌, ◌&&◌, List, Bool, true, if◌then◌else◌, slice_index, Option, Some, None}
use Rattle.ec_bits.specs.Bits.{bytes_of_bits}
use Rattle.ec_device.specs.declared.slave_type.Mailbox.{Mailbox}
use Rattle.ec_regs.specs.Managers.{mailbox_out_control, mailbox_in_control, outputs_control, inputs_control}
use Rattle.ec_regs.specs.Memory.{al_control}
use Rattle.ec_device.specs.Objects.{bits_assigned}
use Rattle.ec_sync.specs.SyncManager.{SyncManager, is_enabled}
use Rattle.ec_al.specs.declared.transition.Checks.{Checks}
use Rattle.ec_coe.specs.Objects.{assigned}
use Rattle.ec_slave.specs.State.{SlaveState, manager_at}

-- bits 0..3 of the usual control bytes: a manager's mode and its direction
abbrev pub mailbox_out : ℕ
mailbox_out = mailbox_out_control % 16

abbrev pub mailbox_in : ℕ
mailbox_in = mailbox_in_control % 16

abbrev pub outputs_mode : ℕ
outputs_mode = outputs_control % 16

abbrev pub inputs_mode : ℕ
inputs_mode = inputs_control % 16

-- an enabled manager of this start, length, mode and direction
abbrev pub is_manager : SyncManager → ℕ → ℕ → ℕ → Bool
is_manager m start len mode =
    is_enabled m && ((m.settings.start == start) && ((m.settings.length == len) && (m.settings.control % 16 == mode)))

-- managers 0 and 1 are the type's mailboxes; a type without mailbox passes
abbrev pub mailbox_check : List SyncManager → Option Mailbox → Bool
mailbox_check ms None = true
mailbox_check ms (Some b) =
    is_manager (manager_at ms 0) b.receive_start b.receive_size mailbox_out && is_manager (manager_at ms 1) b.send_start b.send_size mailbox_in

-- a manager for so many bits of process data: it has their bytes; for none it isn't activated
abbrev pub process_check : SyncManager → ℕ → ℕ → ℕ → Bool
process_check m bits start mode =
    if bits == 0 then m.settings.activate % 2 == 0 else is_manager m start (bytes_of_bits bits) mode

unfoldable pub checks_of : SlaveState → Checks
checks_of s = record {
  mailbox = mailbox_check s.managers s.kind.mailbox;
  outputs = process_check (manager_at s.managers 2) (bits_assigned s.kind.outputs (assigned s.outs)) s.kind.out_start outputs_mode;
  inputs = process_check (manager_at s.managers 3) (bits_assigned s.kind.inputs (assigned s.ins)) s.kind.in_start inputs_mode;
}

-- the AL control word, two registers, the low byte first
abbrev pub control_word : SlaveState → ℕ
control_word s = slice_index s.memory al_control + 256 * slice_index s.memory (al_control + 1)
