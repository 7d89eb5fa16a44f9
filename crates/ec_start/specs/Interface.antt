-- What the crates above may know of start-ups: their words, handed on, and laws: which plans can be started up, and how long the
-- script of one gets.
use Rattle.std.specs.Prelude.{ℕ, ◌+◌, ◌*◌, ◌<◌, ◌≤◌, ◌≡◌, List, length, get_or, false}
use Rattle.ec_regs.specs.Fmmus.{no_fmmu}
use Rattle.ec_link.specs.Interface.{AreListed, IsOfItsType}
use Rattle.ec_link.specs.Meaning.{no_slave}
use Rattle.ec_link.specs.Sound.{AreManagers}
use Rattle.ec_link.specs.declared.settings.SlavePlan.{SlavePlan}
pub use Rattle.ec_frame.specs.Names.{name_datagram}
pub use Rattle.ec_start.specs.Actions.{datagram_of, frame_of, request_command, request_value, station, word_address_of, at, filled, request_bytes, request_message, sent}
pub use Rattle.ec_start.specs.Planned.{IsFmmu, IsStartable, AreMailboxes, IsRequest, IsTransfer, AreRequests, HasFewAssigned}
pub use Rattle.ec_start.specs.Plans.{fmmu_at, settings_at}
pub use Rattle.ec_start.specs.Feeding.{feed_over, feeds_from, feeds_of}
pub use Rattle.ec_start.specs.Running.{StartState, step_of, is_fed, feed_or, action_of, wanted_of, type_of, polled, judged, taken, given_up_by, max_polls, asked, asked_by, next_frame, next_frame_by, sending, second, is_ended, is_sent, last_number, IsStartTaken, advanced, with_identity, Shape, shape, IsStartAnswer, IsOutstanding, is_accepted}
pub use Rattle.ec_start.specs.Scripts.{script, is_hardware, settled, opened, closed, all_cleared, register_of, set_manager, set_fmmu, requests, downloads, entries_read, pdo_read, slots_written, assignment_written, parameter_value, parameters_written, slots_read, assignment_read, assignment_of, pdo_requests, reply_awaited, named, identified, mailbox_set, raised, exchanged, talked, manager_set, fmmu_set, mapped, each_slave, cleared, phases, uploads}
pub use Rattle.ec_start.specs.Verdicts.{verdict, counted, word_verdict, state_verdict, init_state_verdict, clean_init_verdict, reply_verdict, word_at, long_at, is_device, with_word, message_verdict, upload_verdict, value_verdict, is_emergency, emergency_in, heard_in, free_reply_verdict, size_asked, free_message_verdict, free_verdict}

-- each FMMU can be written to a register and read back, and one that isn't active is none
pub record HasPlainFmmus (x : SlavePlan) : Type 0 where
  pub readable : (n : ℕ) → n < 4 → IsFmmu (fmmu_at x.fmmus n)
  pub idle : (n : ℕ) → n < 2 → (fmmu_at x.fmmus n).active ≡ false → fmmu_at x.fmmus n ≡ no_fmmu

-- A slave of a plan, of a type of its table, can be started up.
abbrev pub PlannedSlavesAreStartable : Type 0
PlannedSlavesAreStartable = (x : SlavePlan) → AreManagers x → AreListed x → IsOfItsType x → HasPlainFmmus x → IsStartable x

-- Its script is short: a request has a subindex of one byte, so there are few of them.
abbrev pub ScriptsAreShort : Type 0
ScriptsAreShort = (ps : List SlavePlan) → ((k : ℕ) → k < length ps → IsStartable (get_or ps k no_slave)) → length (script ps) ≤ 10 + 400400 * length ps
