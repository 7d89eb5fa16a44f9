-- One sync manager (ETG.1000.4, "Sync manager"). Who may do what, and what is left after it; if the standard leaves
-- it free, the rule is the profile of the simulated slaves.
use Rattle.std.specs.Prelude.{ℕ, ◌+◌, ◌-◌, ◌<◌, ◌≤◌, ◌&&◌, not, List, [], ◌++◌, length, Bool, true, false, if◌then◌else◌, nat_le, Option, Some, None, is_some, is_none, option_map, unwrap_or}
use Rattle.ec_bits.specs.Bits.{zeros}
use Rattle.ec_regs.specs.Memory.{ram_start, ram_end}
use Rattle.ec_regs.specs.declared.manager.SyncManagerSettings.{SyncManagerSettings}
use Rattle.ec_regs.specs.Managers.{no_settings, is_set, is_mailbox, is_buffered, is_master_written, is_master_read}
use Rattle.ec_sync.specs.Buffer.{Buffer, Got, emptied_buffer, publishing, app_written, app_read}

-- `locked` is its deactivate bit, which the slave's side sets. `buffer` counts if it is set and buffered, `mail`,
-- the message of a full mailbox, if it is a mailbox. `awaited` says that the firmware awaits the ring's next value.
pub record SyncManager : Type 0 where
  pub settings : SyncManagerSettings
  pub locked : Bool
  pub buffer : Buffer
  pub awaited : Bool
  pub mail : Option (List ℕ)

-- ---- empty

-- the length of its published value in bytes: 0 if it isn't a set buffered manager
abbrev pub buffer_length : SyncManagerSettings → ℕ
buffer_length m = if is_set m && is_buffered m then m.length else 0

-- zeros, no draft, no view, no message, nothing awaited
abbrev pub empty_manager : SyncManagerSettings → Bool → SyncManager
empty_manager m locked = record { settings = m; locked = locked; buffer = emptied_buffer (buffer_length m); awaited = false; mail = None }

-- the place of a set manager's value: a byte at least, inside the RAM
pub record LiesInRam (m : SyncManagerSettings) : Type 0 where
  pub some : 0 < m.length
  pub from : ram_start ≤ m.start
  pub to : m.start + m.length ≤ ram_end

-- New settings empty it. It stays locked or not, and a value that is awaited stays awaited.
abbrev pub configured : SyncManager → SyncManagerSettings → SyncManager
configured m settings = record (empty_manager settings m.locked) { awaited = m.awaited }

-- as the power comes on
abbrev pub no_manager : SyncManager
no_manager = empty_manager no_settings false

-- set, and not deactivated: a locked manager denies every access
abbrev pub is_enabled : SyncManager → Bool
is_enabled m = is_set m.settings && not m.locked

-- ---- the ring

-- whether a datagram that touches the first and the last byte may read it: a mailbox only while it is full
abbrev pub may_read : SyncManager → Bool
may_read m = is_enabled m && (is_master_read m.settings && (if is_mailbox m.settings then is_some m.mail else true))

-- whether a datagram that touches the first and the last byte may write it: a mailbox only while it is empty
abbrev pub may_write : SyncManager → Bool
may_write m = is_enabled m && (is_master_written m.settings && (if is_mailbox m.settings then is_none m.mail else true))

-- what a datagram reads: the message, or the last value that was published whole
abbrev pub visible : SyncManager → List ℕ
visible m = if is_mailbox m.settings then unwrap_or m.mail [] else m.buffer.published

-- after a ring write of a whole value: a mailbox is full of it, a buffered manager has published it, and it is awaited no more
abbrev pub ring_written : SyncManager → List ℕ → SyncManager
ring_written m value =
    if is_mailbox m.settings
    then record m { mail = Some value }
    else record m { buffer = publishing m.buffer value; awaited = false }

-- after a ring read: a mailbox is empty
abbrev pub ring_read : SyncManager → SyncManager
ring_read m = if is_mailbox m.settings then record m { mail = None } else m

-- ---- the slave's side

-- the application writes what the ring reads, and reads what the ring writes
abbrev pub may_app_put : SyncManager → Bool
may_app_put m = is_enabled m && (is_buffered m.settings && is_master_read m.settings)

abbrev pub may_app_get : SyncManager → Bool
may_app_get m = is_enabled m && (is_buffered m.settings && is_master_written m.settings)

-- the application writes byte i: none if it is denied
abbrev pub app_put : SyncManager → ℕ → ℕ → Option SyncManager
app_put m i x = if may_app_put m then option_map (λ b. record m { buffer = b }) (app_written m.buffer i x) else None

-- the application reads byte i: none if it is denied
abbrev pub app_got : SyncManager → ℕ → Option Got
app_got m i = if may_app_get m then app_read m.buffer i else None

-- the manager after it
abbrev pub after_get : SyncManager → Option Got → SyncManager
after_get m None = m
after_get m (Some got) = record m { buffer = got.buffer }

-- the message that the firmware finds in a mailbox that the ring writes; none if it is empty or access is denied
abbrev pub message_in : SyncManager → Option (List ℕ)
message_in m = if is_enabled m && (is_mailbox m.settings && is_master_written m.settings) then m.mail else None

-- the firmware takes it out
abbrev pub message_taken : SyncManager → SyncManager
message_taken m = if is_some (message_in m) then record m { mail = None } else m

-- whether the firmware may put a message of so many bytes: an empty mailbox that the ring reads, and no longer than it
abbrev pub may_put_message : SyncManager → ℕ → Bool
may_put_message m n =
    is_enabled m && (is_mailbox m.settings && (is_master_read m.settings && (is_none m.mail && nat_le n m.settings.length)))

-- the message, with zeros behind it to the mailbox's length
abbrev pub padded : SyncManager → List ℕ → List ℕ
padded m message = message ++ zeros (m.settings.length - length message)

-- the firmware puts it
abbrev pub message_put : SyncManager → List ℕ → SyncManager
message_put m message = if may_put_message m (length message) then record m { mail = Some (padded m message) } else m

-- the firmware awaits the ring's next value from now on, or none
abbrev pub awaiting : SyncManager → Bool → SyncManager
awaiting m awaited = record m { awaited = awaited }

-- zeros are published if there is a published value; an open draft and an open view stay
abbrev pub zeros_published : SyncManager → SyncManager
zeros_published m = record m { buffer = publishing m.buffer (zeros (length m.buffer.published)) }
