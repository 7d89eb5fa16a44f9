-- Whole runs of one manager: any list of accesses of the ring, bytes of the application, messages of the firmware and
-- changes of the settings, in any order, granted or denied. That each step is what the call of that name does is the law
-- `CallsAreSteps`.
use Rattle.std.specs.Prelude.{ℕ, zero, suc, ◌+◌, ◌==◌, ◌&&◌, ◌≡◌, ◌<◌, List, [], ◌∷◌, ◌++◌, length, Bool, true, false, if◌then◌else◌, slice_index, slice_set, Option, Some, None, is_some, unwrap_or, option_map, Contains}
use Rattle.std.specs.List.{All}
use Rattle.ec_bits.specs.Bits.{zeros}
use Rattle.ec_regs.specs.declared.manager.SyncManagerSettings.{SyncManagerSettings}
use Rattle.ec_regs.specs.Managers.{settings_of, manager_bytes, is_mailbox}
use Rattle.ec_sync.specs.Buffer.{Got}
use Rattle.ec_sync.specs.SyncManager.{SyncManager, no_manager, buffer_length, configured, empty_manager, zeros_published, may_read, may_write, may_app_put, may_app_get, ring_written, ring_read, visible, app_put, app_got, after_get, message_in, message_taken, may_put_message, padded, message_put, awaiting}
use Rattle.ec_sync.specs.Sound.{IsManager}
use Rattle.ec_sync.specs.Governing.{manager_byte, covers, after_ring_write, after_ring_read}

-- Of an access of the ring it counts whether it touches the first and the last byte, and the value that it leaves.
pub data Operation : Type 0 where
  Configure : SyncManagerSettings → Operation
  Lock : Bool → Operation
  Empty : Operation
  PublishZeros : Operation
  Await : Bool → Operation
  RingWrite : Bool → List ℕ → Operation
  RingRead : Bool → Operation
  AppPut : ℕ → ℕ → Operation
  AppGet : ℕ → Operation
  MessageTake : Operation
  MessagePut : List ℕ → Operation

-- the manager after one
abbrev pub step : SyncManager → Operation → SyncManager
step m (Configure settings) = configured m settings
step m (Lock locked) = record m { locked = locked }
step m Empty = empty_manager m.settings m.locked
step m PublishZeros = zeros_published m
step m (Await awaited) = awaiting m awaited
step m (RingWrite covered value) = if covered && may_write m then ring_written m value else m
step m (RingRead covered) = if covered && may_read m then ring_read m else m
step m (AppPut i x) = unwrap_or (app_put m i x) m
step m (AppGet i) = after_get m (app_got m i)
step m MessageTake = message_taken m
step m (MessagePut message) = message_put m message

-- the manager after all of them, the first one first
abbrev pub run : SyncManager → List Operation → SyncManager
run m [] = m
run m (o ∷ ops) = run (step m o) ops

-- ---- what is published as a whole

-- the draft that byte i goes into: byte 0 opens one
abbrev pub draft_for : SyncManager → ℕ → Option (List ℕ)
draft_for m i = if i == 0 then Some (zeros (length m.buffer.published)) else m.buffer.draft

abbrev pub only : Option (List ℕ) → List (List ℕ)
only None = []
only (Some value) = value ∷ []

-- the draft that a granted byte closes
abbrev pub closed_draft : SyncManager → ℕ → ℕ → Option (List ℕ)
closed_draft m i x =
    if is_some (app_put m i x) && (i + 1 == length m.buffer.published)
    then option_map (λ d. slice_set d i x) (draft_for m i)
    else None

-- The values that an operation publishes as a whole: zeros if it empties, the value of a granted ring write, a draft
-- that its last byte closes, and the message that the firmware puts.
abbrev pub publications : SyncManager → Operation → List (List ℕ)
publications m (Configure settings) = zeros (buffer_length settings) ∷ []
publications m (Lock locked) = []
publications m Empty = zeros (buffer_length m.settings) ∷ []
publications m PublishZeros = zeros (length m.buffer.published) ∷ []
publications m (Await awaited) = []
publications m (RingWrite covered value) = if covered && may_write m then value ∷ [] else []
publications m (RingRead covered) = []
publications m (AppPut i x) = only (closed_draft m i x)
publications m (AppGet i) = []
publications m MessageTake = []
publications m (MessagePut message) = if may_put_message m (length message) then padded m message ∷ [] else []

-- all that is published in a run, in order
abbrev pub history : SyncManager → List Operation → List (List ℕ)
history m [] = []
history m (o ∷ ops) = publications m o ++ history (step m o) ops

-- ---- what a reader gets

-- the value of which the application gets byte i, if that is granted: byte 0 opens a view
abbrev pub viewed : SyncManager → ℕ → Option (List ℕ)
viewed m i =
    if is_some (app_got m i)
    then (if i == 0 then Some m.buffer.published else m.buffer.view)
    else None

-- the whole value that a ring read or a message shows, and the value of which the application gets a byte
abbrev pub visible_to : SyncManager → Operation → Option (List ℕ)
visible_to m (RingRead covered) = if covered && may_read m then Some (visible m) else None
visible_to m (AppGet i) = viewed m i
visible_to m MessageTake = message_in m
visible_to m o = None

-- ---- the laws

-- Over every run from a new manager: what a reader gets was published as a whole, or is what a new manager holds.
abbrev pub OnlyWholeValues : Type 0
OnlyWholeValues =
    (ops : List Operation) (o : Operation) (value : List ℕ) → visible_to (run no_manager ops) o ≡ Some value
    → Contains (no_manager.buffer.published ∷ history no_manager ops) value

-- and the byte that the application gets is that value's
abbrev pub BytesOfTheView : Type 0
BytesOfTheView = (m : SyncManager) (i : ℕ) (got : Got) → app_got m i ≡ Some got → option_map (λ v. slice_index v i) (viewed m i) ≡ Some got.byte

-- the operation opens no view, no draft
abbrev pub OpensNoView : Operation → Type 0
OpensNoView (AppGet i) = ¬ (i ≡ 0)
OpensNoView o = Unit {0}

abbrev pub OpensNoDraft : Operation → Type 0
OpensNoDraft (AppPut i x) = ¬ (i ≡ 0)
OpensNoDraft o = Unit {0}

-- Whatever happens after the application got byte 0: each further byte of that view is of the value that was published
-- then, until byte 0 opens another.
abbrev pub ViewsStay : Type 0
ViewsStay =
    (m : SyncManager) (ops : List Operation) (i : ℕ) (value : List ℕ) → is_some (app_got m 0) ≡ true → All OpensNoView ops
    → viewed (run (step m (AppGet 0)) ops) (suc i) ≡ Some value → value ≡ m.buffer.published

-- a value with the bytes that the application put in a run, if each was granted
abbrev pub with_puts : SyncManager → List Operation → List ℕ → List ℕ
with_puts m [] value = value
with_puts m (AppPut i x ∷ ops) value = with_puts (step m (AppPut i x)) ops (if is_some (app_put m i x) then slice_set value i x else value)
with_puts m (o ∷ ops) value = with_puts (step m o) ops value

-- Whatever happens after the application put byte 0: a draft that is closed then has just the bytes that were put since,
-- and zeros elsewhere.
unfoldable pub DraftsAreTheBytesPut : Type 0
DraftsAreTheBytesPut =
    (m : SyncManager) (ops : List Operation) (x i y : ℕ) (value : List ℕ) → is_some (app_put m 0 x) ≡ true → All OpensNoDraft ops
    → closed_draft (run (step m (AppPut 0 x)) ops) (suc i) y ≡ Some value
    → value ≡ slice_set (with_puts (step m (AppPut 0 x)) ops (slice_set (zeros (length m.buffer.published)) 0 x)) (suc i) y

-- the value that was published last; v if none was
abbrev pub newest : List ℕ → List (List ℕ) → List ℕ
newest v [] = v
newest v (x ∷ xs) = newest x xs

-- the operation makes no mailbox of it
abbrev pub StaysBuffered : Operation → Type 0
StaysBuffered (Configure settings) = is_mailbox settings ≡ false
StaysBuffered o = Unit {0}

-- Over every run: what a buffered manager shows is the value that was published last, and no older one.
abbrev pub NewestIsVisible : Type 0
NewestIsVisible =
    (m : SyncManager) (ops : List Operation) → is_mailbox m.settings ≡ false → All StaysBuffered ops
    → newest m.buffer.published (history m ops) ≡ (run m ops).buffer.published

-- What the eight register bytes of a manager say, read one by one, are its settings; and they are the bytes of the
-- settings, but for the status (5) and the slave's side (7), which are no settings.
pub record RegistersReadBack : Type 0 where
  pub read_back : (m : SyncManager) → settings_of (manager_byte m) ≡ m.settings
  pub bytes : (m : SyncManager) (k : ℕ) → k < 8 → ¬ (k ≡ 5) → ¬ (k ≡ 7) → manager_byte m k ≡ slice_index (manager_bytes m.settings) k

-- each byte of a value put in turn, the first one as byte i
abbrev pub puts_from : ℕ → List ℕ → List Operation
puts_from i [] = []
puts_from i (x ∷ xs) = AppPut i x ∷ puts_from (i + 1) xs

-- n bytes got in turn, the first one as byte i
abbrev pub gets_from : ℕ → ℕ → List Operation
gets_from i zero = []
gets_from i (suc n) = AppGet i ∷ gets_from (i + 1) n

-- The contract of each call says that the manager goes by the step of that name. A call that takes all bytes of a
-- value goes by the steps of all of them.
pub record CallsAreSteps : Type 0 where
  pub configure : (m : SyncManager) (settings : SyncManagerSettings) → configured m settings ≡ step m (Configure settings)
  pub set_locked : (m : SyncManager) (locked : Bool) → record m { locked = locked } ≡ step m (Lock locked)
  pub empty : (m : SyncManager) → empty_manager m.settings m.locked ≡ step m Empty
  pub publish_zeros : (m : SyncManager) → zeros_published m ≡ step m PublishZeros
  pub await_value : (m : SyncManager) (awaited : Bool) → awaiting m awaited ≡ step m (Await awaited)
  pub ring_write : (m : SyncManager) (touched : ℕ → Bool) (written : ℕ → ℕ → List ℕ)
      → after_ring_write touched written m ≡ step m (RingWrite (covers touched m) (written m.settings.start m.settings.length))
  pub store : (m : SyncManager) (value : List ℕ) → may_write m ≡ true → ring_written m value ≡ step m (RingWrite true value)
  pub ring_read : (m : SyncManager) (touched : ℕ → Bool) → after_ring_read touched m ≡ step m (RingRead (covers touched m))
  pub app_put : (m : SyncManager) (i x : ℕ) → unwrap_or (app_put m i x) m ≡ step m (AppPut i x)
  pub app_put_all : (m : SyncManager) (value : List ℕ) → IsManager m → may_app_put m ≡ true → length value ≡ length m.buffer.published
      → record m { buffer = record m.buffer { published = value; draft = None } } ≡ run m (puts_from 0 value)
  pub app_get : (m : SyncManager) (i : ℕ) → after_get m (app_got m i) ≡ step m (AppGet i)
  pub app_get_all : (m : SyncManager) → IsManager m → may_app_get m ≡ true
      → record m { buffer = record m.buffer { view = None } } ≡ run m (gets_from 0 (length m.buffer.published))
  pub mailbox_take : (m : SyncManager) → message_taken m ≡ step m MessageTake
  pub mailbox_put : (m : SyncManager) (message : List ℕ) → message_put m message ≡ step m (MessagePut message)
