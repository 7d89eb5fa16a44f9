-- What becomes of messages: the law of a mailbox over whole runs (ETG.1000.4, "Sync manager", mailbox mode: a full mailbox
-- isn't written, and a read empties it).
use Rattle.std.specs.Prelude.{ℕ, ◌&&◌, ◌≡◌, List, [], ◌∷◌, ◌++◌, length, if◌then◌else◌, Option, Some, None, option_map}
use Rattle.ec_regs.specs.Managers.{is_mailbox}
use Rattle.ec_sync.specs.SyncManager.{SyncManager, no_manager, may_write, padded, may_put_message}
use Rattle.ec_sync.specs.Runs.{Operation, Configure, Empty, RingWrite, RingRead, MessageTake, MessagePut, step, visible_to}

pub data MailEvent : Type 0 where
  -- the ring or the firmware puts a message into the mailbox
  Put : List ℕ → MailEvent
  -- the ring or the firmware gets it
  Taken : List ℕ → MailEvent
  -- the manager is emptied or configured
  Cleared : MailEvent

-- what an operation does to the message of a mailbox, if anything
abbrev pub mail_event : SyncManager → Operation → Option MailEvent
mail_event m (Configure settings) = Some Cleared
mail_event m Empty = Some Cleared
mail_event m (RingWrite covered value) = if is_mailbox m.settings && (covered && may_write m) then Some (Put value) else None
mail_event m (MessagePut message) = if may_put_message m (length message) then Some (Put (padded m message)) else None
mail_event m (RingRead covered) = if is_mailbox m.settings then option_map Taken (visible_to m (RingRead covered)) else None
mail_event m MessageTake = option_map Taken (visible_to m MessageTake)
mail_event m o = None

abbrev pub added : Option MailEvent → List MailEvent → List MailEvent
added None events = events
added (Some e) events = e ∷ events

-- all of a run, in order
abbrev pub mail_events : SyncManager → List Operation → List MailEvent
mail_events m [] = []
mail_events m (o ∷ ops) = added (mail_event m o) (mail_events (step m o) ops)

-- Over every run from a new manager: right before a message is got stands that this very message was put, so each is got
-- once at most, in the order in which they were put; and no message is put right behind another, so none is lost but by an
-- emptying or a configuration.
pub record MessagesAreGivenOnce : Type 0 where
  pub taken : (ops : List Operation) (before after : List MailEvent) (x : List ℕ) → mail_events no_manager ops ≡ before ++ Taken x ∷ after
      → (earlier : List MailEvent) × (before ≡ earlier ++ Put x ∷ [])
  pub put : (ops : List Operation) (before after : List MailEvent) (x y : List ℕ) → mail_events no_manager ops ≡ before ++ Put x ∷ Put y ∷ after → ⊥
