-- A buffered manager shows what was published last.
use Rattle.std.proofs.Common.{ℕ, ◌+◌, ◌/◌, ◌%◌, ◌==◌, ◌&&◌, ◌≡◌, List, [], ◌∷◌, ◌++◌, length, Bool, true, false, if◌then◌else◌, nat_lt, nat_le, Option, Some, None, is_some, is_none, unwrap_or, refl, ◌∙◌, ap}
use Rattle.std.proofs.lemmas.List.Elements.{All-head, All-tail}
use Rattle.ec_regs.specs.Managers.{is_mailbox}
use Rattle.ec_sync.specs.Buffer.{app_written, app_read, publishing}
use Rattle.ec_sync.specs.SyncManager.{SyncManager, is_enabled, may_write, may_read, may_app_put, may_app_get, after_get, message_in, padded}
use Rattle.ec_sync.specs.Runs.{Operation, Configure, Lock, Empty, PublishZeros, Await, RingWrite, RingRead, AppPut, AppGet, MessageTake, MessagePut, step, draft_for, only, publications, history, newest, StaysBuffered, NewestIsVisible}
use Rattle.ec_sync.proofs.WholeValues.{put_if, got_if, closed_if}

newest-append : (v : List ℕ) (xs ys : List (List ℕ)) → newest v (xs ++ ys) ≡ newest (newest v xs) ys
newest-append v [] ys = refl
newest-append v (x ∷ xs) ys = newest-append x xs ys

-- what a step does: it shows the newest value, and it is no mailbox
pub record Shows (v : List ℕ) (news : List (List ℕ)) (m : SyncManager) : Type 0 where
  pub visible : newest v news ≡ m.buffer.published
  pub buffered : is_mailbox m.settings ≡ false

shows-same : (m : SyncManager) → is_mailbox m.settings ≡ false → Shows m.buffer.published [] m
shows-same m b = record { visible = refl; buffered = b }

shows-written : (m : SyncManager) (w : List ℕ) (granted is_mail : Bool) → is_mail ≡ false → is_mailbox m.settings ≡ false
    → Shows m.buffer.published (if granted then w ∷ [] else []) (if granted then (if is_mail then record m { mail = Some w } else record m { buffer = publishing m.buffer w; awaited = false }) else m)
shows-written m w true true e b = absurd (let f : true ≡ false = e in cc)
shows-written m w true false e b = record { visible = refl; buffered = b }
shows-written m w false is_mail e b = shows-same m b

shows-read : (m : SyncManager) (granted is_mail : Bool) → is_mailbox m.settings ≡ false → Shows m.buffer.published [] (if granted then (if is_mail then record m { mail = None } else m) else m)
shows-read m true true b = record { visible = refl; buffered = b }
shows-read m true false b = shows-same m b
shows-read m false is_mail b = shows-same m b

shows-taken : (m : SyncManager) (granted : Bool) → is_mailbox m.settings ≡ false → Shows m.buffer.published [] (if granted then record m { mail = None } else m)
shows-taken m true b = record { visible = refl; buffered = b }
shows-taken m false b = shows-same m b

-- the firmware puts no message where there is no mailbox
shows-message : (m : SyncManager) (w : List ℕ) (enabled is_mail rest : Bool) → is_mail ≡ false → is_mailbox m.settings ≡ false
    → Shows m.buffer.published (if enabled && (is_mail && rest) then w ∷ [] else []) (if enabled && (is_mail && rest) then record m { mail = Some w } else m)
shows-message m w enabled true rest e b = absurd (let f : true ≡ false = e in cc)
shows-message m w true false rest e b = shows-same m b
shows-message m w false false rest e b = shows-same m b

shows-put : (m : SyncManager) (may below last : Bool) (i x : ℕ) (d : Option (List ℕ)) → is_mailbox m.settings ≡ false
    → Shows m.buffer.published (only (closed_if may below last m i x d)) (unwrap_or (put_if may below last m i x d) m)
shows-put m false below last i x d b = shows-same m b
shows-put m true false last i x d b = shows-same m b
shows-put m true true last i x None b = shows-same m b
shows-put m true true false i x (Some d) b = record { visible = refl; buffered = b }
shows-put m true true true i x (Some d) b = record { visible = refl; buffered = b }

shows-got : (m : SyncManager) (may below last : Bool) (i : ℕ) (d : Option (List ℕ)) → is_mailbox m.settings ≡ false → Shows m.buffer.published [] (after_get m (got_if may below last m.buffer i d))
shows-got m false below last i d b = shows-same m b
shows-got m true false last i d b = shows-same m b
shows-got m true true last i None b = shows-same m b
shows-got m true true last i (Some w) b = record { visible = refl; buffered = b }

shows-step_put : (m : SyncManager) (i x : ℕ) → is_mailbox m.settings ≡ false → Shows m.buffer.published (publications m (AppPut i x)) (step m (AppPut i x))
unfolding app_written
shows-step_put m i x b = shows-put m (may_app_put m) (nat_lt i (length m.buffer.published)) (i + 1 == length m.buffer.published) i x (draft_for m i) b

shows-step_get : (m : SyncManager) (i : ℕ) → is_mailbox m.settings ≡ false → Shows m.buffer.published (publications m (AppGet i)) (step m (AppGet i))
unfolding app_read
shows-step_get m i b = shows-got m (may_app_get m) (nat_lt i (length m.buffer.published)) (i + 1 == length m.buffer.published) i (if i == 0 then Some m.buffer.published else m.buffer.view) b

shows-step : (m : SyncManager) (o : Operation) → StaysBuffered o → is_mailbox m.settings ≡ false → Shows m.buffer.published (publications m o) (step m o)
shows-step m (Configure settings) h b = record { visible = refl; buffered = h }
shows-step m (Lock locked) h b = record { visible = refl; buffered = b }
shows-step m Empty h b = record { visible = refl; buffered = b }
shows-step m PublishZeros h b = record { visible = refl; buffered = b }
shows-step m (Await w) h b = record { visible = refl; buffered = b }
shows-step m (RingWrite covered value) h b = shows-written m value (covered && may_write m) (is_mailbox m.settings) b b
shows-step m (RingRead covered) h b = shows-read m (covered && may_read m) (is_mailbox m.settings) b
shows-step m (AppPut i x) h b = shows-step_put m i x b
shows-step m (AppGet i) h b = shows-step_get m i b
shows-step m MessageTake h b = shows-taken m (is_some (message_in m)) b
shows-step m (MessagePut message) h b =
    shows-message m (padded m message) (is_enabled m) (is_mailbox m.settings) (m.settings.control / 4 % 4 == 0 && (is_none m.mail && nat_le (length message) m.settings.length)) b b

pub newest_is_visible : NewestIsVisible
newest_is_visible m [] b h = refl
newest_is_visible m (o ∷ ops) b h =
    let now = shows-step m o (All-head StaysBuffered o ops h) b in
    newest-append m.buffer.published (publications m o) (history (step m o) ops)
    ∙ (ap (λ v. newest v (history (step m o) ops)) now.visible
    ∙ newest_is_visible (step m o) ops now.buffered (All-tail StaysBuffered o ops h))
