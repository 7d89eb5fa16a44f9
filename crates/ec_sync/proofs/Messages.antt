-- A mailbox gives each message once: what each operation does to the message that is there, and then whole runs.
use Rattle.std.proofs.Common.{ℕ, ◌&&◌, ◌≡◌, ◌⊎◌, inl, inr, List, [], ◌∷◌, ◌++◌, length, Bool, true, false, if◌then◌else◌, nat_le, Option, Some, None, is_some, is_none, unwrap_or, option_map, refl, sym, ap, subst}
use Rattle.ec_regs.specs.Managers.{is_mailbox, is_master_written, is_master_read}
use Rattle.ec_sync.specs.Buffer.{Buffer, Got, app_written, publishing}
use Rattle.ec_sync.specs.SyncManager.{SyncManager, no_manager, may_app_put, app_got, after_get, is_enabled, padded}
use Rattle.ec_sync.specs.Runs.{Operation, Configure, Lock, Empty, PublishZeros, Await, RingWrite, RingRead, AppPut, AppGet, MessageTake, MessagePut, step}
use Rattle.ec_sync.specs.Messages.{MailEvent, Put, Taken, Cleared, mail_event, added, mail_events, MessagesAreGivenOnce}

-- from one message, or none, to the next: a put finds none, and what is taken is what is there
abbrev Moves : Option (List ℕ) → Option MailEvent → Option (List ℕ) → Type 0
Moves old None new = new ≡ old
Moves old (Some (Put x)) new = (old ≡ None) × (new ≡ Some x)
Moves old (Some (Taken x)) new = (old ≡ Some x) × (new ≡ None)
Moves old (Some Cleared) new = new ≡ None

-- the same for events in order
abbrev Goes : Option (List ℕ) → List MailEvent → Type 0
Goes mail [] = Unit {0}
Goes mail (Put x ∷ es) = (mail ≡ None) × Goes (Some x) es
Goes mail (Taken x ∷ es) = (mail ≡ Some x) × Goes None es
Goes mail (Cleared ∷ es) = Goes None es

-- ---- one operation

moves-written : (m : SyncManager) (w : List ℕ) (is_mail covered enabled ring : Bool) (mail : Option (List ℕ)) → m.mail ≡ mail
    → Moves m.mail (if is_mail && (covered && (enabled && (ring && (if is_mail then is_none mail else true)))) then Some (Put w) else None)
    (if covered && (enabled && (ring && (if is_mail then is_none mail else true))) then (if is_mail then record m { mail = Some w } else record m { buffer = publishing m.buffer w; awaited = false }) else m).mail
moves-written m w false false enabled ring mail e = refl
moves-written m w false true false ring mail e = refl
moves-written m w false true true false mail e = refl
moves-written m w false true true true mail e = refl
moves-written m w true false enabled ring mail e = refl
moves-written m w true true false ring mail e = refl
moves-written m w true true true false mail e = refl
moves-written m w true true true true None e = (e, refl)
moves-written m w true true true true (Some v) e = refl

moves-read : (m : SyncManager) (is_mail covered enabled ring : Bool) (mail : Option (List ℕ)) → m.mail ≡ mail
    → Moves m.mail (if is_mail then option_map Taken (if covered && (enabled && (ring && (if is_mail then is_some mail else true))) then Some (if is_mail then unwrap_or mail [] else m.buffer.published) else None) else None)
    (if covered && (enabled && (ring && (if is_mail then is_some mail else true))) then (if is_mail then record m { mail = None } else m) else m).mail
moves-read m false false enabled ring mail e = refl
moves-read m false true false ring mail e = refl
moves-read m false true true false mail e = refl
moves-read m false true true true mail e = refl
moves-read m true false enabled ring mail e = refl
moves-read m true true false ring mail e = refl
moves-read m true true true false mail e = refl
moves-read m true true true true None e = refl
moves-read m true true true true (Some v) e = (e, refl)

moves-taken : (m : SyncManager) (granted : Bool) (mail : Option (List ℕ)) → m.mail ≡ mail
    → Moves m.mail (option_map Taken (if granted then mail else None)) (if is_some (if granted then mail else None) then record m { mail = None } else m).mail
moves-taken m false mail e = refl
moves-taken m true None e = refl
moves-taken m true (Some v) e = (e, refl)

moves-message : (m : SyncManager) (w : List ℕ) (enabled is_mail ring fits : Bool) (mail : Option (List ℕ)) → m.mail ≡ mail
    → Moves m.mail (if enabled && (is_mail && (ring && (is_none mail && fits))) then Some (Put w) else None)
    (if enabled && (is_mail && (ring && (is_none mail && fits))) then record m { mail = Some w } else m).mail
moves-message m w false is_mail ring fits mail e = refl
moves-message m w true false ring fits mail e = refl
moves-message m w true true false fits mail e = refl
moves-message m w true true true fits (Some v) e = refl
moves-message m w true true true false None e = refl
moves-message m w true true true true None e = (e, refl)

kept-put : (m : SyncManager) (may : Bool) (o : Option Buffer) → (unwrap_or (if may then option_map (λ b. record m { buffer = b }) o else None) m).mail ≡ m.mail
kept-put m false o = refl
kept-put m true None = refl
kept-put m true (Some b) = refl

kept-get : (m : SyncManager) (o : Option Got) → (after_get m o).mail ≡ m.mail
kept-get m None = refl
kept-get m (Some got) = refl

moves : (m : SyncManager) (o : Operation) → Moves m.mail (mail_event m o) (step m o).mail
moves m (Configure settings) = refl
moves m (Lock locked) = refl
moves m Empty = refl
moves m PublishZeros = refl
moves m (Await b) = refl
moves m (RingWrite covered value) = moves-written m value (is_mailbox m.settings) covered (is_enabled m) (is_master_written m.settings) m.mail refl
moves m (RingRead covered) = moves-read m (is_mailbox m.settings) covered (is_enabled m) (is_master_read m.settings) m.mail refl
moves m (AppPut i x) = kept-put m (may_app_put m) (app_written m.buffer i x)
moves m (AppGet i) = kept-get m (app_got m i)
moves m MessageTake = moves-taken m (is_enabled m && (is_mailbox m.settings && is_master_written m.settings)) m.mail refl
moves m (MessagePut message) = moves-message m (padded m message) (is_enabled m) (is_mailbox m.settings) (is_master_read m.settings) (nat_le (length message) m.settings.length) m.mail refl

-- ---- whole runs

goes-added : (old new : Option (List ℕ)) (e : Option MailEvent) (es : List MailEvent) → Moves old e new → Goes new es → Goes old (added e es)
goes-added old new None es m g = subst (λ (o : Option (List ℕ)). Goes o es) m g
goes-added old new (Some (Put x)) es m g = (m.0, subst (λ (o : Option (List ℕ)). Goes o es) m.1 g)
goes-added old new (Some (Taken x)) es m g = (m.0, subst (λ (o : Option (List ℕ)). Goes o es) m.1 g)
goes-added old new (Some Cleared) es m g = subst (λ (o : Option (List ℕ)). Goes o es) m g

goes : (m : SyncManager) (ops : List Operation) → Goes m.mail (mail_events m ops)
goes m [] = tt
goes m (o ∷ ops) = goes-added m.mail (step m o).mail (mail_event m o) (mail_events (step m o) ops) (moves m o) (goes (step m o) ops)

-- what a run of events comes to, before one is taken
abbrev Before : Option (List ℕ) → List MailEvent → List ℕ → Type 0
Before mail before x = ((before ≡ []) × (mail ≡ Some x)) ⊎ ((earlier : List MailEvent) × (before ≡ earlier ++ Put x ∷ []))

some_same : (a b : List ℕ) → Some a ≡ Some b → a ≡ b
some_same a b e = cc

no_some : (v : List ℕ) → None ≡ Some v → ⊥
no_some v e = cc

put_before : (w x : List ℕ) (bs : List MailEvent) → Before (Some w) bs x → (earlier : List MailEvent) × (Put w ∷ bs ≡ earlier ++ Put x ∷ [])
put_before w x bs (inl e) = ([], rw (e.0, some_same w x e.1) refl)
put_before w x bs (inr e) = (Put w ∷ e.0, ap (λ es. Put w ∷ es) e.1)

behind : (p : MailEvent) (x : List ℕ) (bs : List MailEvent) → Before None bs x → (earlier : List MailEvent) × (p ∷ bs ≡ earlier ++ Put x ∷ [])
behind p x bs (inl e) = absurd (no_some x e.1)
behind p x bs (inr e) = (p ∷ e.0, ap (λ es. p ∷ es) e.1)

taken_from : (mail : Option (List ℕ)) (before after : List MailEvent) (x : List ℕ) → Goes mail (before ++ Taken x ∷ after) → Before mail before x
taken_from mail [] after x g = inl (refl, g.0)
taken_from mail (Put w ∷ bs) after x g = inr (put_before w x bs (taken_from (Some w) bs after x g.1))
taken_from mail (Taken w ∷ bs) after x g = inr (behind (Taken w) x bs (taken_from None bs after x g.1))
taken_from mail (Cleared ∷ bs) after x g = inr (behind Cleared x bs (taken_from None bs after x g))

from_none : (before : List MailEvent) (x : List ℕ) → Before None before x → (earlier : List MailEvent) × (before ≡ earlier ++ Put x ∷ [])
from_none before x (inl e) = absurd (no_some x e.1)
from_none before x (inr e) = e

not_twice : (mail : Option (List ℕ)) (before after : List MailEvent) (x y : List ℕ) → Goes mail (before ++ Put x ∷ Put y ∷ after) → ⊥
not_twice mail [] after x y g = no_some x (sym g.1.0)
not_twice mail (Put w ∷ bs) after x y g = not_twice (Some w) bs after x y g.1
not_twice mail (Taken w ∷ bs) after x y g = not_twice None bs after x y g.1
not_twice mail (Cleared ∷ bs) after x y g = not_twice None bs after x y g

pub messages_law : MessagesAreGivenOnce
messages_law = record {
  taken = λ ops before after x is. from_none before x (taken_from None before after x (subst (λ (es : List MailEvent). Goes None es) is (goes no_manager ops)));
  put = λ ops before after x y is. not_twice None before after x y (subst (λ (es : List MailEvent). Goes None es) is (goes no_manager ops));
}
