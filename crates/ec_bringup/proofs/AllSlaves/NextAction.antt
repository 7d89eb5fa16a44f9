-- What the firmware steps after a frame prepare for the next action.
use Rattle.ec_bringup.proofs.Words.{ℕ, zero, suc, ◌+◌, ◌*◌, ◌%◌, ◌<◌, ◌≤◌, ◌≡◌, ◌==◌, ◌||◌, not, true, false, Option, Some, None, is_some, refl, sym, ◌∙◌, ap, subst, inl, inr, arith, if◌then◌else◌, List, [], ◌∷◌, length, both_ways, cases_lt, eq-eqb, and_from, and_left, le-ltb, if_true, if_false, Bool, Mailbox, SlaveKind, SyncManager, SyncManagerSettings, SafeOp, Fpwr, Fprd, Datagram, IsDatagram, adp_of, State, Init, PreOp, Op, state_number, Al, requesting, read_command, SlaveState, station_of, manager_at, Window, touches, physical_after, Meeting, slave_met, settles, may_read, zeros, window_of, inside_kept, checks_of, served, settings_at, is_set, is_mailbox, is_master_read, message_length, Action, CountSlaves, AskInit, AwaitInit, AwaitInitState, AwaitCleanInit, AskWord, AwaitWord, AskState, AwaitState, SendRequest, AwaitReply, AwaitFreeReply, SdoRequest, station, sent, word_address_of, filled, request_bytes, Rise, Falls, Stays, Climbs, Config, Stage, Up, Talk, config_after, climbing, after, Fits, CanClimb, IsClimbing, IsOfKind, IsIn, Rises, IsAsked, IsAssigned, IsSent, IsSilent, Talks, IsUpAt, Stands, Arrives, IsOfType, IsNamed, AreMailboxes, wrote, Hardware, has_firmware, has_emergency, has_some, is_aside, is_init, emergency_bytes, greeting_of, left_to_say, steps_slow, wanted_of}
use Rattle.ec_bringup.proofs.OneFrame.OtherSlaves.{IsFor, as_one, ForAskWord, ForAskState, ForAwaitState, ForAwaitFreeReply, ForSend}
use Rattle.ec_bringup.proofs.Script.Walks.{BearsAt}
use Rattle.ec_bringup.proofs.Script.FedSteps.{IsRunning, climbing-runs}
use Rattle.ec_bringup.proofs.OneFrame.RegisterWrites.{own-write, window-sent, ask-manager}
use Rattle.ec_bringup.proofs.OneFrame.RegisterPolls.{read-slave}
use Rattle.ec_bringup.proofs.Mailbox.SendRequest.{sending, delivered}
use Rattle.ec_bringup.proofs.Mailbox.AwaitReply.{Boxes, boxes-of, emptied, read-out, left-aside}
use Rattle.ec_bringup.proofs.OneSlave.Alike.{left-done, left-same}
use Rattle.ec_bringup.proofs.OneSlave.Dry.{DryAt}
use Rattle.ec_bringup.proofs.OneSlave.AwaitedKept.{awaited-kept}
use Rattle.ec_bringup.proofs.OneSlave.MailboxServed.{IsGood, replied, full-rests}
use Rattle.ec_bringup.proofs.OneFrame.Commands.{Passes, IsThere, Unawaited, granted, HasFound, word-found}
use Rattle.ec_bringup.proofs.OneFrame.Awaits.{HasReply, Greets}
use Rattle.ec_bringup.proofs.OneFrame.FrameLaw.{look}
use Rattle.ec_bringup.proofs.AllSlaves.Delays.{LateAt, up-of, slow-is, quick-is, rested, waited-on, own-read, IsPolled}

-- ---- what is asked of an action at a stage

-- a slave that holds what is known at a stage, as far as the checks of the AL state machine look at it
pub record Holds (kind : SlaveKind) (c : Config) (s : SlaveState) : Type 0 where
  pub slave : IsOfKind kind s
  pub settings : (n : ℕ) → n < 4 → (manager_at s.managers n).settings ≡ settings_at c.managers n
  pub unlocked : (n : ℕ) → n < 4 → (manager_at s.managers n).locked ≡ false
  pub assigned : IsAssigned c s

-- the step up is granted
abbrev pub Grants : SlaveKind → Config → State → Type 0
Grants kind c to = (s : SlaveState) → Holds kind c s → Passes (checks_of s) to

-- the request is answered as it should be
pub record Talkable (kind : SlaveKind) (c : Config) (r : SdoRequest) : Type 0 where
  pub rise : c.rise ≡ Stays PreOp
  pub idle : c.idle ≡ true
  pub box : Mailbox
  pub boxed : kind.mailbox ≡ Some box
  pub good : IsGood kind c r

-- what the action of slave i asks of a configuration
abbrev pub Bears : SlaveKind → Config → Action → Type 0
Bears kind c (AskWord t which) = which < 3
Bears kind c (AwaitWord t which) = which < 3
Bears kind c (AwaitCleanInit t) = has_firmware kind.hardware ≡ true
-- with firmware, no error is left
Bears kind c (AskState t to) = Grants kind c to × (c.rise ≡ Falls → has_firmware kind.hardware ≡ false)
Bears kind c (AwaitState t to) = Grants kind c to
-- requests are numbered by those that were answered
Bears kind c (SendRequest t counter b r) = Talkable kind c r × (counter ≡ length c.done)
Bears kind c (AwaitReply t b r) = Talkable kind c r
Bears kind c (AwaitFreeReply t b r) = Talkable kind c r
Bears kind c _ = Unit {0}

abbrev pub Bless : SlaveKind → ℕ → Stage → Action → Type 0
Bless kind i st a = IsFor i a → BearsAt (Bears kind) st a

-- ---- what a slave shows before a frame of an action: `more` polls more than one are due, and behind `here` frames of this action

-- it was asked for a state, and the request has waited for `w` steps
pub record Nears (kind : SlaveKind) (to : State) (w : ℕ) (s : SlaveState) : Type 0 where
  pub asked : s.al.requested ≡ true
  pub waited : s.al.waited ≡ w
  pub clean : has_firmware kind.hardware ≡ true → s.al.error ≡ false
  -- no outputs are awaited where it is asked for OP
  pub calm : to ≡ Op → Unawaited kind.hardware s

-- `w` steps after the request it waits still, or it is there
abbrev pub ClimbsBy : SlaveKind → State → ℕ → SlaveState → Type 0
ClimbsBy kind to w s = (w ≤ steps_slow kind.hardware → Nears kind to w s) × (steps_slow kind.hardware < w → IsThere to s)

abbrev pub Sure : SlaveKind → ℕ → Al → (more here : ℕ) → Action → SlaveState → Type 0
Sure kind i x more here CountSlaves s = (served s).al ≡ x
Sure kind i x more here AskInit s = s.al ≡ x
Sure kind i x more here (AskWord t which) s = s.sii.busy ≡ false
Sure kind i x more here (AwaitWord t which) s = t ≡ i → HasFound (wanted_of kind) which s.sii
Sure kind i x more here (AwaitState t to) s = t ≡ i → ClimbsBy kind to (here + 1) s
Sure kind i x more here (AwaitReply t b r) s = t ≡ i → HasReply false t r b.send_size s
Sure kind i x more here (AwaitFreeReply t b r) s = t ≡ i → (here < more → Greets b.send_size s) × (more ≤ here → HasReply true t r b.send_size s)
Sure kind i x more here _ s = Unit {0}

-- and the parts that were fed before it: no slave that is asked for OP waits for outputs
abbrev pub Ready : SlaveKind → ℕ → Action → SlaveState → Type 0
Ready kind i (AskState t to) s = t ≡ i → to ≡ Op → Unawaited kind.hardware s
Ready kind i _ s = Unit {0}

-- a wait for INIT without an error asks for firmware that isn't slow; a reply of a table without `hardware` for a type that says
-- nothing of real devices
abbrev pub Suits : SlaveKind → Action → Type 0
Suits kind AwaitInit = kind.hardware ≡ None
Suits kind (AwaitReply t b r) = kind.hardware ≡ None
Suits kind _ = Unit {0}

-- each wait stands right behind what it waits for
abbrev pub Prompted : Action → Action → Type 0
Prompted a CountSlaves = ⊥
Prompted a AskInit = a ≡ CountSlaves
Prompted a AwaitInit = a ≡ AskInit
Prompted a AwaitInitState = a ≡ AskInit
Prompted a (AskWord t (suc which)) = a ≡ AwaitWord t which
Prompted a (AwaitWord t which) = a ≡ AskWord t which
Prompted a (AwaitState t to) = a ≡ AskState t to
Prompted a (AwaitReply t b r) = (counter : ℕ) × (a ≡ SendRequest t counter b r)
Prompted a (AwaitFreeReply t b r) = (counter : ℕ) × (a ≡ SendRequest t counter b r)
Prompted a _ = Unit {0}

-- the first reply of a slave with an emergency takes one poll more
abbrev pub heard_first : ℕ → Option Hardware → ℕ
heard_first zero o = if has_emergency o then 1 else 0
heard_first (suc before) o = 0

-- the polls more of an action behind another, as far as a slave knows of them
abbrev pub IsPaced : SlaveKind → ℕ → Action → Action → ℕ → Type 0
IsPaced kind i a (AwaitFreeReply t b r) more = (before : ℕ) → a ≡ SendRequest t before b r → t ≡ i → more ≡ heard_first before kind.hardware
IsPaced kind i a _ more = Unit {0}

pub record Prior (kind : SlaveKind) (i : ℕ) (st : Stage) (x : Al) (n more here : ℕ) (a : Action) (s : SlaveState) : Type 0 where
  pub stands : Stands kind i st false s
  pub spelled : IsOfType kind s.sii.image.identity
  pub fits : Fits i st a
  pub bless : Bless kind i st a
  pub sure : Sure kind i x more here a s
  pub late : LateAt kind x n st s
  pub ready : Ready kind i a s
  pub named : IsNamed kind i a
  pub dry : DryAt st s

-- what an action for it leads to
pub mine-after : (P : Stage → Type 0) (i : ℕ) (x y : Stage) → P (if i == i then x else y) → P x
mine-after P i x y h = subst P (if_true _ _ _ (eq-eqb i i refl)) h

-- ---- the datagram of its own action, as it comes to the slave

own-slave : (s t : SlaveState) (i ado : ℕ) (bytes : List ℕ) (number : ℕ) (d : Datagram) → station_of s ≡ station i → i < 64 → d ≡ sent Fpwr (station i) ado bytes number → t ≡ slave_met s d
    → t ≡ physical_after s false true (record { from = ado; bytes = bytes })
own-slave s t i ado bytes number d e l q m =
    m ∙ (ap (slave_met s) q ∙ (own-write s (sent Fpwr (station i) ado bytes number) refl (let a : (station i % 65536 + 65536 * ado) % 65536 ≡ station_of s = omega (arith, e, l) in a)
    ∙ ap (λ (w : Window). physical_after s false true w) (window-sent Fpwr (station i) ado bytes number)))

-- ---- a word of the SII

next-word : (kind : SlaveKind) (i which : ℕ) (c : Config) (x : Al) (n more here number : ℕ) (d : Datagram) (s t : SlaveState) → i < 64 → Prior kind i (Up c) x n more here (AskWord i which) s → Arrives (AskWord i which) number i d
    → t ≡ slave_met s d → HasFound (wanted_of kind) which (served t).sii
next-word kind i which c x n more here number d s t l h arrives m =
    let u : IsUpAt i c s = up-of kind i c s h.stands in
    let n6 : length (read_command (word_address_of which)) ≡ 6 = refl in
    let q : t ≡ physical_after s false true (record { from = 0x0502; bytes = read_command (word_address_of which) })
    = own-slave s t i 0x0502 (read_command (word_address_of which)) number d u.configured.station_is l (arrives.to_come (omega arith)) m in
    let w = wrote s (record { from = 0x0502; bytes = read_command (word_address_of which) }) (omega (arith, n6)) in
    word-found kind s t which (h.bless (ForAskWord i which)) h.sure h.spelled (ap (λ (x : SlaveState). x.sii) q ∙ w.sii)

-- ---- a state

pub climbs-met : (kind : SlaveKind) (to : State) (w : ℕ) (s t : SlaveState) → t.al ≡ s.al → ((manager_at s.managers 2).awaited ≡ false → (manager_at t.managers 2).awaited ≡ false) → ClimbsBy kind to w s → ClimbsBy kind to w t
climbs-met kind to w s t e keep h = (
  λ l. let n = h.0 l in
      record {
        asked = ap (λ (a : Al). a.requested) e ∙ n.asked;
        waited = ap (λ (a : Al). a.waited) e ∙ n.waited;
        clean = λ f. ap (λ (a : Al). a.error) e ∙ n.clean f;
        calm = λ o. unawaited-on kind.hardware s t (ap (λ (a : Al). a.state) e) keep (n.calm o);
      },
  λ l. let g = h.1 l in
      record { state_is = ap (λ (a : Al). a.state) e ∙ g.state_is; no_error = ap (λ (a : Al). a.error) e ∙ g.no_error; no_request = ap (λ (a : Al). a.requested) e ∙ g.no_request },
)
  where
    unawaited-on : (o : Option Hardware) (x y : SlaveState) → y.al.state ≡ x.al.state → ((manager_at x.managers 2).awaited ≡ false → (manager_at y.managers 2).awaited ≡ false) → Unawaited o x → Unawaited o y
    unawaited-on None x y a b w = tt
    unawaited-on (Some k) x y a b w = λ q. b (w (sym a ∙ q))

-- one firmware step more
pub climbs-served : (kind : SlaveKind) (i : ℕ) (c : Config) (to : State) (w : ℕ) (t : SlaveState) → Stands kind i (Up c) false t → IsClimbing c.rise to → c.talk ≡ None → Grants kind c to → ClimbsBy kind to w t
    → ClimbsBy kind to (w + 1) (served t)
climbs-served kind i c to w t stood climbs none grants h = (on, there)
  where
    u : IsUpAt i c t
    u = up-of kind i c t stood

    k : t.kind ≡ kind
    k = stood.slave.kind_is

    same : steps_slow t.kind.hardware ≡ steps_slow kind.hardware
    same = ap (λ (y : SlaveKind). steps_slow y.hardware) k

    silent : IsSilent c t
    silent = subst (λ (o : Option Talk). Talks i c o t) none u.talks

    holds : Holds kind c t
    holds = record { slave = stood.slave; settings = u.configured.settings; unlocked = u.unlocked; assigned = silent.assigned }

    calm-on : (o : Option Hardware) → (served t).al.state ≡ t.al.state → IsRunning c.rise → Unawaited o t → Unawaited o (served t)
    calm-on None e run a = tt
    calm-on (Some x) e run a = λ q. awaited-kept kind i c t run u stood.slave (a (sym e ∙ q))

    on : w + 1 ≤ steps_slow kind.hardware → Nears kind to (w + 1) (served t)
    on l =
        let n = h.0 (omega (arith, l)) in
        let wt = n.waited in
        let a = waited-on t n.asked (slow-is t.kind.hardware t (omega (arith, l, wt, same))) in
        let z : (served t).al.waited ≡ t.al.waited + 1 = ap (λ (y : Al). y.waited) a in
        record {
          asked = ap (λ (y : Al). y.requested) a ∙ n.asked;
          waited = omega (arith, z, wt);
          clean = λ f. ap (λ (y : Al). y.error) a ∙ n.clean f;
          calm = λ o. calm-on kind.hardware (ap (λ (y : Al). y.state) a) (climbing-runs c.rise (subst (λ (y : State). IsClimbing c.rise y) o climbs)) (n.calm o);
        }

    grant : (r : Rise) → IsClimbing r to → Rises r t → Nears kind to w t → steps_slow t.kind.hardware ≤ t.al.waited → IsThere to (served t)
    grant Falls cl g n quick = absurd cl
    grant (Stays from) cl g n quick = absurd cl
    grant (Climbs from other) cl (up, inl q) n quick =
        granted t from to cl.0 (subst (λ (y : State). IsAsked from (state_number y) t) cl.1 q) (λ f. n.clean (ap (λ (y : SlaveKind). has_firmware y.hardware) (sym k) ∙ f))
        (λ e. subst (λ (y : SlaveKind). Unawaited y.hardware t) (sym k) (n.calm e)) (quick-is t.kind.hardware t quick) (grants t holds)
    grant (Climbs from other) cl (up, inr (inl q)) n quick = absurd (both_ways t.al.requested q.no_request n.asked)
    grant (Climbs from other) cl (up, inr (inr q)) n quick = absurd (both_ways t.al.requested q.no_request n.asked)

    there : steps_slow kind.hardware < w + 1 → IsThere to (served t)
    there l = elim (cases_lt (steps_slow kind.hardware) w) [
      | inl m ↦
          let g = h.1 m in
          let a = rested t g.no_request in
          record { state_is = ap (λ (y : Al). y.state) a ∙ g.state_is; no_error = ap (λ (y : Al). y.error) a ∙ g.no_error; no_request = ap (λ (y : Al). y.requested) a ∙ g.no_request }
      | inr m ↦
          let n = h.0 m in
          let wt = n.waited in
          grant c.rise climbs u.rises n (omega (arith, l, m, wt, same))
    ]

abbrev asked-window : State → Window
asked-window to = record { from = 0x0120; bytes = state_number to ∷ 0 ∷ [] }

-- before it was asked, it had no error, if it has firmware
was-clean : (r : Rise) (to : State) (s : SlaveState) → CanClimb r to → Rises r s → (r ≡ Falls → has_firmware s.kind.hardware ≡ false) → has_firmware s.kind.hardware ≡ true → s.al.error ≡ false
was-clean Falls to s can h bare f = absurd (both_ways (has_firmware s.kind.hardware) (bare refl) f)
was-clean (Stays Init) to s can h bare f = h.no_error f
was-clean (Stays PreOp) to s can h bare f = h.no_error
was-clean (Stays SafeOp) to s can h bare f = h.no_error
was-clean (Stays Op) to s can h bare f = h.no_error
was-clean (Climbs from other) to s can h bare f = absurd can

climbs-to : (r : Rise) (to : State) → CanClimb r to → IsClimbing (climbing r to) to
climbs-to Falls to can = (can, refl)
climbs-to (Stays from) to can = (can, refl)
climbs-to (Climbs from other) to can = absurd can

-- outputs that aren't awaited stay so where another AL request is written
unawaited-on : (o : Option Hardware) (s t : SlaveState) → t.al.state ≡ s.al.state → (manager_at t.managers 2).awaited ≡ (manager_at s.managers 2).awaited → Unawaited o s → Unawaited o t
unawaited-on None s t a b w = tt
unawaited-on (Some h) s t a b w = λ e. b ∙ w (sym a ∙ e)

next-state : (kind : SlaveKind) (i : ℕ) (to : State) (c : Config) (x : Al) (n more here number : ℕ) (d : Datagram) (s t : SlaveState) → i < 64 → Prior kind i (Up c) x n more here (AskState i to) s → Arrives (AskState i to) number i d → t ≡ slave_met s d
    → Stands kind i (Up (config_after c (AskState i to))) false t → ClimbsBy kind to 1 (served t)
next-state kind i to c x n more here number d s t l h arrives m stood =
    let u : IsUpAt i c s = up-of kind i c s h.stands in
    let can = h.fits.2 refl in
    let bless = h.bless (ForAskState i to) in
    let q : t ≡ physical_after s false true (asked-window to)
    = own-slave s t i 0x0120 (state_number to ∷ 0 ∷ []) number d u.configured.station_is l (arrives.to_come (omega arith)) m in
    let w = wrote s (asked-window to) (omega arith) in
    let one : t.kind ≡ s.kind = stood.slave.kind_is ∙ sym h.stands.slave.kind_is in
    -- the request waits anew; it leaves errors, and the manager of the outputs
    let al : t.al ≡ requesting s.al = ap (λ (y : SlaveState). y.al) q ∙ (w.al ∙ if_true (touches (asked-window to) 0x0120) (requesting s.al) s.al refl) in
    let two : manager_at t.managers 2 ≡ manager_at s.managers 2 = ap (λ (y : SlaveState). manager_at y.managers 2) q ∙ ask-manager to s (physical_after s false true (asked-window to)) 2 w h.stands.slave.four (omega arith) in
    let bare : c.rise ≡ Falls → has_firmware s.kind.hardware ≡ false = λ e. ap (λ (y : SlaveKind). has_firmware y.hardware) h.stands.slave.kind_is ∙ bless.1 e in
    climbs-served kind i (record c { rise = climbing c.rise to }) to 0 t stood (climbs-to c.rise to can.1) can.0
    (λ y k. bless.0 y (record { slave = k.slave; settings = k.settings; unlocked = k.unlocked; assigned = record { outs = k.assigned.outs; ins = k.assigned.ins; came = k.assigned.came } })) (
      λ z. record {
        asked = ap (λ (y : Al). y.requested) al;
        waited = ap (λ (y : Al). y.waited) al;
        clean = λ f. ap (λ (y : Al). y.error) al ∙ was-clean c.rise to s can.1 u.rises bare (ap (λ (y : SlaveKind). has_firmware y.hardware) h.stands.slave.kind_is ∙ f);
        calm = λ e. unawaited-on kind.hardware s t (ap (λ (y : Al). y.state) al) (ap (λ (y : SyncManager). y.awaited) two) (h.ready refl e);
      },
      λ z. absurd (omega (arith, z)),
    )

-- ---- a reply

sent-of : (i : ℕ) (k : Talk) (c : Config) (t : SlaveState) (raw : List ℕ) → (manager_at t.managers 0).mail ≡ Some raw → Talks i c (Some k) t → IsSent k c t
sent-of i k c t raw e (inl h) = h
sent-of i k c t raw e (inr h) = absurd (let f : None ≡ Some raw = sym h.no_message ∙ e in cc)

-- nothing is left to say by a type without an emergency, or behind the first request
nothing-left : (c : Config) (s : SlaveState) (before : ℕ) → before ≡ length c.done → heard_first before s.kind.hardware ≤ 0 → left_to_say c s ≡ None
nothing-left c s (suc before) e l = left-done c s (some-done c.done before (sym e))
  where
    some-done : (rs : List SdoRequest) (k : ℕ) → length rs ≡ suc k → has_some rs ≡ true
    some-done [] k q = absurd (omega (arith, q))
    some-done (r ∷ rs) k q = refl
nothing-left c s zero e l = by (has_emergency s.kind.hardware) refl
  where
    none : (b : Bool) (o : Option (List ℕ)) → o ≡ None → (let n : Option (List ℕ) = None in if b then n else o) ≡ None
    none true o q = refl
    none false o q = q

    by : (b : Bool) → has_emergency s.kind.hardware ≡ b → left_to_say c s ≡ None
    by true q = absurd (let z : 1 ≤ 0 = subst (λ (k : ℕ). k ≤ 0) (if_true (has_emergency s.kind.hardware) 1 0 q) l in omega (arith, z))
    by false q = none (has_some c.done || is_init s.al.state) (greeting_of s.kind (manager_at s.managers 1).settings) (if_false _ _ _ (and_left _ _ q))

-- and an emergency is, as it was in PREOP at first
emergency-left : (c : Config) (s : SlaveState) (before : ℕ) (b : Mailbox) → before ≡ length c.done → 0 < heard_first before s.kind.hardware → s.al.state ≡ PreOp → is_some s.kind.mailbox ≡ true
    → (manager_at s.managers 1).settings ≡ settings_at c.managers 1 → AreMailboxes b c.managers → left_to_say c s ≡ Some (filled (manager_at s.managers 1).settings.length (emergency_bytes 1))
emergency-left c s (suc before) b e l state boxed settings boxes = absurd (let z : 0 < 0 = l in omega (arith, z))
emergency-left c s zero b e l state boxed settings boxes =
    let some : has_emergency s.kind.hardware ≡ true = loud (has_emergency s.kind.hardware) l in
    let long = boxes.send_some in
    let size : (manager_at s.managers 1).settings.length ≡ b.send_size = ap (λ (x : SyncManagerSettings). x.length) settings ∙ boxes.send_length in
    if_false _ _ _ (or_none (has_some c.done) (is_init s.al.state) (none-done c.done (sym e)) (ap is_init state))
    ∙ if_true _ _ _ (and_from _ _ some (and_from _ _ boxed (and_from _ _ (ap is_set settings ∙ boxes.send_set) (and_from _ _ (ap is_mailbox settings ∙ boxes.send_mailbox)
    (and_from _ _ (ap is_master_read settings ∙ boxes.send_read) (ap not (le-ltb (manager_at s.managers 1).settings.length message_length (omega (arith, long, size)))))))))
  where
    loud : (x : Bool) → 0 < (if x then 1 else 0) → x ≡ true
    loud true z = refl
    loud false z = absurd (omega (arith, z))

    none-done : (rs : List SdoRequest) → length rs ≡ 0 → has_some rs ≡ false
    none-done [] q = refl
    none-done (r ∷ rs) q = absurd (omega (arith, q))

    or_none : (x y : Bool) → x ≡ false → y ≡ false → (x || y) ≡ false
    or_none false false p q = refl
    or_none true y p q = absurd (both_ways true p refl)
    or_none false true p q = absurd (both_ways true q refl)

-- the request as it lies at its slave, before the firmware step
pub record Asked (kind : SlaveKind) (i counter : ℕ) (b : Mailbox) (r : SdoRequest) (c : Config) (t : SlaveState) : Type 0 where
  pub up : IsUpAt i (record c { talk = Some (record { mailbox = b; counter = counter; request = r }) }) t
  pub lies : IsSent (record { mailbox = b; counter = counter; request = r }) (record c { talk = Some (record { mailbox = b; counter = counter; request = r }) }) t
  pub left : (manager_at t.managers 1).mail ≡ left_to_say c t
  pub preop : IsIn PreOp t

asked-request : (kind : SlaveKind) (i counter : ℕ) (b : Mailbox) (r : SdoRequest) (c : Config) (x : Al) (n more here number : ℕ) (d : Datagram) (s t : SlaveState) → i < 64 → Prior kind i (Up c) x n more here (SendRequest i counter b r) s
    → Arrives (SendRequest i counter b r) number i d → t ≡ slave_met s d → Stands kind i (Up (config_after c (SendRequest i counter b r))) false t → Asked kind i counter b r c t
asked-request kind i counter b r c x n more here number d s t l h arrives m stood =
    let u : IsUpAt i c s = up-of kind i c s h.stands in
    let k : Talk = record { mailbox = b; counter = counter; request = r } in
    let v : IsUpAt i (record c { talk = Some k }) t = up-of kind i (record c { talk = Some k }) t stood in
    let can = h.fits.2 refl in
    let z = (h.bless (ForSend i counter b r)).0 in
    let silent : IsSilent c s = subst (λ (o : Option Talk). Talks i c o s) can.1 u.talks in
    let q : t ≡ physical_after s false true (sending b counter r)
    = own-slave s t i b.receive_start (filled b.receive_size (request_bytes counter r)) number d u.configured.station_is l (arrives.to_come (omega arith)) m in
    let w = delivered i counter c b r s h.stands.slave.four can.2 u silent.no_message in
    let mailbox_message : (manager_at t.managers 0).mail ≡ Some (sending b counter r).bytes = ap (λ (x : SlaveState). (manager_at x.managers 0).mail) q ∙ w.mailbox_message in
    let said : left_to_say c (physical_after s false true (sending b counter r)) ≡ left_to_say c s
    = left-same c c s (physical_after s false true (sending b counter r)) w.kind (w.settings 1 (omega arith)) (ap (λ (y : Al). is_init y.state) w.al) refl in
    record {
      up = v;
      lies = sent-of i k (record c { talk = Some k }) t (sending b counter r).bytes mailbox_message v.talks;
      left = ap (λ (y : SlaveState). (manager_at y.managers 1).mail) q ∙ (w.mail 1 (omega arith) (omega arith) ∙ (silent.no_reply ∙ (sym said ∙ ap (left_to_say c) (sym q))));
      preop = subst (λ (x : Rise). Rises x t) z.rise v.rises;
    }

-- nothing lies in manager 1
next-reply : (hardware : Bool) (kind : SlaveKind) (i counter : ℕ) (b : Mailbox) (r : SdoRequest) (c : Config) (t : SlaveState) → (hardware ≡ false → is_some kind.hardware ≡ false) → Talkable kind c r
    → Stands kind i (Up (config_after c (SendRequest i counter b r))) false t → Asked kind i counter b r c t → (manager_at t.managers 1).mail ≡ None → HasReply hardware i r b.send_size (served t)
next-reply hardware kind i counter b r c t plain z stood k none =
    replied hardware kind i (record c { talk = Some (record { mailbox = b; counter = counter; request = r }) }) (record { mailbox = b; counter = counter; request = r }) z.box t stood.slave z.boxed k.up.configured k.up.unlocked
    k.preop (k.up.configured.idle z.idle) k.lies none (λ d m n knows. z.good hardware plain d m n (record { of_type = knows.of_type; outs = knows.outs; ins = knows.ins; came = knows.came }))

-- an emergency does
next-greeting : (kind : SlaveKind) (i counter : ℕ) (b : Mailbox) (r : SdoRequest) (c : Config) (t : SlaveState) (raw : List ℕ) → Talkable kind c r → Asked kind i counter b r c t → left_to_say c t ≡ Some raw → Greets b.send_size (served t)
next-greeting kind i counter b r c t raw z k left =
    let mail : (manager_at t.managers 1).mail ≡ Some raw = k.left ∙ left in
    let said = left-aside c t raw left in
    let size : (manager_at t.managers 1).settings.length ≡ b.send_size = ap (λ (x : SyncManagerSettings). x.length) (k.up.configured.settings 1 (omega arith)) ∙ k.lies.mailboxes.send_length in
    subst (Greets b.send_size) (sym (full-rests t raw k.preop (k.up.configured.idle z.idle) mail)) (record { raw = raw; long = said.1 ∙ size; mail = mail; aside = said.0 })

-- a type that says nothing of real devices has no emergency
bare-first : (o : Option Hardware) (before : ℕ) → o ≡ None → heard_first before o ≤ 0
bare-first None zero e = omega arith
bare-first None (suc before) e = omega arith
bare-first (Some h) before e = absurd (cc e)

-- ---- all of them

-- what a slave that the frame passed shows before the next action
abbrev Shows : SlaveKind → ℕ → Stage → Al → (n more here next number : ℕ) → Datagram → SlaveState → SlaveState → Action → Action → Type 0
Shows kind i st x n more here next number d s t a b = Prior kind i st x n more here a s → Arrives a number i d → Stands kind i (after i st a) false t → Sure kind i x next 0 b (served t)

-- the slave that an action is for has its station address
at-up : (kind : SlaveKind) (i : ℕ) (st : Stage) (x : Al) (n more here next number : ℕ) (d : Datagram) (s t : SlaveState) (a b : Action) → IsFor i a → ((c : Config) → Shows kind i (Up c) x n more here next number d s t a b)
    → Shows kind i st x n more here next number d s t a b
at-up kind i (Up c) x n more here next number d s t a b is f = f c
at-up kind i st x n more here next number d s t a b is f = λ h. absurd ((as_one number is).fits i st h.fits).1

module _ (kind : SlaveKind) (i : ℕ) (st : Stage) (x : Al) (n more here next number : ℕ) (d : Datagram) (s t : SlaveState) (l : i < 64) (m : t ≡ slave_met s d) where
  abbrev Goes : Action → Action → Type 0
  Goes a b = Shows kind i st x n more here next number d s t a b

  -- with `hardware`: behind an emergency, if it had one
  free-reply : (counter : ℕ) (b : Mailbox) (r : SdoRequest) (c : Config) → next ≡ heard_first counter kind.hardware → Shows kind i (Up c) x n more here next number d s t (SendRequest i counter b r) (AwaitFreeReply i b r)
  free-reply counter b r c paced h arrives k e =
      let stood : Stands kind i (Up (config_after c (SendRequest i counter b r))) false t = mine-after (λ y. Stands kind i y false t) i _ _ k in
      let asked : Asked kind i counter b r c t = asked-request kind i counter b r c x n more here number d s t l h arrives m stood in
      let bless = h.bless (ForSend i counter b r) in
      let z = bless.0 in
      let is : heard_first counter t.kind.hardware ≡ next = ap (λ (y : SlaveKind). heard_first counter y.hardware) stood.slave.kind_is ∙ sym paced in
      let boxed : is_some t.kind.mailbox ≡ true = ap (λ (y : SlaveKind). is_some y.mailbox) stood.slave.kind_is ∙ ap is_some z.boxed in (
        λ q. next-greeting kind i counter b r c t (filled (manager_at t.managers 1).settings.length (emergency_bytes 1)) z asked
            (emergency-left c t counter b bless.1 (omega (arith, q, is)) asked.preop.state_is boxed (asked.up.configured.settings 1 (omega arith)) asked.lies.mailboxes),
        λ q. next-reply true kind i counter b r c t (λ f. absurd (both_ways true f refl)) z stood asked (asked.left ∙ nothing-left c t counter bless.1 (omega (arith, q, is))),
      )

  plain-reply : (counter : ℕ) (b : Mailbox) (r : SdoRequest) (c : Config) → kind.hardware ≡ None → Shows kind i (Up c) x n more here next number d s t (SendRequest i counter b r) (AwaitReply i b r)
  plain-reply counter b r c bare h arrives k e =
      let stood : Stands kind i (Up (config_after c (SendRequest i counter b r))) false t = mine-after (λ y. Stands kind i y false t) i _ _ k in
      let asked : Asked kind i counter b r c t = asked-request kind i counter b r c x n more here number d s t l h arrives m stood in
      let bless = h.bless (ForSend i counter b r) in
      let first : heard_first counter t.kind.hardware ≤ 0 = bare-first t.kind.hardware counter (ap (λ (y : SlaveKind). y.hardware) stood.slave.kind_is ∙ bare) in
      next-reply false kind i counter b r c t (λ f. ap is_some bare) bless.0 stood asked (asked.left ∙ nothing-left c t counter bless.1 first)

  pub next-sure : (a b : Action) → Suits kind b → Prompted a b → IsPaced kind i a b next → Goes a b
  next-sure a CountSlaves f p g = absurd p
  next-sure a AskInit f p g = subst (λ (y : Action). Goes y AskInit) (sym p) (λ h r k. ap (λ (y : SlaveState). (served y).al) (m ∙ counted h r) ∙ h.sure)
    where
      counted : Prior kind i st x n more here CountSlaves s → Arrives CountSlaves number i d → slave_met s d ≡ s
      counted h r = ap (λ (y : Meeting). y.slave) (look s d number r)
  next-sure a (AskWord y zero) f p g = λ h r k. (settles t).idle
  next-sure a (AskWord y (suc which)) f p g = λ h r k. (settles t).idle
  next-sure a (AwaitWord y which) f p g =
      subst (λ (z : Action). Goes z (AwaitWord y which)) (sym p) (λ h r k e.
      subst (λ (z : ℕ). Goes (AskWord z which) (AwaitWord z which)) (sym e)
      (at-up kind i st x n more here next number d s t (AskWord i which) (AwaitWord i which) (ForAskWord i which) (λ c h r k e. next-word kind i which c x n more here number d s t l h r m)) h r k e)
  next-sure a (AwaitState y to) f p g =
      subst (λ (z : Action). Goes z (AwaitState y to)) (sym p) (λ h r k e.
      subst (λ (z : ℕ). Goes (AskState z to) (AwaitState z to)) (sym e)
      (at-up kind i st x n more here next number d s t (AskState i to) (AwaitState i to) (ForAskState i to)
      (λ c h r k e. next-state kind i to c x n more here number d s t l h r m (mine-after (λ z. Stands kind i z false t) i _ _ k))) h r k e)
  next-sure a (AwaitReply y b q) f (counter, p) g =
      subst (λ (z : Action). Goes z (AwaitReply y b q)) (sym p) (λ h r k e.
      subst (λ (z : ℕ). Goes (SendRequest z counter b q) (AwaitReply z b q)) (sym e)
      (at-up kind i st x n more here next number d s t (SendRequest i counter b q) (AwaitReply i b q) (ForSend i counter b q) (λ c. plain-reply counter b q c f)) h r k e)
  next-sure a (AwaitFreeReply y b q) f (counter, p) g =
      subst (λ (z : Action). Goes z (AwaitFreeReply y b q)) (sym p) (λ h r k e.
      subst (λ (z : ℕ). Goes (SendRequest z counter b q) (AwaitFreeReply z b q)) (sym e)
      (at-up kind i st x n more here next number d s t (SendRequest i counter b q) (AwaitFreeReply i b q) (ForSend i counter b q) (λ c. free-reply counter b q c (g counter p e))) h r k e)
  next-sure a _ f p g = λ h r k. tt

-- ---- one poll more of a wait

-- the emergency was read, and the request is answered
same-reply : (kind : SlaveKind) (i : ℕ) (c : Config) (b : Mailbox) (r : SdoRequest) (x : Al) (n more here number : ℕ) (d : Datagram) (s : SlaveState) → i < 64 → Prior kind i (Up c) x n more here (AwaitFreeReply i b r) s
    → Arrives (AwaitFreeReply i b r) number i d → Stands kind i (Up c) false (slave_met s d) → Greets b.send_size s → HasReply true i r b.send_size (served (slave_met s d))
same-reply kind i c b r x n more here number d s l h arrives stood g =
    let u : IsUpAt i c s = up-of kind i c s h.stands in
    let can = h.fits.2 refl in
    let k : Talk = record { mailbox = b; counter = can.1.0; request = r } in
    let z = h.bless (ForAwaitFreeReply i b r) in
    let bx : Boxes b s = boxes-of i b c s h.stands.slave.four can.2 u in
    let came = arrives.to_come (omega arith) in
    let adp : adp_of d ≡ station_of s = let y = arrives.gone_by.address in let w = u.configured.station_is in omega (arith, y, w, l) in
    let new : slave_met s d ≡ emptied s
    = read-slave s d arrives.gone_by.command adp ∙ (ap (λ (w : Window). physical_after s true false w) (ap window_of came ∙ window-sent Fprd (station i) b.send_start (zeros b.send_size) number) ∙ read-out b s bx (full-of b s bx g)) in
    let v : IsUpAt i c (slave_met s d) = up-of kind i c (slave_met s d) stood in
    let before : IsSent k c s = sent-there i k c s g (subst (λ (o : Option Talk). Talks i c o s) can.1.1 u.talks) in
    let lies : IsSent k c (slave_met s d)
    = sent-of i k c (slave_met s d) _ (ap (λ (y : SlaveState). (manager_at y.managers 0).mail) new ∙ before.mailbox_message) (subst (λ (o : Option Talk). Talks i c o (slave_met s d)) can.1.1 v.talks) in
    let preop : IsIn PreOp (slave_met s d) = subst (λ (y : Rise). Rises y (slave_met s d)) z.rise v.rises in
    replied true kind i c k z.box (slave_met s d) stood.slave z.boxed v.configured v.unlocked preop (v.configured.idle z.idle) lies (ap (λ (y : SlaveState). (manager_at y.managers 1).mail) new)
    (z.good true (λ f. absurd (both_ways true f refl)))
  where
    full-of : (x : Mailbox) (y : SlaveState) → Boxes x y → Greets x.send_size y → may_read (manager_at y.managers 1) ≡ true
    full-of x y bx w = and_from _ _ bx.enabled (and_from _ _ bx.read (if_true _ _ _ bx.box ∙ ap is_some w.mail))

    same-raw : (p q : List ℕ) → (let o : Option (List ℕ) = Some p in o ≡ Some q) → p ≡ q
    same-raw p q e = cc

    sent-there : (j : ℕ) (k : Talk) (e : Config) (y : SlaveState) → Greets b.send_size y → Talks j e (Some k) y → IsSent k e y
    sent-there j k e y w (inl t) = t
    sent-there j k e y w (inr t) = absurd (both_ways (is_aside w.raw) (ap is_aside (same-raw w.raw t.raw (sym w.mail ∙ t.reply)) ∙ t.plain) w.aside)

module _ (kind : SlaveKind) (i : ℕ) (st : Stage) (x : Al) (n more here number : ℕ) (d : Datagram) (s : SlaveState) (l : i < 64) (good : IsDatagram d) where
  -- the slave that a wait is for
  at-mine : (a : Action) → IsFor i a → (P : Type 0) → ((c : Config) → Prior kind i (Up c) x n more here a s → Stands kind i (Up c) false (slave_met s d) → P)
      → Prior kind i st x n more here a s → Stands kind i st false (slave_met s d) → P
  at-mine a is P f h k = by st h k
    where
      by : (y : Stage) → Prior kind i y x n more here a s → Stands kind i y false (slave_met s d) → P
      by (Up c) h k = f c h k
      by y h k = absurd ((as_one number is).fits i y h.fits).1

  pub same-sure : (a : Action) → IsPolled a more here → Arrives a number i d → Prior kind i st x n more here a s → Stands kind i st false (slave_met s d) → Sure kind i x more (here + 1) a (served (slave_met s d))
  same-sure AwaitInitState p r h k = tt
  same-sure (AwaitCleanInit t) p r h k = tt
  same-sure (AwaitState t to) p r h k = λ e. own t to e r h k
    where
      own : (t : ℕ) (to : State) → t ≡ i → Arrives (AwaitState t to) number i d → Prior kind i st x n more here (AwaitState t to) s → Stands kind i st false (slave_met s d) → ClimbsBy kind to (here + 1 + 1) (served (slave_met s d))
      own t to e r h k =
          let mine = subst (λ (y : ℕ). Arrives (AwaitState y to) number i d × Prior kind i st x n more here (AwaitState y to) s) e (r, h) in
          at-mine (AwaitState i to) (ForAwaitState i to) (ClimbsBy kind to (here + 1 + 1) (served (slave_met s d))) (λ c g stood.
          let can = g.fits.2 refl in
          let al = own-read kind i number d s l good (AwaitState i to) (as_one number (ForAwaitState i to)) refl c (up-of kind i c s g.stands) mine.0 in
          climbs-served kind i c to (here + 1) (slave_met s d) stood can.1 can.0 (g.bless (ForAwaitState i to)) (climbs-met kind to (here + 1) s (slave_met s d) al ((inside_kept s d).awaited 2) (g.sure refl))) mine.1 k
  same-sure (AwaitFreeReply t b q) p r h k = λ e. own t e r h k
    where
      own : (t : ℕ) → t ≡ i → Arrives (AwaitFreeReply t b q) number i d → Prior kind i st x n more here (AwaitFreeReply t b q) s → Stands kind i st false (slave_met s d)
          → (here + 1 < more → Greets b.send_size (served (slave_met s d))) × (more ≤ here + 1 → HasReply true t q b.send_size (served (slave_met s d)))
      own t e r h k = (
        λ z. let few = p.1 in absurd (omega (arith, z, few)),
        λ z. let mine = subst (λ (y : ℕ). Arrives (AwaitFreeReply y b q) number i d × Prior kind i st x n more here (AwaitFreeReply y b q) s) e (r, h) in
            subst (λ (y : ℕ). HasReply true y q b.send_size (served (slave_met s d))) (sym e)
            (at-mine (AwaitFreeReply i b q) (ForAwaitFreeReply i b q) (HasReply true i q b.send_size (served (slave_met s d)))
            (λ c g stood. same-reply kind i c b q x n more here number d s l g mine.0 stood ((g.sure refl).0 p.0)) mine.1 k),
      )
  same-sure _ p r h k = absurd p
