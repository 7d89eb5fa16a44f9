-- A place in the script by stretch, slave and place, and the actions ahead of it. Scripts has the script itself.
use Rattle.std.specs.Prelude.{ℕ, ◌+◌, ◌*◌, ◌-◌, ◌≡◌, ◌≤◌, ◌==◌, ◌&&◌, not, List, [], ◌∷◌, ◌++◌, drop, Bool, true, false, if◌then◌else◌, nat_lt, slice_get, Option, Some, None, option_map}
use Rattle.ec_al.specs.declared.state.State.TheVariants.{PreOp, SafeOp, Op}
use Rattle.ec_link.specs.declared.settings.SlavePlan.{SlavePlan}
use Rattle.ec_start.specs.declared.action.Action.{Action}
use Rattle.ec_start.specs.declared.action.Action.TheVariants.{CountSlaves}
use Rattle.ec_start.specs.declared.script.Stretch.{Stretch}
use Rattle.ec_start.specs.declared.script.Stretch.TheVariants.{Opening, Naming, Settling, Identifying, Closing, Mailboxes, ToPreOp, Talking, Mapping, ToSafeOp, ToOp}
use Rattle.ec_start.specs.declared.script.Cursor.{Cursor}
use Rattle.ec_start.specs.declared.script.Step.{Step}
use Rattle.ec_start.specs.Plans.{settings_at, fmmu_at}
use Rattle.ec_start.specs.Scripts.{is_hardware, set_manager, set_fmmu, named, settled, identified, mailbox_set, raised, talked, mapped, opened, closed, each_slave}
use Rattle.ec_coe.specs.Objects.{has_some}
use Rattle.ec_start.specs.Doable.{IsDoable}

-- a slave's share of a stretch
abbrev pub share : Stretch → ℕ → SlavePlan → List Action
share Opening = λ i p. []
share Naming = named
share Settling = settled
share Identifying = identified
share Closing = λ i p. []
share Mailboxes = λ i p. mailbox_set i p p.kind.mailbox
share ToPreOp = raised PreOp
share Talking = λ i p. talked i p p.kind.mailbox
share Mapping = mapped
share ToSafeOp = raised SafeOp
share ToOp = raised Op

-- without slaves, counting them is all
abbrev pub opening : (has_slaves hardware : Bool) → List Action
opening false hardware = CountSlaves ∷ []
opening true hardware = CountSlaves ∷ opened hardware

abbrev pub share_of : (ℕ → SlavePlan → List Action) → ℕ → Option SlavePlan → List Action
share_of f i None = []
share_of f i (Some p) = f i p

abbrev pub is_for_all : Stretch → Bool
is_for_all Opening = true
is_for_all Naming = false
is_for_all Settling = false
is_for_all Identifying = false
is_for_all Closing = true
is_for_all Mailboxes = false
is_for_all ToPreOp = false
is_for_all Talking = false
is_for_all Mapping = false
is_for_all ToSafeOp = false
is_for_all ToOp = false

-- the actions of a stretch that is for all slaves at once
abbrev pub for_all : Stretch → List SlavePlan → List Action
for_all Opening ps = opening (has_some ps) (is_hardware ps)
for_all Closing ps = closed (is_hardware ps)
for_all _ ps = []

abbrev pub share_at : Stretch → List SlavePlan → ℕ → List Action
share_at st ps i = if is_for_all st then for_all st ps else share_of (share st) i (slice_get ps i)

abbrev pub following : Stretch → Option Stretch
following Opening = Some Naming
following Naming = Some Settling
following Settling = Some Identifying
following Identifying = Some Closing
following Closing = Some Mailboxes
following Mailboxes = Some ToPreOp
following ToPreOp = Some Talking
following Talking = Some Mapping
following Mapping = Some ToSafeOp
following ToSafeOp = Some ToOp
following ToOp = None

-- a whole stretch, and all stretches behind one
abbrev pub whole : Stretch → List SlavePlan → List Action
whole st ps = if is_for_all st then for_all st ps else each_slave (share st) 0 ps

abbrev pub later : Stretch → List SlavePlan → List Action
later ToOp ps = []
later ToSafeOp ps = whole ToOp ps
later Mapping ps = whole ToSafeOp ps ++ whole ToOp ps
later Talking ps = whole Mapping ps ++ (whole ToSafeOp ps ++ whole ToOp ps)
later ToPreOp ps = whole Talking ps ++ (whole Mapping ps ++ (whole ToSafeOp ps ++ whole ToOp ps))
later Mailboxes ps = whole ToPreOp ps ++ (whole Talking ps ++ (whole Mapping ps ++ (whole ToSafeOp ps ++ whole ToOp ps)))
later Closing ps = whole Mailboxes ps ++ (whole ToPreOp ps ++ (whole Talking ps ++ (whole Mapping ps ++ (whole ToSafeOp ps ++ whole ToOp ps))))
later Identifying ps = whole Closing ps ++ (whole Mailboxes ps ++ (whole ToPreOp ps ++ (whole Talking ps ++ (whole Mapping ps ++ (whole ToSafeOp ps ++ whole ToOp ps)))))
later Settling ps = whole Identifying ps ++ (whole Closing ps ++ (whole Mailboxes ps ++ (whole ToPreOp ps ++ (whole Talking ps ++ (whole Mapping ps ++ (whole ToSafeOp ps ++ whole ToOp ps))))))
later Naming ps = whole Settling ps ++ (whole Identifying ps ++ (whole Closing ps ++ (whole Mailboxes ps ++ (whole ToPreOp ps ++ (whole Talking ps ++ (whole Mapping ps ++ (whole ToSafeOp ps ++ whole ToOp ps)))))))
later Opening ps = whole Naming ps ++ (whole Settling ps ++ (whole Identifying ps ++ (whole Closing ps ++ (whole Mailboxes ps ++ (whole ToPreOp ps ++ (whole Talking ps ++ (whole Mapping ps ++ (whole ToSafeOp ps ++ whole ToOp ps))))))))

-- what is behind a slave's share, or behind the opening
abbrev pub beyond : Stretch → List SlavePlan → ℕ → List Action
beyond st ps i = (if is_for_all st then [] else each_slave (share st) (i + 1) (drop (i + 1) ps)) ++ later st ps

-- the actions ahead, with the one at this place first
abbrev pub ahead : List SlavePlan → Cursor → List Action
ahead ps c = drop c.place (share_at c.stretch ps c.slave) ++ beyond c.stretch ps c.slave

-- the beginning of the next share
abbrev pub behind : ℕ → Cursor → Option Cursor
behind n c =
    if not (is_for_all c.stretch) && nat_lt (c.slave + 1) n then Some (record { stretch = c.stretch; slave = c.slave + 1; place = 0 })
    else option_map (λ st. record { stretch = st; slave = 0; place = 0 }) (following c.stretch)

-- how many stretches are behind
abbrev pub rank : Stretch → ℕ
rank Opening = 10
rank Naming = 9
rank Settling = 8
rank Identifying = 7
rank Closing = 6
rank Mailboxes = 5
rank ToPreOp = 4
rank Talking = 3
rank Mapping = 2
rank ToSafeOp = 1
rank ToOp = 0

abbrev pub shares_left : Cursor → ℕ
shares_left c = 66 * rank c.stretch + (65 - c.slave)

-- ---- the first step at a cursor or behind it

pub record IsSettled (ps : List SlavePlan) (c : Cursor) (s : Step) : Type 0 where
  pub same : ahead ps c ≡ ahead ps s.cursor
  pub here : slice_get (share_at s.cursor.stretch ps s.cursor.slave) s.cursor.place ≡ Some s.action
  pub doable : IsDoable s.action
  pub low : s.cursor.slave ≤ 64
  pub place : s.cursor.place ≤ c.place

abbrev pub Settles : List SlavePlan → Cursor → Option Step → Type 0
Settles ps c None = ahead ps c ≡ []
Settles ps c (Some s) = IsSettled ps c s

-- ---- a share of actions that may be left out

abbrev pub manager_chosen : ℕ → SlavePlan → ℕ → Option Action
manager_chosen i p n = if (settings_at p.managers n).activate == 0 then None else Some (set_manager i p n)

abbrev pub fmmu_chosen : ℕ → SlavePlan → ℕ → Option Action
fmmu_chosen i p n = if (fmmu_at p.fmmus n).active then Some (set_fmmu i p n) else None

-- what a mapping sets, as far as it is there
abbrev pub choices : ℕ → SlavePlan → List (Option Action)
choices i p = manager_chosen i p 2 ∷ manager_chosen i p 3 ∷ fmmu_chosen i p 0 ∷ fmmu_chosen i p 1 ∷ []

abbrev pub somes : List (Option Action) → List Action
somes [] = []
somes (None ∷ xs) = somes xs
somes (Some a ∷ xs) = a ∷ somes xs
