-- How far a start-up has brought one slave: what the actions so far have set in it. Nothing of a slave's memory occurs here.
use Rattle.std.specs.Prelude.{ℕ, ◌+◌, ◌<◌, ◌≡◌, ◌==◌, List, [], ◌∷◌, ◌++◌, length, set, Bool, true, false, if◌then◌else◌, Option, Some, None}
use Rattle.ec_regs.specs.declared.manager.SyncManagerSettings.{SyncManagerSettings}
use Rattle.ec_regs.specs.declared.fmmu.FmmuSettings.{FmmuSettings}
use Rattle.ec_device.specs.declared.slave_type.Mailbox.{Mailbox}
use Rattle.ec_device.specs.Types.{SlaveKind}
use Rattle.ec_device.specs.Hardware.{AreNumbered, fmmu_count, other_name}
use Rattle.ec_regs.specs.Managers.{no_settings}
use Rattle.ec_regs.specs.Fmmus.{no_fmmu}
use Rattle.ec_al.specs.declared.state.State.{State}
use Rattle.ec_al.specs.declared.state.State.TheVariants.{Init, PreOp, SafeOp, Op}
use Rattle.ec_coe.specs.Objects.{output_assignment, input_assignment}
use Rattle.ec_start.specs.Plans.{settings_at}
use Rattle.ec_start.specs.declared.action.Action.{Action}
use Rattle.ec_start.specs.declared.action.Action.TheVariants.{CountSlaves, AskInit, AwaitInit, ClearFmmus, ClearManagers, ClearStations, NameSlave, AskWord, AwaitWord, SetManager, SetFmmu, AskState, AwaitState, SendRequest, AwaitReply, AwaitFreeReply, AwaitInitState, ClearAllFmmus, ClearAllManagers, AssignSii, ClearSiiError, AwaitCleanInit, FeedPart}
use Rattle.ec_start.specs.declared.action.SdoRequest.{SdoRequest}
use Rattle.ec_start.specs.declared.action.Transfer.{Transfer}
use Rattle.ec_start.specs.declared.action.Transfer.TheVariants.{Download, Upload}
use Rattle.ec_link.specs.declared.settings.SlavePlan.{SlavePlan}
use Rattle.ec_start.specs.Scripts.{register_of, requests}
use Rattle.ec_start.specs.Planned.{AreMailboxes, IsRequest}

-- what is known of the AL state machine
pub data Rise : Type 0 where
  -- in INIT, perhaps with an error: it was asked for INIT, and the request may still wait
  Falls : Rise
  -- in this state, without an error
  Stays : State → Rise
  -- in the first state, and asked for the second
  Climbs : State → State → Rise

-- what is known of an assignment object: the count, and the first slots
pub record Claim : Type 0 where
  pub count : Option ℕ
  pub slots : List ℕ

abbrev pub no_claim : Claim
no_claim = record { count = None; slots = [] }

-- a request that was sent and not answered yet
pub record Talk : Type 0 where
  pub mailbox : Mailbox
  pub counter : ℕ
  pub request : SdoRequest

pub record Config : Type 0 where
  pub managers : List SyncManagerSettings
  pub fmmus : List FmmuSettings
  -- whether the SII is known not to be busy
  pub idle : Bool
  pub talk : Option Talk
  pub outs : Claim
  pub ins : Claim
  -- the requests that were answered as they should be, in order
  pub done : List SdoRequest
  pub rise : Rise

pub data Stage : Type 0 where
  -- nothing was asked of it in this start-up
  Before : Stage
  -- it was asked for INIT
  Called : Stage
  -- in INIT; whether its FMMUs and its managers were cleared
  Down : (fmmus managers : Bool) → Stage
  -- in INIT, perhaps with an error, as a table with `hardware` has it; whether its FMMUs and its managers were cleared
  Lowered : (fmmus managers : Bool) → Stage
  -- it has its station address
  Up : Config → Stage

-- as it gets its station address
abbrev pub fresh : Config
fresh = record {
  managers = no_settings ∷ no_settings ∷ no_settings ∷ no_settings ∷ [];
  fmmus = no_fmmu ∷ no_fmmu ∷ no_fmmu ∷ no_fmmu ∷ [];
  idle = false;
  talk = None;
  outs = no_claim;
  ins = no_claim;
  done = [];
  rise = Stays Init;
}

-- the same, perhaps with an error
abbrev pub fresh_lowered : Config
fresh_lowered = record fresh { rise = Falls }

abbrev pub named_of : Stage → Config
named_of (Lowered f m) = fresh_lowered
named_of st = fresh

-- ---- what an action does

abbrev pub slot_claimed : Claim → ℕ → ℕ → Claim
slot_claimed c subindex value =
    record { count = c.count; slots = if subindex == length c.slots + 1 then c.slots ++ value ∷ [] else [] }

abbrev pub claimed : Claim → ℕ → ℕ → Claim
claimed c subindex value =
    if subindex == 0 then record { count = Some value; slots = if value == 0 then [] else c.slots } else slot_claimed c subindex value

abbrev pub answered_by : Config → SdoRequest → Transfer → Config
answered_by c r (Upload v) = record c { talk = None }
answered_by c r (Download v) =
    if r.index == output_assignment then record c { talk = None; outs = claimed c.outs r.subindex v.number }
    else (if r.index == input_assignment then record c { talk = None; ins = claimed c.ins r.subindex v.number }
    else record c { talk = None })

-- what is known once the reply to the request has come and fits
abbrev pub answered : Config → SdoRequest → Config
answered c r = answered_by (record c { done = c.done ++ r ∷ [] }) r r.transfer

abbrev pub climbing : Rise → State → Rise
climbing Falls wanted = Climbs Init wanted
climbing (Stays state) wanted = Climbs state wanted
climbing (Climbs state other) wanted = Climbs state wanted

-- what an action does to the slave that it is for
abbrev pub config_after : Config → Action → Config
config_after c (AskWord i which) = record c { idle = false }
config_after c (AwaitWord i which) = record c { idle = true }
config_after c (AwaitCleanInit i) = record c { rise = Stays Init }
config_after c (SetManager i n m r) = record c { managers = set c.managers n m }
config_after c (SetFmmu i n f start) = record c { fmmus = set c.fmmus n f }
config_after c (AskState i state) = record c { rise = climbing c.rise state }
config_after c (AwaitState i state) = record c { rise = Stays state }
config_after c (SendRequest i counter b r) = record c { talk = Some (record { mailbox = b; counter = counter; request = r }) }
config_after c (AwaitReply i b r) = answered c r
config_after c (AwaitFreeReply i b r) = answered c r
config_after c _ = c

abbrev pub up_after : Stage → Action → Stage
up_after (Up c) a = Up (config_after c a)
up_after st a = st

abbrev pub if_mine : ℕ → ℕ → Stage → Stage → Stage
if_mine t i mine others = if t == i then mine else others

abbrev pub after : ℕ → Stage → Action → Stage
after i st CountSlaves = st
after i st AskInit = Called
after i st AwaitInit = Down false false
after i st AwaitInitState = Lowered false false
after i (Down f m) ClearFmmus = Down true m
after i (Down f m) ClearManagers = Down f true
after i (Lowered f m) ClearAllFmmus = Lowered true m
after i (Lowered f m) ClearAllManagers = Lowered f true
after i st ClearFmmus = st
after i st ClearManagers = st
after i st ClearStations = st
after i st ClearAllFmmus = st
after i st ClearAllManagers = st
after i st (AssignSii access) = st
after i st ClearSiiError = st
after i st (FeedPart f) = st
after i st (NameSlave t) = if_mine t i (Up (named_of st)) st
after i st (AwaitCleanInit t) = if_mine t i (up_after st (AwaitCleanInit t)) st
after i st (AskWord t which) = if_mine t i (up_after st (AskWord t which)) st
after i st (AwaitWord t which) = if_mine t i (up_after st (AwaitWord t which)) st
after i st (SetManager t n m r) = if_mine t i (up_after st (SetManager t n m r)) st
after i st (SetFmmu t n f start) = if_mine t i (up_after st (SetFmmu t n f start)) st
after i st (AskState t state) = if_mine t i (up_after st (AskState t state)) st
after i st (AwaitState t state) = if_mine t i (up_after st (AwaitState t state)) st
after i st (SendRequest t counter b r) = if_mine t i (up_after st (SendRequest t counter b r)) st
after i st (AwaitReply t b r) = if_mine t i (up_after st (AwaitReply t b r)) st
after i st (AwaitFreeReply t b r) = if_mine t i (up_after st (AwaitFreeReply t b r)) st

-- ---- which action may come at a stage

-- one step up
abbrev pub IsStepUp : State → State → Type 0
IsStepUp Init PreOp = Unit {0}
IsStepUp PreOp SafeOp = Unit {0}
IsStepUp SafeOp Op = Unit {0}
IsStepUp _ _ = ⊥

abbrev pub CanClimb : Rise → State → Type 0
CanClimb Falls to = IsStepUp Init to
CanClimb (Stays from) to = IsStepUp from to
CanClimb (Climbs from other) to = ⊥

abbrev pub IsClimbing : Rise → State → Type 0
IsClimbing Falls to = ⊥
IsClimbing (Stays from) to = ⊥
IsClimbing (Climbs from other) to = IsStepUp from to × (other ≡ to)

-- below SAFEOP
abbrev pub IsLow : Rise → Type 0
IsLow Falls = Unit {0}
IsLow (Stays Init) = Unit {0}
IsLow (Stays PreOp) = Unit {0}
IsLow _ = ⊥

-- in INIT, or on the way from there
abbrev pub IsEarly : Rise → Type 0
IsEarly Falls = Unit {0}
IsEarly (Stays Init) = Unit {0}
IsEarly (Climbs Init PreOp) = Unit {0}
IsEarly _ = ⊥

-- in INIT
abbrev pub IsAtInit : Rise → Type 0
IsAtInit Falls = Unit {0}
IsAtInit (Stays Init) = Unit {0}
IsAtInit _ = ⊥

abbrev pub CanAct : Config → Action → Type 0
CanAct c (AskWord i which) = IsLow c.rise × (c.talk ≡ None)
CanAct c (AwaitWord i which) = IsLow c.rise × (c.talk ≡ None)
CanAct c (AwaitCleanInit i) = IsAtInit c.rise × (c.talk ≡ None)
-- the mailboxes are set in INIT: what a slave says as it enters PREOP lies in one of them
CanAct c (SetManager i n m r) = IsLow c.rise × (n < length c.managers) × (length c.managers ≡ 4) × (c.talk ≡ None) × (n < 2 → IsAtInit c.rise)
CanAct c (SetFmmu i n f start) = IsLow c.rise × (n < length c.fmmus) × (length c.fmmus ≡ 4) × (c.talk ≡ None)
CanAct c (AskState i state) = (c.talk ≡ None) × CanClimb c.rise state
CanAct c (AwaitState i state) = (c.talk ≡ None) × IsClimbing c.rise state
-- messages go in PREOP
CanAct c (SendRequest i counter b r) = (c.rise ≡ Stays PreOp) × (c.talk ≡ None) × AreMailboxes b c.managers × IsRequest r
CanAct c (AwaitReply i b r) = (c.rise ≡ Stays PreOp) × ((counter : ℕ) × (c.talk ≡ Some (record { mailbox = b; counter = counter; request = r }))) × AreMailboxes b c.managers
CanAct c (AwaitFreeReply i b r) = (c.rise ≡ Stays PreOp) × ((counter : ℕ) × (c.talk ≡ Some (record { mailbox = b; counter = counter; request = r }))) × AreMailboxes b c.managers
CanAct c _ = ⊥

abbrev pub IsUp : Stage → Type 0
IsUp (Up c) = Unit {0}
IsUp _ = ⊥

abbrev pub FitsMine : Stage → Action → Type 0
FitsMine (Up c) a = CanAct c a
FitsMine _ a = ⊥

-- an action for one slave: every slave has its station address, and this slave is ready for the action if it is the one
abbrev pub FitsOne : ℕ → ℕ → Stage → Action → Type 0
FitsOne t i st a = (t < 64) × IsUp st × (t ≡ i → FitsMine st a)

abbrev pub IsDown : Stage → Type 0
IsDown (Down f m) = Unit {0}
IsDown _ = ⊥

abbrev pub IsLowered : Stage → Type 0
IsLowered (Lowered f m) = Unit {0}
IsLowered _ = ⊥

abbrev pub IsBelow : Stage → Type 0
IsBelow (Down f m) = Unit {0}
IsBelow (Lowered f m) = Unit {0}
IsBelow _ = ⊥

abbrev pub IsCalled : Stage → Type 0
IsCalled Called = Unit {0}
IsCalled _ = ⊥

abbrev pub IsClear : Stage → Type 0
IsClear (Down true true) = Unit {0}
IsClear (Lowered true true) = Unit {0}
IsClear _ = ⊥

abbrev pub Fits : ℕ → Stage → Action → Type 0
Fits i st CountSlaves = Unit {0}
Fits i st AskInit = Unit {0}
Fits i st AwaitInit = IsCalled st
Fits i st ClearFmmus = IsDown st
Fits i st ClearManagers = IsDown st
Fits i st ClearStations = IsBelow st
Fits i st AwaitInitState = IsCalled st
Fits i st ClearAllFmmus = IsLowered st
Fits i st ClearAllManagers = IsLowered st
Fits i st (AssignSii access) = Unit {0}
Fits i st ClearSiiError = IsLowered st
-- no action of a script
Fits i st (FeedPart f) = ⊥
Fits i st (NameSlave t) = (t < 64) × (t ≡ i → IsClear st)
Fits i st (AwaitCleanInit t) = FitsOne t i st (AwaitCleanInit t)
Fits i st (AskWord t which) = FitsOne t i st (AskWord t which)
Fits i st (AwaitWord t which) = FitsOne t i st (AwaitWord t which)
Fits i st (SetManager t n m r) = FitsOne t i st (SetManager t n m r)
Fits i st (SetFmmu t n f start) = FitsOne t i st (SetFmmu t n f start)
Fits i st (AskState t state) = FitsOne t i st (AskState t state)
Fits i st (AwaitState t state) = FitsOne t i st (AwaitState t state)
Fits i st (SendRequest t counter b r) = FitsOne t i st (SendRequest t counter b r)
Fits i st (AwaitReply t b r) = FitsOne t i st (AwaitReply t b r)
Fits i st (AwaitFreeReply t b r) = FitsOne t i st (AwaitFreeReply t b r)

-- A manager and an FMMU that the slave has are set by the number and the address that its registers have for them.
abbrev pub IsNamed : SlaveKind → ℕ → Action → Type 0
IsNamed kind i (SetManager t n m r) = t ≡ i → (r ≡ register_of kind n m) × AreNumbered kind.hardware
IsNamed kind i (SetFmmu t n f start) = t ≡ i → (start ≡ other_name kind.hardware f.physical_start) × (n < fmmu_count kind.hardware)
-- what is written to 0x0500 stays nowhere, as the slave isn't full
IsNamed kind i (AssignSii access) = kind.face ≡ None
-- and all of them are cleared by their numbers
IsNamed kind i ClearManagers = AreNumbered kind.hardware
IsNamed kind i ClearAllManagers = AreNumbered kind.hardware
IsNamed kind i _ = Unit {0}

-- ---- the configurations on the way

abbrev pub talked_over : Config → List SdoRequest → Config
talked_over c [] = c
talked_over c (r ∷ rs) = talked_over (answered c r) rs

abbrev pub asked_all : Config → SlavePlan → Option Mailbox → Config
asked_all c p None = c
asked_all c p (Some b) = talked_over c (requests p)

-- identified, with its mailboxes, in PREOP
abbrev pub prepared : SlavePlan → Config
prepared p = record {
  managers = settings_at p.managers 0 ∷ settings_at p.managers 1 ∷ no_settings ∷ no_settings ∷ [];
  fmmus = fresh.fmmus;
  idle = true;
  talk = None;
  outs = fresh.outs;
  ins = fresh.ins;
  done = fresh.done;
  rise = Stays PreOp;
}

abbrev pub end_of : SlavePlan → Config
end_of p = record (asked_all (prepared p) p p.kind.mailbox) { managers = p.managers; fmmus = p.fmmus; rise = Stays Op }
