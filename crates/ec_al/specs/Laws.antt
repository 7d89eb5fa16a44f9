-- What ETG.1000.6 says of the EtherCAT state machine, proved of the definitions of this crate. The laws over runs speak of devices
-- with firmware.
use Rattle.std.specs.Prelude.{ℕ, ◌+◌, ◌%◌, ◌≡◌, ◌≢◌, ◌<◌, ◌≤◌, ◌↔◌, ◌⊎◌, true, false, List, [], ◌∷◌, ◌++◌, take, Some, IsOk, IfOk, All}
use Rattle.ec_regs.specs.Words.{al_state}
use Rattle.ec_al.specs.States.{state_number, state_name, state_named, bootstrap_number}
use Rattle.ec_al.specs.Transitions.{requested_number, requested_by, acknowledges, answer}
use Rattle.ec_al.specs.Al.{Al, copied, power_on, status_word, requesting, waiting, stepped, IsSound}
use Rattle.ec_al.specs.Runs.{Event, Request, Step, Wait, Fault, Reset, after_all}
use Rattle.ec_al.specs.declared.state.State.{State}
use Rattle.ec_al.specs.declared.state.State.TheVariants.{Init, PreOp, SafeOp, Op}
use Rattle.ec_al.specs.declared.transition.Requested.TheVariants.{To}
use Rattle.ec_al.specs.declared.transition.Checks.{Checks}

-- how far up a state stands: how many steps up from INIT
abbrev pub height : State → ℕ
height Init = 0
height PreOp = 1
height SafeOp = 2
height Op = 3

-- A control word asks for a state exactly by that state's number.
abbrev pub AsksByNumber : Type 0
AsksByNumber =
    (control : ℕ) (wanted : State) →
    (requested_by control ≡ To wanted) ↔ (requested_number control ≡ state_number wanted)

-- what a step up needs of the configuration
abbrev pub PassesChecks : Checks → State → Type 0
PassesChecks checks Init = Unit {0}
PassesChecks checks PreOp = checks.mailbox ≡ true
PassesChecks checks SafeOp = (checks.outputs ≡ true) × (checks.inputs ≡ true)
PassesChecks checks Op = Unit {0}

-- A request for a state is granted exactly for the same state, for a lower one, and for the next one up if its
-- checks pass; what is granted is the state that was asked for.
abbrev pub GrantsUpToTheNextState : Type 0
GrantsUpToTheNextState =
    (state wanted : State) (checks : Checks) →
    (IsOk (answer state (To wanted) checks)
    ↔ ((height wanted ≤ height state) ⊎ ((height wanted ≡ height state + 1) × PassesChecks checks wanted)))
    × IfOk (answer state (To wanted) checks) (λ entered. entered ≡ wanted)

-- No transition skips a state upwards: a run that comes up to a state passes each one between.
abbrev pub ClimbsOneStateAtATime : Type 0
ClimbsOneStateAtATime =
    (al : Al) (events : List Event) (r : ℕ) →
    height al.state < r → r ≤ height (after_all al events).state →
    (n : ℕ) × (height (after_all al (take n events)).state ≡ r)

-- neither a reset nor an acknowledgement of an error
abbrev pub Unacknowledging : Event → Type 0
Unacknowledging Request = Unit {0}
Unacknowledging (Step control checks) = acknowledges control ≡ false
Unacknowledging Wait = Unit {0}
Unacknowledging Fault = Unit {0}
Unacknowledging Reset = ⊥

-- An error stays until it is acknowledged, and so does the state, a fault in OP aside, whatever is requested.
abbrev pub KeepsErrors : Type 0
KeepsErrors =
    (al : Al) (events : List Event) →
    al.error ≡ true → All Unacknowledging events →
    ((after_all al events).error ≡ true)
    × (al.state ≢ Op → ((after_all al events).state ≡ al.state) × ((after_all al events).code ≡ al.code))

-- a firmware step at which a request that waits for OP is granted
pub record GrantsOp (before : Al) (control : ℕ) (checks : Checks) : Type 0 where
  pub from : before.state ≡ SafeOp
  pub waits : before.requested ≡ true
  pub asked : requested_number control ≡ state_number Op
  pub acknowledged : before.error ≡ true → acknowledges control ≡ true
  pub granted : (stepped before control checks).state ≡ Op

-- OP is reached only from SAFEOP, by a granted request for it.
abbrev pub ReachesOpByRequest : Type 0
ReachesOpByRequest =
    (al : Al) (events : List Event) →
    al.state ≢ Op → (after_all al events).state ≡ Op →
    (earlier : List Event) × ((later : List Event) × ((control : ℕ) × ((checks : Checks) ×
    ((events ≡ earlier ++ Step control checks ∷ later) × GrantsOp (after_all al earlier) control checks))))

-- The status code is 0 exactly without an error, after every run from power-on.
abbrev pub CodeMatchesErrors : Type 0
CodeMatchesErrors = (events : List Event) → IsSound (after_all power_on events)

-- BOOT is never entered: no status word ever shows it, and no request for it changes the state.
abbrev pub NeverEntersBootstrap : Type 0
NeverEntersBootstrap =
    ((al : Al) → al_state (status_word al) ≢ bootstrap_number)
    × ((al : Al) (control : ℕ) (checks : Checks) →
    requested_number control ≡ bootstrap_number → (stepped al control checks).state ≡ al.state)

-- A request is decided once, by the first firmware step after it that doesn't let it wait; requests until then count as one.
abbrev pub DecidesOnce : Type 0
DecidesOnce =
    (al : Al) (control : ℕ) (checks : Checks) →
    ((stepped al control checks).requested ≡ false)
    × ((later : ℕ) (others : Checks) →
    stepped (stepped al control checks) later others ≡ stepped al control checks)
    × (requesting (requesting al) ≡ requesting al)

-- A step that lets a request wait shows nothing, and changes nothing of how it is decided; and the next request waits anew.
pub record WaitsAlone (al : Al) : Type 0 where
  pub status : status_word (waiting al) ≡ status_word al
  pub code : (waiting al).code ≡ al.code
  pub decided : (control : ℕ) (checks : Checks) → al.requested ≡ true → stepped (waiting al) control checks ≡ stepped al control checks
  pub again : requesting (waiting al) ≡ requesting al

abbrev pub WaitingDecidesNothing : Type 0
WaitingDecidesNothing = (al : Al) → WaitsAlone al

-- From every state, and with every error, a request for INIT with the acknowledgement (0x0011) leads to INIT without
-- error.
abbrev pub ReturnsToInit : Type 0
ReturnsToInit = (al : Al) (checks : Checks) → stepped (requesting al) 0x0011 checks ≡ power_on

-- a firmware step that finds a new request
abbrev pub asked_for : ℕ → Checks → List Event
asked_for control checks = Request ∷ Step control checks ∷ []

-- If all checks pass, requests for PREOP, SAFEOP and OP lead from INIT to OP without error.
abbrev pub ComesUpToOp : Type 0
ComesUpToOp =
    (checks : Checks) → PassesChecks checks PreOp → PassesChecks checks SafeOp →
    status_word (after_all power_on
    (asked_for 0x0002 checks ++ asked_for 0x0004 checks ++ asked_for 0x0008 checks)) ≡ 0x0008

-- A device without firmware shows what is written: its status word becomes bits 0..4 of the control word, where they name a
-- state, acknowledge and all.
abbrev pub CopiesAreShown : Type 0
CopiesAreShown =
    (al : Al) (control : ℕ) (wanted : State) →
    requested_by control ≡ To wanted → status_word (copied al control) ≡ control % 32

-- The name of a state stands for that state.
abbrev pub NamesReadBack : Type 0
NamesReadBack = (state : State) → state_named (state_name state) ≡ Some state
