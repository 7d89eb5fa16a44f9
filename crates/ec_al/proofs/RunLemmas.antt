-- One event, and then by induction the runs of them.
use Rattle.std.proofs.Common.{ℕ, suc, ◌+◌, ◌≡◌, ◌≢◌, ◌≤◌, ◌⊎◌, inl, inr, true, List, [], ◌∷◌, Result, Ok, Err, refl, ap, arith, rules}
use Rattle.std.specs.Prelude.{All}
use Rattle.std.proofs.lemmas.List.Elements.{All-head, All-tail}
use native.Mathlib.Decide.{dec_le}
use mathlib.Core.Logic.{dite}
use Rattle.ec_al.specs.States.{state_number}
use Rattle.ec_al.specs.Transitions.{requested_number, requested_by, acknowledges, answer}
use Rattle.ec_al.specs.Al.{Al, power_on, stepped, waiting, answered, faulted, IsSound}
use Rattle.ec_al.specs.Runs.{Event, Request, Step, Wait, Fault, Reset, after, after_all}
use Rattle.ec_al.specs.Laws.{height, ClimbsOneStateAtATime, KeepsErrors, ReachesOpByRequest, CodeMatchesErrors, WaitingDecidesNothing, Unacknowledging, GrantsOp}
use Rattle.ec_al.specs.declared.state.State.{State}
use Rattle.ec_al.specs.declared.state.State.TheVariants.{Init, PreOp, SafeOp, Op}
use Rattle.ec_al.specs.declared.status_code.StatusCode.{StatusCode}
use Rattle.ec_al.specs.declared.transition.Requested.{Requested}
use Rattle.ec_al.specs.declared.transition.Requested.TheVariants.{To, Bootstrap, Unknown}
use Rattle.ec_al.specs.declared.transition.Checks.{Checks}

-- ---- up by one state at most

height-answer : (state : State) (wanted : Requested) (checks : Checks) (al : Al) → al.state ≡ state → height (answered al (answer state wanted checks)).state ≤ height state + 1
height-answer Init (To Init) checks al e = grind arith
height-answer Init (To PreOp) checks al e = grind arith
height-answer Init (To SafeOp) checks al e = grind arith
height-answer Init (To Op) checks al e = grind arith
height-answer PreOp (To Init) checks al e = grind arith
height-answer PreOp (To PreOp) checks al e = grind arith
height-answer PreOp (To SafeOp) checks al e = grind arith
height-answer PreOp (To Op) checks al e = grind arith
height-answer SafeOp (To Init) checks al e = grind arith
height-answer SafeOp (To PreOp) checks al e = grind arith
height-answer SafeOp (To SafeOp) checks al e = grind arith
height-answer SafeOp (To Op) checks al e = grind arith
height-answer Op (To Init) checks al e = grind arith
height-answer Op (To PreOp) checks al e = grind arith
height-answer Op (To SafeOp) checks al e = grind arith
height-answer Op (To Op) checks al e = grind arith
height-answer Init Bootstrap checks al e = grind arith
height-answer state Bootstrap checks al e = grind arith
height-answer state Unknown checks al e = grind arith

height-after : (al : Al) (event : Event) → height (after al event).state ≤ height al.state + 1
height-after al Request = omega arith
height-after al (Step control checks) = grind (arith, height-answer al.state (requested_by control) checks al refl)
height-after al Wait = omega arith
height-after al Fault = grind arith
height-after al Reset = omega arith

pub climbs : ClimbsOneStateAtATime
climbs al [] r below reached = absurd (omega arith)
climbs al (event ∷ events) r below reached =
    let one : height (after al event).state ≤ height al.state + 1 = height-after al event in
    dite (dec_le r (height (after al event).state))
    (λ there. (1, omega arith))
    (λ further. let rest = climbs (after al event) events r (omega arith) reached in (suc rest.0, rest.1))

-- ---- the code is that of the error

sound-after : (al : Al) (event : Event) → IsSound al → IsSound (after al event)
sound-after al Request h = h
sound-after al (Step control checks) h = grind arith
sound-after al Wait h = h
sound-after al Fault h = grind arith
sound-after al Reset h = search rules

sound-after_all : (al : Al) (events : List Event) → IsSound al → IsSound (after_all al events)
sound-after_all al [] h = h
sound-after_all al (event ∷ events) h = sound-after_all (after al event) events (sound-after al event h)

pub code_tells : CodeMatchesErrors
code_tells events = sound-after_all power_on events (search rules)

-- ---- an error stays

-- an error that one event leaves, and the state and the code with it outside OP
error-after : (al : Al) (event : Event) → al.error ≡ true → Unacknowledging event → (after al event).error ≡ true
error-after al Request h quiet = h
error-after al (Step control checks) h quiet = grind arith
error-after al Wait h quiet = h
error-after al Fault h quiet = grind arith
error-after al Reset h quiet = absurd quiet

held-after : (al : Al) (event : Event) → al.error ≡ true → Unacknowledging event → al.state ≢ Op → ((after al event).state ≡ al.state) × ((after al event).code ≡ al.code)
held-after al Request h quiet below = (refl, refl)
held-after al (Step control checks) h quiet below = grind arith
held-after al Wait h quiet below = (refl, refl)
held-after al Fault h quiet below = grind arith
held-after al Reset h quiet below = absurd quiet

error-after_all : (al : Al) (events : List Event) → al.error ≡ true → All Unacknowledging events → (after_all al events).error ≡ true
error-after_all al [] h quiet = h
error-after_all al (event ∷ events) h quiet =
    error-after_all (after al event) events (error-after al event h (All-head Unacknowledging event events quiet)) (All-tail Unacknowledging event events quiet)

held-after_all : (al : Al) (events : List Event) → al.error ≡ true → All Unacknowledging events → al.state ≢ Op → ((after_all al events).state ≡ al.state) × ((after_all al events).code ≡ al.code)
held-after_all al [] h quiet below = (refl, refl)
held-after_all al (event ∷ events) h quiet below =
    let first = held-after al event h (All-head Unacknowledging event events quiet) below in
    let error = error-after al event h (All-head Unacknowledging event events quiet) in
    let rest = held-after_all (after al event) events error (All-tail Unacknowledging event events quiet) (λ op. below (cc)) in
    (cc, cc)

pub keeps_errors : KeepsErrors
keeps_errors al events h quiet = (error-after_all al events h quiet, held-after_all al events h quiet)

-- ---- into OP

op_or_not : (s : State) → (s ≡ Op) ⊎ (s ≢ Op)
op_or_not Init = inr (λ e. cc)
op_or_not PreOp = inr (λ e. cc)
op_or_not SafeOp = inr (λ e. cc)
op_or_not Op = inl refl

-- the answer that enters OP
answer-op : (state : State) (wanted : Requested) (checks : Checks) → state ≢ Op → answer state wanted checks ≡ Ok Op → (state ≡ SafeOp) × (wanted ≡ To Op)
answer-op Init (To Init) checks below entered = cc
answer-op Init (To PreOp) checks below entered = grind arith
answer-op Init (To SafeOp) checks below entered = cc
answer-op Init (To Op) checks below entered = cc
answer-op PreOp (To Init) checks below entered = cc
answer-op PreOp (To PreOp) checks below entered = cc
answer-op PreOp (To SafeOp) checks below entered = grind arith
answer-op PreOp (To Op) checks below entered = cc
answer-op SafeOp (To Init) checks below entered = cc
answer-op SafeOp (To PreOp) checks below entered = cc
answer-op SafeOp (To SafeOp) checks below entered = cc
answer-op SafeOp (To Op) checks below entered = (refl, refl)
answer-op Op wanted checks below entered = absurd (below refl)
answer-op Init Bootstrap checks below entered = cc
answer-op state Bootstrap checks below entered = cc
answer-op state Unknown checks below entered = cc

-- an answer after which the state is another one was a grant
granted-state : (al : Al) (r : Result State StatusCode) (s : State) → al.state ≢ s → (answered al r).state ≡ s → r ≡ Ok s
granted-state al (Ok state) s other now = cc
granted-state al (Err code) s other now = absurd (other now)

-- a control word that asks for OP has its number
asked-op : (control : ℕ) → requested_by control ≡ To Op → requested_number control ≡ state_number Op
asked-op control e = grind arith

grants-op : (al : Al) (control : ℕ) (checks : Checks) → al.state ≢ Op → al.requested ≡ true → (answered al (answer al.state (requested_by control) checks)).state ≡ Op → (al.state ≡ SafeOp) × (requested_number control ≡ state_number Op)
grants-op al control checks below waits there =
    let entered = answer-op al.state (requested_by control) checks below (granted-state al (answer al.state (requested_by control) checks) Op below there) in
    (entered.0, asked-op control entered.1)

step-op : (al : Al) (control : ℕ) (checks : Checks) → al.state ≢ Op → (stepped al control checks).state ≡ Op → (al.requested ≡ true) × ((answered al (answer al.state (requested_by control) checks)).state ≡ Op)
step-op al control checks below there = grind arith

step-acknowledged : (al : Al) (control : ℕ) (checks : Checks) → al.state ≢ Op → (stepped al control checks).state ≡ Op → al.error ≡ true → acknowledges control ≡ true
step-acknowledged al control checks below there e = grind arith

faulted-op : (al : Al) → al.state ≢ Op → (faulted al).state ≢ Op
faulted-op al below there = grind arith

entered-op : (al : Al) (event : Event) → al.state ≢ Op → (after al event).state ≡ Op → (control : ℕ) × ((checks : Checks) × ((event ≡ Step control checks) × GrantsOp al control checks))
entered-op al Request below there = absurd (below there)
entered-op al (Step control checks) below there =
    let step = step-op al control checks below there in
    let grant = grants-op al control checks below step.0 step.1 in
    (control, (checks, (refl, record { from = grant.0; waits = step.0; asked = grant.1; acknowledged = step-acknowledged al control checks below there; granted = there })))
entered-op al Wait below there = absurd (below there)
entered-op al Fault below there = absurd (faulted-op al below there)
entered-op al Reset below there = cc

pub reaches : ReachesOpByRequest
reaches al [] below there = absurd (below there)
reaches al (event ∷ events) below there = elim (op_or_not (after al event).state) [
  | inl now ↦ (let found = entered-op al event below now in
      ([], (events, (found.0, (found.1.0, (ap (λ e. e ∷ events) found.1.1.0, found.1.1.1))))))
  | inr not_yet ↦ (let rest = reaches (after al event) events not_yet there in
      (event ∷ rest.0, (rest.1.0, (rest.1.1.0, (rest.1.1.1.0, (ap (λ es. event ∷ es) rest.1.1.1.1.0, rest.1.1.1.1.1))))))
]

-- ---- requests that wait

-- with a request that waits, the count of the steps alone is lost
waited-decided : (al : Al) (control : ℕ) (checks : Checks) → al.requested ≡ true → stepped (waiting al) control checks ≡ stepped al control checks
waited-decided al control checks waits = rw waits refl

pub waits_alone : WaitingDecidesNothing
waits_alone al = record { status = refl; code = refl; decided = waited-decided al; again = refl }

-- ---- numbers of states

pub small_number : (s : State) → state_number s ≤ 8
small_number Init = omega arith
small_number PreOp = omega arith
small_number SafeOp = omega arith
small_number Op = omega arith
