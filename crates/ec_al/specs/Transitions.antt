-- The answer to a requested state (ETG.1000.6, "EtherCAT state machine", the table of its transitions).
use Rattle.std.specs.Prelude.{ℕ, ◌==◌, Bool, nat_le, if◌then◌else◌, Result, Ok, Err}
use Rattle.ec_regs.specs.Words.{al_state, al_flag}
use Rattle.ec_al.specs.States.{state_number, bootstrap_number}
use Rattle.ec_al.specs.declared.state.State.{State}
use Rattle.ec_al.specs.declared.state.State.TheVariants.{Init, PreOp, SafeOp, Op}
use Rattle.ec_al.specs.declared.status_code.StatusCode.{StatusCode}
use Rattle.ec_al.specs.declared.status_code.StatusCode.TheVariants.{InvalidStateChange, UnknownState, BootstrapNotSupported, InvalidMailboxConfiguration, InvalidOutputConfiguration, InvalidInputConfiguration}
use Rattle.ec_al.specs.declared.transition.Requested.{Requested}
use Rattle.ec_al.specs.declared.transition.Requested.TheVariants.{To, Bootstrap, Unknown}
use Rattle.ec_al.specs.declared.transition.Checks.{Checks}

-- the number of the state that a control word asks for
abbrev pub requested_number : ℕ → ℕ
requested_number control = al_state control

-- what that number stands for
abbrev pub requested_by : ℕ → Requested
requested_by control =
    let number = requested_number control in
    if number == state_number Init then To Init
    else (if number == state_number PreOp then To PreOp
    else (if number == bootstrap_number then Bootstrap
    else (if number == state_number SafeOp then To SafeOp
    else (if number == state_number Op then To Op
    else Unknown))))

-- whether it acknowledges an error
abbrev pub acknowledges : ℕ → Bool
acknowledges control = al_flag control

-- The state that is entered, or why none is; the first line that fits decides.
abbrev pub answer : State → Requested → Checks → Result State StatusCode
answer state Unknown checks = Err UnknownState
answer Init Bootstrap checks = Err BootstrapNotSupported
answer state Bootstrap checks = Err InvalidStateChange
-- one step up, by what the step needs of the configuration
answer Init (To PreOp) checks = if checks.mailbox then Ok PreOp else Err InvalidMailboxConfiguration
answer PreOp (To SafeOp) checks =
    if checks.outputs then (if checks.inputs then Ok SafeOp else Err InvalidInputConfiguration)
    else Err InvalidOutputConfiguration
answer SafeOp (To Op) checks = Ok Op
-- the same state or one below is always granted, a step that skips a state never
answer state (To wanted) checks =
    if nat_le (state_number wanted) (state_number state) then Ok wanted else Err InvalidStateChange
