-- The numbers that the AL registers have for states and faults (ETG.1000.6, "AL control", "AL status", "AL status code"), and
-- the names of states.
use Rattle.std.specs.Prelude.{ℕ, ◌≡◌, ◌≢◌, List, Option, Some, None, if◌then◌else◌, codes}
use Rattle.std.specs.Str.{bytes_eq}
use Rattle.ec_al.specs.declared.state.State.{State}
use Rattle.ec_al.specs.declared.state.State.TheVariants.{Init, PreOp, SafeOp, Op}
use Rattle.ec_al.specs.declared.status_code.StatusCode.{StatusCode}
use Rattle.ec_al.specs.declared.status_code.StatusCode.TheVariants.{Unspecified, InvalidStateChange, UnknownState, BootstrapNotSupported, InvalidMailboxConfiguration, InvalidOutputConfiguration, InvalidInputConfiguration}

-- a state's number in the control and the status word
abbrev pub state_number : State → ℕ
state_number Init = 1
state_number PreOp = 2
state_number SafeOp = 4
state_number Op = 8

-- the state with a number, or that no state has it
abbrev pub IsStateOf : ℕ → Option State → Type 0
IsStateOf n (Some s) = n ≡ state_number s
IsStateOf n None = (s : State) → n ≢ state_number s

abbrev pub state_name : State → List ℕ
state_name Init = codes "INIT"
state_name PreOp = codes "PREOP"
state_name SafeOp = codes "SAFEOP"
state_name Op = codes "OP"

-- the state with a name
unfoldable pub state_named : List ℕ → Option State
state_named name =
    if bytes_eq name (codes "INIT") then Some Init else
    (if bytes_eq name (codes "PREOP") then Some PreOp else
    (if bytes_eq name (codes "SAFEOP") then Some SafeOp else
    (if bytes_eq name (codes "OP") then Some Op else None)))

-- the number of BOOT, which these slaves lack
abbrev pub bootstrap_number : ℕ
bootstrap_number = 3

abbrev pub code_number : StatusCode → ℕ
code_number Unspecified = 0x0001
code_number InvalidStateChange = 0x0011
code_number UnknownState = 0x0012
code_number BootstrapNotSupported = 0x0013
code_number InvalidMailboxConfiguration = 0x0016
code_number InvalidOutputConfiguration = 0x001D
code_number InvalidInputConfiguration = 0x001E
