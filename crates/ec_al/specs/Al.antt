-- The AL state machine of a slave (ETG.1000.6, "EtherCAT state machine").
use Rattle.std.specs.Prelude.{ℕ, ◌+◌, ◌&&◌, ◌↔◌, ◌≡◌, Bool, true, false, not, if◌then◌else◌, Result, Ok, Err}
use Rattle.ec_regs.specs.Words.{al_word}
use Rattle.ec_al.specs.States.{state_number, code_number}
use Rattle.ec_al.specs.Transitions.{requested_by, acknowledges, answer}
use Rattle.ec_al.specs.declared.machine.Indication.{Indication}
use Rattle.ec_al.specs.declared.machine.Indication.TheVariants.{Clear, Code, Copied}
use Rattle.ec_al.specs.declared.state.State.{State}
use Rattle.ec_al.specs.declared.state.State.TheVariants.{Init, SafeOp, Op}
use Rattle.ec_al.specs.declared.status_code.StatusCode.{StatusCode}
use Rattle.ec_al.specs.declared.status_code.StatusCode.TheVariants.{Unspecified}
use Rattle.ec_al.specs.declared.transition.Checks.{Checks}
use Rattle.ec_al.specs.declared.transition.Requested.{Requested}
use Rattle.ec_al.specs.declared.transition.Requested.TheVariants.{To, Bootstrap, Unknown}

pub record Al : Type 0 where
  pub state : State
  -- the error indication, bit 4 of the status word
  pub error : Bool
  -- the status code
  pub code : ℕ
  -- whether a request waits: the control word was written since the last firmware step that decided one
  pub requested : Bool
  -- how many firmware steps let it wait
  pub waited : ℕ

-- as a slave powers on
abbrev pub power_on : Al
power_on = record { state = Init; error = false; code = 0; requested = false; waited = 0 }

-- the AL status word that shows it
abbrev pub status_word : Al → ℕ
status_word al = al_word (state_number al.state) al.error

-- the control word is written: a new request waits from now on
abbrev pub requesting : Al → Al
requesting al = record { state = al.state; error = al.error; code = al.code; requested = true; waited = 0 }

-- a firmware step of a slow device lets the request wait
abbrev pub waiting : Al → Al
waiting al = record { state = al.state; error = al.error; code = al.code; requested = al.requested; waited = al.waited + 1 }

-- a request is answered: granted, the state is entered without error; refused, it stays and the error says why
abbrev pub answered : Al → Result State StatusCode → Al
answered al (Ok state) = record { state = state; error = false; code = 0; requested = false; waited = 0 }
answered al (Err code) = record { state = al.state; error = true; code = code_number code; requested = false; waited = 0 }

-- a request is ignored
abbrev pub ignored : Al → Al
ignored al = record { state = al.state; error = al.error; code = al.code; requested = false; waited = 0 }

-- A request is decided by the control word as it then stands. While there is an error that it doesn't acknowledge
-- nothing changes, whatever state is requested (this project's profile).
abbrev pub decided : Al → ℕ → Checks → Al
decided al control checks =
    if al.error && not (acknowledges control) then ignored al
    else answered al (answer al.state (requested_by control) checks)

-- a firmware step decides the request that waits, if one does
abbrev pub stepped : Al → ℕ → Checks → Al
stepped al control checks = if al.requested then decided al control checks else al

-- A device without firmware, whose controller runs its AL state machine (the datasheets of slave controllers, "Device emulation"):
-- bits 0..4 of the control word become the status word's, if they name a state; nothing is checked, and there is no code.
abbrev pub copied_to : Al → Requested → Bool → Al
copied_to al (To state) flag = record { state = state; error = flag; code = 0; requested = false; waited = 0 }
copied_to al Bootstrap flag = ignored al
copied_to al Unknown flag = ignored al

abbrev pub copied : Al → ℕ → Al
copied al control = copied_to al (requested_by control) (acknowledges control)

abbrev pub is_operational : State → Bool
is_operational Op = true
is_operational state = false

-- a fault of the application takes OP back to SAFEOP; in other states it does nothing (this project's profile)
abbrev pub faulted : Al → Al
faulted al =
    if is_operational al.state
    then record { state = SafeOp; error = true; code = code_number Unspecified; requested = al.requested; waited = al.waited }
    else al

-- the code is 0 exactly without an error, in a device with firmware
abbrev pub IsSound : Al → Type 0
IsSound al = (al.code ≡ 0) ↔ (al.error ≡ false)

-- what an indication shows: bit 4 of the status word, and the code
abbrev pub is_shown : Indication → Bool
is_shown Clear = false
is_shown (Code code) = true
is_shown Copied = true

abbrev pub shown_code : Indication → ℕ
shown_code Clear = 0
shown_code (Code code) = code_number code
shown_code Copied = 0
