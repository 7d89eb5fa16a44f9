-- The register words of the AL state machine and of the SII port (ETG.1000.4, "AL control", "AL status", "SII control/status").
use Rattle.std.specs.Prelude.{ℕ, ◌+◌, ◌*◌, ◌/◌, ◌%◌, ◌==◌, ◌≡◌, ◌<◌, Bool}
use Rattle.std.specs.Int.{bit_at, from_bool}

-- bits 0..3: the state, in the control word the one that is asked for
abbrev pub al_state : ℕ → ℕ
al_state word = word % 16

-- bit 4: the error of a status word, the acknowledge of a control word
abbrev pub al_flag : ℕ → Bool
al_flag word = bit_at word 4 == 1

-- the word of a state and a flag
abbrev pub al_word : ℕ → Bool → ℕ
al_word state flag = state + 16 * from_bool flag

-- bits 8..10: the command, 1 to read
abbrev pub sii_command : ℕ → ℕ
sii_command word = word / 256 % 8

-- bit 13: the last command was refused
abbrev pub sii_error : ℕ → Bool
sii_error word = bit_at word 13 == 1

-- bit 15: a command is being worked on
abbrev pub sii_busy : ℕ → Bool
sii_busy word = bit_at word 15 == 1

-- the word of a command and the two flags
abbrev pub sii_word : ℕ → Bool → Bool → ℕ
sii_word command error busy = 256 * command + 8192 * from_bool error + 32768 * from_bool busy

-- a word of a state has that state and that flag
abbrev pub AlIsReadBack : Type 0
AlIsReadBack = (state : ℕ) (flag : Bool) → state < 16 → (al_state (al_word state flag) ≡ state) × (al_flag (al_word state flag) ≡ flag)

-- a word of a command has that command and those flags
abbrev pub SiiIsReadBack : Type 0
SiiIsReadBack = (command : ℕ) (error busy : Bool) → command < 8 → (sii_command (sii_word command error busy) ≡ command) × (sii_error (sii_word command error busy) ≡ error) × (sii_busy (sii_word command error busy) ≡ busy)
