-- What a capture adds to a command (this project's profile). Nothing can be known of a file but that it was refused.
use Rattle.std.specs.Prelude.{◌≡◌, ◌⊎◌, ◌||◌, not, if◌then◌else◌, ℕ, Bool, true, false, List, Option, None, Some, Result, Ok, Err}
use Rattle.ec_capture.specs.Recordings.{Recording}
use Rattle.ec_console.specs.declared.refusal.Refusal.{Refusal}
use Rattle.ec_console.specs.declared.refusal.Refusal.TheVariants.{Memory, Output, Unmet}

-- the file of a capture can't be opened or begun, or there is no memory for it
abbrev pub IsUnopened : Refusal → Type 0
IsUnopened refusal = (refusal ≡ Output) ⊎ (refusal ≡ Memory)

-- whether all of a capture is written and handed on, if there is one
abbrev pub is_complete : Option Recording → Bool
is_complete None = true
is_complete (Some recording) = recording.is_whole

-- a run was through, but something that it expected wasn't so
abbrev pub is_unmet : Refusal → Bool
is_unmet (Unmet count) = true
is_unmet _ = false

-- a command was through, whether or not all that it expected was so
abbrev pub is_through : Result Unit Refusal → Bool
is_through (Ok done) = true
is_through (Err refusal) = is_unmet refusal

-- how a command with a capture ends: by `Output` if it was through and the capture isn't whole, else as it ended
abbrev pub finished : (is_whole : Bool) → Result Unit Refusal → Result Unit Refusal
finished is_whole ended = if is_whole || not (is_through ended) then ended else Err Output

-- a command was through
abbrev pub IsThrough : (Result Unit Refusal → Type 0) → Type 0
IsThrough Ends = (through : Result Unit Refusal) × (is_through through ≡ true) × Ends through

-- A command ends as it does without a capture. Or it was through, and the capture isn't whole. Or the file couldn't be opened, and
-- nothing was done.
abbrev pub EndsCaptured : (Result Unit Refusal → Type 0) → (Nothing : Type 0) → Result Unit Refusal → Type 0
EndsCaptured Ends Nothing ended =
    Ends ended ⊎ (((ended ≡ Err Output) × IsThrough Ends) ⊎ ((refusal : Refusal) × (ended ≡ Err refusal) × IsUnopened refusal × Nothing))

-- how a command ends, by the file of its capture, if there is to be one
abbrev pub EndsWith : Option (List ℕ) → (Result Unit Refusal → Type 0) → (Nothing : Type 0) → Result Unit Refusal → Type 0
EndsWith None Ends Nothing ended = Ends ended
EndsWith (Some file) Ends Nothing ended = EndsCaptured Ends Nothing ended
