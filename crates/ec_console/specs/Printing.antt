-- What a command leaves on the output, and on the fault stream.
use Rattle.std.specs.Prelude.{◌≡◌, ◌⊎◌, ℕ, ◌+◌, ◌-◌, ◌^◌, ◌≤◌, ◌==◌, min, Bool, true, false, List, take, Option, Result, Ok, Err}
use Rattle.std.specs.Io.KnownBytes.{Appends}
use Rattle.std.specs.IoError.{error_kind}
use Rattle.std.specs.declared.io.Error.{Error}
use Rattle.std.specs.declared.io.ErrorKind.{ErrorKind}
use Rattle.std.specs.declared.io.ErrorKind.TheVariants.{Interrupted}
use Rattle.ec_console.specs.declared.refusal.Refusal.{Refusal}
use Rattle.ec_console.specs.declared.refusal.Refusal.TheVariants.{Output}

-- ---- a stream that is written

-- what a stream holds, if that is known, and how often it was written. `is_refused`: a write or a flush was refused, or it was given
-- up; `is_flushed`: a flush has handed on all written bytes
pub record OutputState : Type 0 where
  pub holds : Option (List ℕ)
  pub is_refused : Bool
  pub is_flushed : Bool
  pub writes : ℕ

-- one write more, as far as 64 bits count
abbrev pub one_more : ℕ → ℕ
one_more writes = min (writes + 1) (2 ^ 64 - 1)

-- the stream was written so often that it may be given up
abbrev pub IsSpent : ℕ → Type 0
IsSpent writes = 2 ^ 64 - 1 ≤ writes

-- an error by which a write is refused: not an interruption, after which it is made again
abbrev pub is_refusal : ErrorKind → Bool
is_refusal Interrupted = false
is_refusal _ = true

-- a write is refused by such an error, or if it took nothing
abbrev pub is_write_refused : Result ℕ Error → Bool
is_write_refused (Ok count) = count == 0
is_write_refused (Err error) = is_refusal (error_kind error)

abbrev pub is_flush_refused : Result Unit Error → Bool
is_flush_refused (Ok done) = false
is_flush_refused (Err error) = true

-- ---- a text on it

-- All of a text stands once behind what the stream held, and is handed on. No further write was refused.
pub record IsPrinted (old new : OutputState) (text : List ℕ) : Type 0 where
  pub bytes : Appends old.holds new.holds text
  pub refused : new.is_refused ≡ old.is_refused
  pub flushed : old.is_flushed ≡ true → new.is_flushed ≡ true

-- a first part of a text stands behind what the stream held
abbrev pub IsPartPrinted : (old new : OutputState) → List ℕ → Type 0
IsPartPrinted old new text = (count : ℕ) × Appends old.holds new.holds (take count text)

-- a write or a flush was refused, and a first part of the text stands there
pub record IsCutOff (old new : OutputState) (text : List ℕ) : Type 0 where
  pub refused : new.is_refused ≡ true
  pub part : IsPartPrinted old new text

-- ---- the output

-- a text is printed once; or a write was refused, and a first part of it is printed
abbrev pub PrintsText : List ℕ → (old new : OutputState) → Result Unit Refusal → Type 0
PrintsText text old new (Ok done) = IsPrinted old new text
PrintsText text old new (Err refusal) = (refusal ≡ Output) × IsCutOff old new text

-- how a command ends that prints a text as a whole. It is printed; or a write was refused, and a first part of it is printed;
-- or the command is refused, and nothing is printed
abbrev pub Prints : (List ℕ → Type 0) → (Refusal → Type 0) → (old new : OutputState) → Result Unit Refusal → Type 0
Prints Answers Refuses old new (Ok done) = (text : List ℕ) × Answers text × IsPrinted old new text
Prints Answers Refuses old new (Err refusal) =
    (Refuses refusal × (new ≡ old)) ⊎ ((refusal ≡ Output) × ((text : List ℕ) × Answers text × IsCutOff old new text))

-- ---- the fault stream

-- A text is printed on the fault stream: all of it, unless a write was refused. A refused write changes nothing else.
abbrev pub IsEprinted : (text : List ℕ) → (old new : OutputState) → Type 0
IsEprinted text old new = IsPrinted old new text ⊎ IsCutOff old new text
