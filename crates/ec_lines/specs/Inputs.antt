-- An input, what it has left, how often it was read, and whether a read of it was refused (a choice of this project).
use Rattle.std.specs.Prelude.{ℕ, ◌+◌, ◌-◌, ◌^◌, ◌≤◌, min, Bool, true, false, List, Option, Result, Ok, Err}
use Rattle.std.specs.Io.KnownBytes.{prepend_known}
use Rattle.std.specs.IoError.{error_kind}
use Rattle.std.specs.declared.io.Error.{Error}
use Rattle.std.specs.declared.io.ErrorKind.{ErrorKind}
use Rattle.std.specs.declared.io.ErrorKind.TheVariants.{Interrupted, OutOfMemory}
use Rattle.ec_lines.specs.declared.error.LinesError.{LinesError}
use Rattle.ec_lines.specs.declared.error.LinesError.TheVariants.{Memory, Unread}

-- the bytes that were read and are not yet taken; the stream that is read; whether a read of it was ever refused, or it was given
-- up; and how often it was read
pub record InputState (R : Type 0) : Type 0 where
  pub ahead : List ℕ
  pub stream : R
  pub is_refused : Bool
  pub reads : ℕ

-- what an input has left: the bytes that were read ahead, and then what its stream has left, where that is known
abbrev pub bytes_left : {R : Type 0} → (remaining : R → Option (List ℕ)) → InputState R → Option (List ℕ)
bytes_left remaining input = prepend_known input.ahead (remaining input.stream)

-- one read more, as far as 64 bits count
abbrev pub one_more : ℕ → ℕ
one_more reads = min (reads + 1) (2 ^ 64 - 1)

-- the input was read so often that it may be given up
abbrev pub IsSpent : ℕ → Type 0
IsSpent reads = 2 ^ 64 - 1 ≤ reads

-- an error by which a read is refused: not an interruption, after which it is made again, nor want of memory
abbrev pub is_refusal : ErrorKind → Bool
is_refusal Interrupted = false
is_refusal OutOfMemory = false
is_refusal _ = true

abbrev pub is_read_refused : Result ℕ Error → Bool
is_read_refused (Ok count) = false
is_read_refused (Err error) = is_refusal (error_kind error)

-- the error for a read that gave an error and wasn't interrupted
abbrev pub read_fault : ErrorKind → LinesError
read_fault OutOfMemory = Memory
read_fault _ = Unread
