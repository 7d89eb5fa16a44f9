-- What the input gives, and the refusals of the input and of the link table on it (this project's profile).
use Rattle.std.specs.Prelude.{◌≡◌, ◌⊎◌, ℕ, ◌<◌, ◌^◌, List, length, Option, Ok, IfSome, Bool, true}
use Rattle.std.specs.Str.{IsUtf8}
use Rattle.ec_lines.specs.Inputs.{InputState, bytes_left}
use Rattle.ec_lines.specs.declared.error.LinesError.{LinesError}
use Rattle.ec_lines.specs.declared.error.LinesError.TheVariants as lines
use Rattle.ec_table.specs.Contents.{Contents}
use Rattle.ec_table.specs.InOrder.{Fails as TableFails}
use Rattle.ec_table.specs.Reading.{table_of}
use Rattle.ec_link.specs.Faults.{Fails as LinkFails, compile_fault}
use Rattle.ec_console.specs.declared.refusal.Refusal.{Refusal}
use Rattle.ec_console.specs.declared.refusal.Refusal.TheVariants.{Memory, Input, Table, Link}

-- The input of a run: the bytes that it gave, if they are known. `is_refused` says whether a read of it was refused by the end of
-- the run.
pub record Given : Type 0 where
  pub bytes : Option (List ℕ)
  pub is_refused : Bool

-- what a run has of an input, by what its reader gives, and what the input is before and after
abbrev pub given_by : {R : Type 0} → (remaining : R → Option (List ℕ)) → (old new : InputState R) → Given
given_by remaining old new = record { bytes = bytes_left remaining old; is_refused = new.is_refused }

-- the text is all that an input gives, if that is known
abbrev pub GivesText : Given → List ℕ → Type 0
GivesText given text = IfSome given.bytes (λ bytes. text ≡ bytes)

-- the refusals of a read: one was refused, or memory ran out, which may be at any time
abbrev pub IsReadRefusal : (is_refused : Bool) → Refusal → Type 0
IsReadRefusal is_refused Memory = Unit {0}
IsReadRefusal is_refused Input = is_refused ≡ true
IsReadRefusal is_refused _ = ⊥

-- the refusals of a file, of which nothing is known
abbrev pub IsUnread : Refusal → Type 0
IsUnread refusal = (refusal ≡ Input) ⊎ (refusal ≡ Memory)

-- bytes that are no input: more than 2^20, or no text in UTF-8
abbrev pub IsNoInput : List ℕ → Type 0
IsNoInput bytes = (2 ^ 20 < length bytes) ⊎ (IsUtf8 bytes → ⊥)

-- the refusals of an input: a read was refused, or its known bytes are no input; memory may run out at any time
abbrev pub IsInputRefusal : Given → Refusal → Type 0
IsInputRefusal given Memory = Unit {0}
IsInputRefusal given Input = (given.is_refused ≡ true) ⊎ IfSome given.bytes IsNoInput
IsInputRefusal given _ = ⊥

-- the first fault that keeps a table from having a plan; memory may run out at any time
abbrev pub IsLinkRefusal : Contents → Refusal → Type 0
IsLinkRefusal table Memory = Unit {0}
IsLinkRefusal table (Link error) = LinkFails error (compile_fault table)
IsLinkRefusal table _ = ⊥

-- the first fault of the text as a table, or of the table that it states; memory may run out at any time
abbrev pub IsTableRefusal : List ℕ → Refusal → Type 0
IsTableRefusal text Memory = Unit {0}
IsTableRefusal text (Table error) = TableFails error (table_of text)
IsTableRefusal text (Link error) = (table : Contents) × (table_of text ≡ Ok table) × LinkFails error (compile_fault table)
IsTableRefusal text _ = ⊥

-- the refusals of a command that reads a link table: a fault of the input, or of the table that it states
abbrev pub RefusesTable : Given → Refusal → Type 0
RefusesTable given refusal = IsInputRefusal given refusal ⊎ ((text : List ℕ) × GivesText given text × IsTableRefusal text refusal)

-- the refusal of a line, or of the text before a line `%%`
abbrev pub lines_refusal : LinesError → Refusal
lines_refusal lines.Memory = Memory
lines_refusal lines.Unread = Input
lines_refusal lines.TooLong = Input
lines_refusal lines.NoText = Input
