-- The refusals of the program: the number, name and values of each, and how it ends the program (this project's profile).
use Rattle.std.specs.Prelude.{ℕ, ◌==◌, ◌||◌, List, [], ◌∷◌, if◌then◌else◌, codes}
use Rattle.ec_text.specs.RefusalText.{RefusalRow, decode_row, frame_row, link_row, plain_row, start_row, table_row, row_line, row_text}
use Rattle.ec_wire.specs.Errors.{run_number, run_name}
use Rattle.ec_console.specs.declared.refusal.Refusal.{Refusal}
use Rattle.ec_console.specs.declared.refusal.Refusal.TheVariants.{Memory, Frame, Table, Link, Start, Run, Socket, Script, BadHex, Output, Input, Unmet, Unsaid}

abbrev pub refusal_row : Refusal → RefusalRow
refusal_row Memory = plain_row 1 (codes "Memory")
refusal_row (Frame error) = frame_row error
refusal_row (Table error) = table_row error
refusal_row (Link error) = link_row error
refusal_row (Start error) = start_row error
refusal_row (Run error) = plain_row (run_number error) (run_name error)
refusal_row (Socket trouble) = plain_row 43 (codes "Socket")
refusal_row (Script error) = decode_row error
refusal_row BadHex = plain_row 40 (codes "BadHex")
refusal_row Output = plain_row 41 (codes "Output")
refusal_row Input = plain_row 42 (codes "Input")
refusal_row (Unmet count) = record { number = 45; name = codes "Unmet"; values = count ∷ [] }
refusal_row (Unsaid slave) = record { number = 46; name = codes "Unsaid"; values = slave ∷ [] }

-- the refusal of a socket, whatever the system said
abbrev pub IsSocket : Refusal → Type 0
IsSocket (Socket trouble) = Unit {0}
IsSocket _ = ⊥

abbrev pub number_of : Refusal → ℕ
number_of refusal = (refusal_row refusal).number

-- the number, the name and the values, with blanks between
abbrev pub text_of : Refusal → List ℕ
text_of refusal = row_text (refusal_row refusal)

-- the line of a refusal
abbrev pub line_of : Refusal → List ℕ
line_of refusal = row_line (refusal_row refusal)

-- the exit status: 4 for a fault of a wire, the output, the input or a socket, 5 for unmet expectations, else 3
abbrev pub status_of_number : ℕ → ℕ
status_of_number n = if n == 37 || (n == 41 || (n == 42 || n == 43)) then 4 else (if n == 45 then 5 else 3)

abbrev pub status_of : Refusal → ℕ
status_of refusal = status_of_number (number_of refusal)
