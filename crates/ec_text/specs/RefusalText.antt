-- A refusal as text: its number, its name and its values (this project's profile).
use Rattle.std.specs.Prelude.{ℕ, List, [], ◌∷◌, ◌++◌, Option, None, Some, codes}
use Rattle.std.specs.Fmt.{decimal}
use Rattle.std.specs.List.{flat_map}
use Rattle.ec_frame.specs.Refusals.{refusal_number}
use Rattle.ec_frame.specs.declared.error.FrameError.{FrameError}
use Rattle.ec_decode.specs.declared.error.DecodeError.{DecodeError}
use Rattle.ec_decode.specs.Faults as payload
use Rattle.ec_decode.specs.Reading as decode
use Rattle.ec_table.specs.declared.fault.Position.{Position}
use Rattle.ec_table.specs.Errors.{TableError}
use Rattle.ec_table.specs.Faults.{section_number}
use Rattle.ec_table.specs.Faults as table
use Rattle.ec_link.specs.Errors.{LinkError}
use Rattle.ec_link.specs.Faults as link
use Rattle.ec_start.specs.declared.error.StartError.{StartError}
use Rattle.ec_start.specs.Errors as start
use Rattle.ec_cycle.specs.declared.error.CycleError.{CycleError}
use Rattle.ec_cycle.specs.Refusals as cycle

pub record RefusalRow : Type 0 where
  pub number : ℕ
  pub name : List ℕ
  pub values : List ℕ

-- ---- as text

-- values in decimal, each with a blank before it
abbrev pub values_text : List ℕ → List ℕ
values_text values = flat_map (λ value. 32 ∷ decimal value) values

-- the number, the name and the values, with blanks between
abbrev pub row_text : RefusalRow → List ℕ
row_text told = decimal told.number ++ 32 ∷ told.name ++ values_text told.values

-- the line on the fault stream
abbrev pub row_line : RefusalRow → List ℕ
row_line told = codes "ecat: " ++ row_text told ++ 10 ∷ []

-- ---- the number, name and values of each error

-- nothing but its number and its name
abbrev pub plain_row : ℕ → List ℕ → RefusalRow
plain_row number name = record { number = number; name = name; values = [] }

-- where it is, or how many there are, if the error says so
abbrev pub one_value : Option ℕ → List ℕ
one_value None = []
one_value (Some value) = value ∷ []

abbrev pub frame_row : FrameError → RefusalRow
frame_row error = plain_row (refusal_number error) (payload.error_name error)

-- the number of the bad line
abbrev pub decode_row : DecodeError → RefusalRow
decode_row error = record { number = decode.error_number error; name = decode.error_name error; values = one_value (decode.error_line error) }

-- the section of a fault, as a number, and its place there
abbrev pub position_values : Option Position → List ℕ
position_values None = []
position_values (Some position) = section_number position.section ∷ position.element ∷ []

abbrev pub table_row : TableError → RefusalRow
table_row error = record { number = table.error_number error; name = table.error_name error; values = position_values (table.error_position error) }

-- the fault's place, or how many slaves or parts there are
abbrev pub link_row : LinkError → RefusalRow
link_row error = record { number = link.error_number error; name = link.error_name error; values = one_value (link.error_value error) }

abbrev pub start_row : StartError → RefusalRow
start_row error = record { number = start.error_number error; name = start.error_name error; values = start.error_values error }

abbrev pub cycle_row : CycleError → RefusalRow
cycle_row error = plain_row (cycle.refusal_number error) (cycle.refusal_name error)
