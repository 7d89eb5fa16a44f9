-- What single words of a line stand for (this project's profile).
use Rattle.std.specs.Prelude.{ℕ, List, false, if◌then◌else◌, Option, Some, None, option_and_then, option_map, slice_get, codes}
use Rattle.std.specs.Char.{is_ascii_digit}
use Rattle.std.specs.List.{list_all}
use Rattle.std.specs.Str.{bytes_eq}
use Rattle.ec_al.specs.declared.state.State.{State}
use Rattle.ec_al.specs.declared.state.State.TheVariants.{Init, PreOp, SafeOp, Op}
use Rattle.ec_table.specs.Contents.{Contents}
use Rattle.ec_table.specs.declared.rows.SlaveRow.{SlaveRow}
use Rattle.ec_table.specs.declared.rows.VariableRow.{VariableRow}
use Rattle.ec_table.specs.Names.{index_named}
use Rattle.ec_script.specs.declared.value.WrittenValue.{WrittenValue}
use Rattle.ec_script.specs.Words.{Text, bounds_of, held_in, number_of, byte_of, code_of, value_of}

infixl 10 ◌>>=◌
abbrev pub ◌>>=◌ : {A B : Type 0} → Option A → (A → Option B) → Option B
o >>= f = option_and_then f o

-- ---- names

-- the place of the variable with this name
abbrev pub variable_named : List VariableRow → Text → Option ℕ
variable_named variables name = index_named (λ (v : VariableRow). v.name) name variables

-- the place of the slave with this name
abbrev pub slave_named : List SlaveRow → Text → Option ℕ
slave_named slaves name = index_named (λ (s : SlaveRow). s.name) name slaves

-- a slave by its number or by its name; a word of digits alone is a number
unfoldable pub slave_in : Contents → Text → Option ℕ
slave_in t word = if list_all is_ascii_digit word then number_of word else slave_named t.slaves word

unfoldable pub state_named : Text → Option State
state_named name =
    if bytes_eq name (codes "INIT") then Some Init else
    (if bytes_eq name (codes "PREOP") then Some PreOp else
    (if bytes_eq name (codes "SAFEOP") then Some SafeOp else
    (if bytes_eq name (codes "OP") then Some Op else None)))

-- ---- values

abbrev pub row_value : Text → Option VariableRow → Option WrittenValue
row_value word None = None
row_value word (Some row) = value_of row.signed row.bits word

-- the value that a word writes for the variable at a place
abbrev pub value_for : List VariableRow → ℕ → Text → Option WrittenValue
value_for variables v word = row_value word (slice_get variables v)

abbrev pub row_held : Text → Option VariableRow → Option (Option ℕ)
row_held word None = None
row_held word (Some row) = option_map (held_in row.bits) (value_of row.signed row.bits word)

-- the number that a word writes for the variable at a place, if its bits hold it
abbrev pub held_for : List VariableRow → ℕ → Text → Option (Option ℕ)
held_for variables v word = row_held word (slice_get variables v)

-- a mask and its bits have no sign
abbrev pub row_mask : Text → Option VariableRow → Option (Option ℕ)
row_mask word None = None
row_mask word (Some row) = option_map (held_in row.bits) (value_of false row.bits word)

-- the mask that a word writes for the variable at a place, or what is in it, if the variable's bits hold it
abbrev pub mask_for : List VariableRow → ℕ → Text → Option (Option ℕ)
mask_for variables v word = row_mask word (slice_get variables v)

-- ---- by the place of the word in its line, from 0 on

abbrev pub variable_at : Contents → List Text → ℕ → Option ℕ
variable_at t words i = slice_get words i >>= variable_named t.variables

-- a variable by its name, and a value for it
abbrev pub assignment_at : Contents → List Text → ℕ → ℕ → Option (ℕ × WrittenValue)
assignment_at t words i j = variable_at t words i >>= (λ v. slice_get words j >>= value_for t.variables v >>= (λ x. Some (v, x)))

-- a variable by its name, and a number for it
abbrev pub held_at : Contents → List Text → ℕ → ℕ → Option (ℕ × Option ℕ)
held_at t words i j = variable_at t words i >>= (λ v. slice_get words j >>= held_for t.variables v >>= (λ n. Some (v, n)))

-- a variable by its name, and a mask for it
abbrev pub mask_at : Contents → List Text → ℕ → ℕ → Option (ℕ × Option ℕ)
mask_at t words i j = variable_at t words i >>= (λ v. slice_get words j >>= mask_for t.variables v >>= (λ n. Some (v, n)))

-- two numbers, with `..` between them
abbrev pub bounds_for : List VariableRow → ℕ → Text × Text → Option (Option ℕ × Option ℕ)
bounds_for variables v (low, high) = held_for variables v low >>= (λ m. held_for variables v high >>= (λ n. Some (m, n)))

abbrev pub bounds_at : Contents → List Text → ℕ → ℕ → Option (ℕ × (Option ℕ × Option ℕ))
bounds_at t words i j = variable_at t words i >>= (λ v. slice_get words j >>= bounds_of >>= bounds_for t.variables v >>= (λ b. Some (v, b)))

abbrev pub slave_at : Contents → List Text → ℕ → Option ℕ
slave_at t words i = slice_get words i >>= slave_in t

abbrev pub state_at : List Text → ℕ → Option State
state_at words i = slice_get words i >>= state_named

abbrev pub number_at : List Text → ℕ → Option ℕ
number_at words i = slice_get words i >>= number_of

abbrev pub byte_at : List Text → ℕ → Option ℕ
byte_at words i = slice_get words i >>= byte_of

-- an AL status code
abbrev pub code_at : List Text → ℕ → Option ℕ
code_at words i = slice_get words i >>= code_of
