-- The variables of a table as a C header (this project's profile). Numbers are decimal.
use Rattle.std.specs.Prelude.{ℕ, Bool, true, false, List, Option, None, Some, if◌then◌else◌, length, nat_le, slice_get, ◌++◌, codes}
use Rattle.std.specs.Fmt.{decimal}
use Rattle.ec_link.specs.declared.image.Variable.{Variable}
use Rattle.ec_table.specs.declared.rows.Direction.{Direction}
use Rattle.ec_table.specs.declared.rows.Direction.TheVariants.{Out, In}
use Rattle.ec_table.specs.declared.rows.VariableRow.{VariableRow}
use Rattle.ec_text.specs.PlanText.{lines_from, newline}

-- 1 for an output of the image, 0 for an input
abbrev pub flag : Direction → ℕ
flag Out = 1
flag In = 0

-- 1 for a signed variable, 0 for any other
abbrev pub sign : Bool → ℕ
sign true = 1
sign false = 0

-- the C type that holds a value of so many bits, with a sign or without
abbrev pub signed_type : ℕ → List ℕ
signed_type bits =
    if nat_le bits 8 then codes "int8_t"
    else (if nat_le bits 16 then codes "int16_t" else (if nat_le bits 32 then codes "int32_t" else codes "int64_t"))

abbrev pub unsigned_type : ℕ → List ℕ
unsigned_type bits =
    if nat_le bits 8 then codes "uint8_t"
    else (if nat_le bits 16 then codes "uint16_t" else (if nat_le bits 32 then codes "uint32_t" else codes "uint64_t"))

abbrev pub c_type : (signed : Bool) → ℕ → List ℕ
c_type true bits = signed_type bits
c_type false bits = unsigned_type bits

-- the first bit in the image of its direction
abbrev pub offset_of : Option Variable → ℕ
offset_of None = 0
offset_of (Some v) = v.from

-- the definition of a name, behind the prefix and the word for what it says
unfoldable pub define_line : (prefix what name value : List ℕ) → List ℕ
define_line prefix what name value = codes "#define " ++ (prefix ++ (what ++ (codes "_" ++ (name ++ (codes " " ++ (value ++ newline))))))

-- the number of a variable, how many bits it has, and its direction
unfoldable pub size_lines : List ℕ → ℕ → VariableRow → List ℕ
size_lines prefix n row =
    define_line prefix (codes "NUMBER") row.name (decimal n) ++ define_line prefix (codes "BITS") row.name (decimal row.bits)
    ++ define_line prefix (codes "OUTPUT") row.name (decimal (flag row.direction))

-- its type, whether it is signed, and its first bit in the image
unfoldable pub form_lines : List ℕ → ℕ → VariableRow → List ℕ
form_lines prefix offset row =
    define_line prefix (codes "TYPE") row.name (c_type row.signed row.bits)
    ++ define_line prefix (codes "SIGNED") row.name (decimal (sign row.signed))
    ++ define_line prefix (codes "OFFSET") row.name (decimal offset)

-- A variable, and its place by the plan. No name is defined twice: one that begins with one of the six words has the variable's name
-- behind that, which no other variable has.
abbrev pub variable_lines : List ℕ → List Variable → ℕ → VariableRow → List ℕ
variable_lines prefix places n row = size_lines prefix n row ++ form_lines prefix (offset_of (slice_get places n)) row

-- how many variables there are
abbrev pub count_line : List ℕ → ℕ → List ℕ
count_line prefix count = codes "#define " ++ (prefix ++ (codes "VARIABLES " ++ (decimal count ++ newline)))

-- so that the header may be included twice
abbrev pub head : List ℕ → List ℕ
head prefix = codes "#ifndef " ++ (prefix ++ (codes "VARIABLES" ++ newline ++ codes "#include <stdint.h>" ++ newline))

abbrev pub end : List ℕ
end = codes "#endif" ++ newline

-- the whole text
abbrev pub header_text : List ℕ → List VariableRow → List Variable → List ℕ
header_text prefix variables places =
    head prefix ++ lines_from (variable_lines prefix places) 0 variables ++ count_line prefix (length variables) ++ end
