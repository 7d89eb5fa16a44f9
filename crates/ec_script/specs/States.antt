-- The text of `states` (this project's profile; ETG.1000.6, "AL status"). Numbers are decimal unless they are said to be hex.
use Rattle.std.specs.Prelude.{ℕ, ◌/◌, ◌%◌, ◌==◌, List, [], ◌++◌, if◌then◌else◌, Option, Some, None, codes, get_or}
use Rattle.std.specs.Fmt.{decimal}
use Rattle.ec_table.specs.Contents.{Contents}
use Rattle.ec_table.specs.declared.rows.SlaveRow.{SlaveRow}
use Rattle.ec_text.specs.PlanText.{lines_from, newline}
use Rattle.ec_text.specs.ReportText.{word_text}
use Rattle.ec_asking.specs.declared.answer.AlStatus.{AlStatus}

-- the state with a number, which stands in the low four bits of the AL status
abbrev pub name_text : ℕ → List ℕ
name_text n =
    if n == 1 then codes "INIT" else
    (if n == 2 then codes "PREOP" else
    (if n == 3 then codes "BOOT" else
    (if n == 4 then codes "SAFEOP" else
    (if n == 8 then codes "OP" else codes "-"))))

-- bit 4 is the error flag
abbrev pub flag_text : ℕ → List ℕ
flag_text word = if word / 16 % 2 == 1 then codes "+ERROR" else []

-- the state, and the AL status code in four hex digits; a slave that doesn't answer has neither
abbrev pub status_text : Option AlStatus → List ℕ
status_text None = codes "- 0000"
status_text (Some s) = name_text (s.word % 16) ++ flag_text s.word ++ codes " " ++ word_text s.code

abbrev pub line_text : ℕ → List ℕ → Option AlStatus → List ℕ
line_text slave name state = codes "state " ++ decimal slave ++ codes " " ++ name ++ codes " " ++ status_text state ++ newline

-- the line of a slave, and those of all slaves in the order of the table
abbrev pub state_line : List (Option AlStatus) → ℕ → SlaveRow → List ℕ
state_line states slave row = line_text slave row.name (get_or states slave None)

abbrev pub states_text : Contents → List (Option AlStatus) → List ℕ
states_text t states = lines_from (state_line states) 0 t.slaves
