-- What `ecat scan` prints, and how it ends (this project's profile). What sockets and cards carried isn't known here: that a scan sends nothing
-- but its own frames is kept by its `Line`.
use Rattle.std.specs.Prelude.{◌≡◌, ◌⊎◌, ℕ, ◌==◌, not, List, Bool, Option, None, Some, count_by, length, position, max, if◌then◌else◌, Result, Ok, Err}
use Rattle.std.specs.List.{AllZip}
use Rattle.ec_console.specs.declared.refusal.Refusal.{Refusal}
use Rattle.ec_console.specs.declared.refusal.Refusal.TheVariants.{Memory, Table, Link, Start, Socket, Output, Unmet, Unsaid}
use Rattle.ec_console.specs.Printing.{IsCutOff, IsPrinted, OutputState}
use Rattle.ec_table.specs.Contents.{Contents}
use Rattle.ec_scan.specs.declared.shown.Shown.{Shown}
use Rattle.ec_found.specs.declared.found.Found.{Found}
use Rattle.ec_found.specs.Differing.{agrees}
use Rattle.ec_found.specs.Founds.{IsFound}
use Rattle.ec_found.specs.Stating.{StatesFound}

-- each slave is found by what it shows
abbrev pub AreFound : List Shown → List Found → Type 0
AreFound shown found = AllZip IsFound shown found

-- a table of slaves, by what they show
pub record IsScanOf (text : List ℕ) (fs : List Found) : Type 0 where
  pub shown : List Shown
  pub found : AreFound shown fs
  pub states : StatesFound text fs

abbrev pub IsScanText : List ℕ → Type 0
IsScanText text = (fs : List Found) × IsScanOf text fs

-- a scan ends by the first slave of which a table can't say all
abbrev pub ended_by_slave : Option ℕ → Result Unit Refusal
ended_by_slave None = Ok tt
ended_by_slave (Some slave) = Err (Unsaid slave)

abbrev pub first_unsaid : List Found → Option ℕ
first_unsaid fs = position (λ (f : Found). not (length f.unsaid == 0)) fs

abbrev pub unsaid_end : List Found → Result Unit Refusal
unsaid_end fs = ended_by_slave (first_unsaid fs)

-- why no slaves are found
abbrev pub IsUnscanned : Refusal → Type 0
IsUnscanned Memory = Unit {0}
IsUnscanned (Start error) = Unit {0}
IsUnscanned (Socket trouble) = Unit {0}
IsUnscanned _ = ⊥

-- why the table of those that are found isn't printed: there is no plan, or its text reads as another slave
abbrev pub IsUnprinted : Refusal → Type 0
IsUnprinted Memory = Unit {0}
IsUnprinted (Table error) = Unit {0}
IsUnprinted (Link error) = Unit {0}
IsUnprinted (Unsaid slave) = Unit {0}
IsUnprinted _ = ⊥

-- why a scan prints nothing
abbrev pub IsScanRefusal : Refusal → Type 0
IsScanRefusal refusal = IsUnscanned refusal ⊎ IsUnprinted refusal

-- Nothing is printed, for such a reason; or a text is cut off; or all of a text is printed, and the end says whether a table can say all
-- of the slaves.
abbrev pub RunsScan : (old new : OutputState) → Result Unit Refusal → Type 0
RunsScan old new ended =
    ((refusal : Refusal) × (ended ≡ Err refusal) × IsScanRefusal refusal × (new ≡ old))
    ⊎ (((text : List ℕ) × IsScanText text × (ended ≡ Err Output) × IsCutOff old new text)
    ⊎ ((text : List ℕ) × (fs : List Found) × IsScanOf text fs × (ended ≡ unsaid_end fs) × IsPrinted old new text))

-- So with a table, and no other is made. The text is free; the end says whether the table has the slaves that were found and no others, and
-- how many lines there are if it hasn't.
abbrev pub is_line_end : ℕ → Bool
is_line_end letter = letter == 10

abbrev pub line_ends : List ℕ → ℕ
line_ends text = count_by is_line_end text

abbrev pub against_end : Bool → (text : List ℕ) → Result Unit Refusal
against_end agreed text = if agreed then Ok tt else Err (Unmet (max (line_ends text) 1))

abbrev pub RunsAgainst : Contents → (old new : OutputState) → Result Unit Refusal → Type 0
RunsAgainst c old new ended =
    ((refusal : Refusal) × (ended ≡ Err refusal) × IsUnscanned refusal × (new ≡ old))
    ⊎ (((text : List ℕ) × (ended ≡ Err Output) × IsCutOff old new text)
    ⊎ ((shown : List Shown) × (fs : List Found) × (text : List ℕ) × AreFound shown fs × (ended ≡ against_end (agrees c fs) text) × IsPrinted old new text))
