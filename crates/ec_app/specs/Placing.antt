-- Where a command takes its inputs from, and what a terminal changes (this project's profile).
use Rattle.std.specs.Prelude.{ℕ, ◌||◌, ◌&&◌, not, Bool, false, is_none, is_some, List, [], ◌∷◌, ◌++◌, Option, None, Some, codes}
use Rattle.ec_args.specs.Requests.{Command, PassOf, PlanOf, DecodeOf, EncodeOf, SimOf, LoopOf, SegmentOf, MasterOf, ScanOf, is_explained}
use Rattle.ec_console.specs.declared.console.Terminals.{Terminals}
use Rattle.ec_app.specs.declared.places.Place.{Place}
use Rattle.ec_app.specs.declared.places.Place.TheVariants as place

-- where a command's inputs are
pub data Places : Type 0 where
  -- standard input has all that it reads
  AllStandard : Places
  -- its only input is a file
  OnlyFile : Places
  -- its table is in a file, and standard input has its lines, if it runs lines
  TableFile : Places
  -- its lines are in a file, and its table is in a file too, or standard input is its table
  LinesFile : (table_too : Bool) → Places

abbrev pub kind_of : Place → Places
kind_of place.Standard = AllStandard
kind_of (place.File file) = OnlyFile
kind_of (place.Table file) = TableFile
kind_of (place.Lines table file) = LinesFile (is_some table)

-- by the names of files, one of which may be left out: of an input that is read as a whole, of a table, and of a table and of lines
abbrev pub place_of_only : Option (List ℕ) → Places
place_of_only None = AllStandard
place_of_only (Some file) = OnlyFile

abbrev pub place_of_table : Option (List ℕ) → Places
place_of_table None = AllStandard
place_of_table (Some file) = TableFile

abbrev pub place_of_both : (table lines : Option (List ℕ)) → Places
place_of_both table None = place_of_table table
place_of_both table (Some file) = LinesFile (is_some table)

-- of a command
abbrev pub places_of : Command → (first second : Option (List ℕ)) → Places
places_of (PassOf slaves text) first second = AllStandard
places_of (PlanOf header prefix explained) first second = place_of_only first
places_of (DecodeOf table explained) first second = place_of_only first
places_of EncodeOf first second = place_of_only first
places_of (SimOf live capture explained strict) first second = place_of_both first second
places_of (LoopOf cycles capture explained) first second = place_of_table first
places_of (SegmentOf arguments capture explained) first second = place_of_table first
places_of (MasterOf to descriptor patience capture explained strict) first second = place_of_both first second
places_of (ScanOf to descriptor patience against capture explained) first second = AllStandard

-- ---- terminals

-- a refusal is explained if that is asked for, or standard error is a terminal, unless the arguments refuse it
abbrev pub explains : Terminals → (terse : Bool) → Command → Bool
explains terminals terse command = not terse && (is_explained command || terminals.faults)

-- whether a command reads standard input
abbrev pub reads_standard : Command → (first second : Option (List ℕ)) → Bool
reads_standard (PassOf slaves text) first second = false
reads_standard (PlanOf header prefix explained) first second = is_none first
reads_standard (DecodeOf table explained) first second = is_none first
reads_standard EncodeOf first second = is_none first
reads_standard (SimOf live capture explained strict) first second = is_none first || is_none second
reads_standard (LoopOf cycles capture explained) first second = is_none first
reads_standard (SegmentOf arguments capture explained) first second = arguments.live || is_none first
reads_standard (MasterOf to descriptor patience capture explained strict) first second = is_none first || is_none second
reads_standard (ScanOf to descriptor patience against capture explained) first second = false

-- it waits for someone who types
abbrev pub waits : Terminals → Command → (first second : Option (List ℕ)) → Bool
waits terminals command first second = terminals.input && (terminals.faults && reads_standard command first second)

-- and says so
abbrev pub waiting_text : List ℕ
waiting_text = codes "ecat: reading standard input; Ctrl-D ends it" ++ 10 ∷ []
