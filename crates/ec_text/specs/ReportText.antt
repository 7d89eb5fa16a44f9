-- The text of start-ups and of closed cycles (this project's profile). Numbers are decimal unless they are said to be hex.
use Rattle.std.specs.Prelude.{ℕ, ◌/◌, ◌%◌, List, [], ◌∷◌, ◌++◌, get_or, Bool, false, if◌then◌else◌, Option, Some, None, Result, Ok, Err, codes}
use Rattle.std.specs.Fmt.{decimal}
use Rattle.std.specs.List.{list_all}
use Rattle.hex.specs.Hex.{encode_lower}
use Rattle.ec_table.specs.declared.rows.Version.{Version}
use Rattle.ec_table.specs.declared.rows.Version.TheVariants as version
use Rattle.ec_link.specs.declared.plan.PartPlan.{PartPlan}
use Rattle.ec_link.specs.declared.plan.ExpectedCounters.{ExpectedCounters}
use Rattle.ec_start.specs.declared.error.StartError.{StartError}
use Rattle.ec_start.specs.Errors.{error_number}
use Rattle.ec_cycle.specs.Closing.{ReportState}
use Rattle.ec_text.specs.PlanText.{counter_text, lines_from, newline}

-- ---- start-ups

-- how a start-up ended, if it has
abbrev pub outcome_text : Option (Result Unit StartError) → List ℕ
outcome_text None = []
outcome_text (Some (Ok done)) = codes "ready" ++ newline
outcome_text (Some (Err error)) = codes "failed " ++ decimal (error_number error) ++ newline

-- ---- reports

abbrev pub taken_text : Bool → List ℕ
taken_text taken = if taken then codes " taken" else codes " untaken"

-- the n-th unit
abbrev pub unit_at : List Bool → ℕ → ℕ → List ℕ
unit_at taken n unit = codes " " ++ decimal unit ++ taken_text (get_or taken n false)

-- in a table of version 1 all slaves are in one unit, which isn't named
abbrev pub units_text : Version → ReportState → List ℕ
units_text version.One r = taken_text (list_all (λ (t : Bool). t) r.taken)
units_text version.Two r = lines_from (unit_at r.taken) 0 r.units

-- the working counters of a part that was kept, or `-`
abbrev pub kept_text : PartPlan → Option ExpectedCounters → List ℕ
kept_text part None = codes "-"
kept_text part (Some counters) = counter_text part counters

-- the n-th part
abbrev pub counter_at : List (Option ExpectedCounters) → ℕ → PartPlan → List ℕ
counter_at counters n part = codes " " ++ kept_text part (get_or counters n None)

-- four hex digits
abbrev pub word_text : ℕ → List ℕ
word_text word = encode_lower (word / 256 ∷ word % 256 ∷ [])

unfoldable pub report_text : Version → List PartPlan → ReportState → List ℕ
report_text v parts r =
    codes "report" ++ units_text v r ++ (codes " missing " ++ decimal r.missing ++ codes " counters") ++ lines_from (counter_at r.counters) 0 parts
    ++ codes " al " ++ word_text r.al_word ++ newline

-- the report on the last cycle that was closed, if one was
abbrev pub report_if : Version → List PartPlan → Option ReportState → List ℕ
report_if v parts None = []
report_if v parts (Some r) = report_text v parts r
