-- What a script's `ready` does if nothing disturbs it, and then its `cycle`.
use Rattle.std.specs.Prelude.{ℕ, ◌≡◌, ◌++◌, List, length, Some, codes}
use Rattle.std.specs.Fmt.{decimal}
use Rattle.ec_device.specs.declared.slave_type.Identity.{Identity}
use Rattle.ec_table.specs.Contents.{Contents}
use Rattle.ec_table.specs.declared.rows.Version.{Version}
use Rattle.ec_table.specs.declared.rows.Version.TheVariants as version
use Rattle.ec_link.specs.Plan.{plan_of}
use Rattle.ec_text.specs.PlanText.{lines_from}
use Rattle.ec_cycle.specs.Closing.{ReportState}
use Rattle.ec_world.specs.declared.event.Event.{Event}
use Rattle.ec_world.specs.World.{WorldState}
use Rattle.ec_world.specs.Laws.{IsRun}
use Rattle.ec_world.specs.Whole.{IsNew, IsOfMachine}
use Rattle.ec_world.specs.NewWorld.{AllAgree, AreOfTypes, BringUp, IsToStart, IsBroughtUp}
use Rattle.ec_world.specs.Undisturbed.{Rests, IsExchanged, cycle_of}
use Rattle.ec_script.specs.declared.line.LineAction.TheVariants.{Ready, Cycle}
use Rattle.ec_script.specs.declared.output.LineOutput.{LineOutput}
use Rattle.ec_script.specs.declared.output.LineOutput.TheVariants as output
use Rattle.ec_text.specs.ReportText.{units_text}
use Rattle.ec_simulation.specs.Work.{Does}

-- The turns of a whole start-up were made, as many frames as it takes. It is Ready: each slave is in OP and works as planned.
pub record IsReadied (t : Contents) (old new : WorldState) : Type 0 where
  pub events : List Event
  pub turns : BringUp t old events
  pub run : IsRun old events new (length events)
  pub up : IsBroughtUp t old events new (length events)

-- On a new world of devices, or one that was stopped or whose last start-up failed, `ready` brings the slaves up and says how it ended.
abbrev pub ReadyLaw : Type 0
ReadyLaw = (t : Contents) (old new : WorldState) (word : LineOutput) → IsToStart t old → Does Ready old new word → (word ≡ output.Ended) × IsReadied t old new

-- ---- a cycle

-- On a world that is Ready and at rest, `cycle` takes every unit, and its output is the report.
abbrev pub CycleLaw : Type 0
CycleLaw =
    (t : Contents) (identities : List Identity) (old new : WorldState) (word : LineOutput) → Rests t identities old → Does Cycle old new word
    → (word ≡ output.Report) × IsExchanged t old new (length (cycle_of t))

-- the n-th unit, as taken
abbrev pub taken_unit : ℕ → ℕ → List ℕ
taken_unit n unit = codes " " ++ decimal unit ++ codes " taken"

-- the units of a report, each as taken
abbrev pub taken_units : Version → List ℕ → List ℕ
taken_units version.One units = codes " taken"
taken_units version.Two units = lines_from taken_unit 0 units

-- The text of that report says "taken" of each unit.
abbrev pub TakenTextLaw : Type 0
TakenTextLaw =
    (t : Contents) (identities : List Identity) (old new : WorldState) (word : LineOutput) → Rests t identities old → Does Cycle old new word
    → (r : ReportState) → new.report ≡ Some r → units_text t.version r ≡ taken_units t.version r.units

-- `ready` and then `cycle` on a new world of devices whose parameters agree with the plan: the start-up ends Ready, and the cycle takes
-- every unit.
abbrev pub ReadyCycleLaw : Type 0
ReadyCycleLaw =
    (t : Contents) (identities : List Identity) (old mid new : WorldState) (first second : LineOutput) → IsNew t identities old → AreOfTypes t identities → AllAgree (plan_of t).slaves
    → Does Ready old mid first → Does Cycle mid new second
    → (first ≡ output.Ended) × IsReadied t old mid × (second ≡ output.Report) × IsExchanged t mid new (length (cycle_of t))

-- This holds for a world that is made of a machine.
abbrev pub MachineCycleLaw : Type 0
MachineCycleLaw =
    (t : Contents) (old mid new : WorldState) (first second : LineOutput) → IsOfMachine t old → AllAgree (plan_of t).slaves → Does Ready old mid first → Does Cycle mid new second
    → (first ≡ output.Ended) × IsReadied t old mid × (second ≡ output.Report) × IsExchanged t mid new (length (cycle_of t))
