-- A plan as a text of a fixed form (this project's profile). Numbers are decimal, and registers stand as their bytes in
-- hex, the lowest address first.
use Rattle.std.specs.Prelude.{ℕ, ◌+◌, ◌==◌, List, [], ◌∷◌, ◌++◌, if◌then◌else◌, codes, Option}
use Rattle.std.specs.Fmt.{decimal}
use Rattle.hex.specs.Hex.{encode_lower}
use Rattle.ec_device.specs.declared.hardware.Hardware.{Hardware}
use Rattle.ec_regs.specs.declared.manager.SyncManagerSettings.{SyncManagerSettings}
use Rattle.ec_regs.specs.declared.fmmu.FmmuSettings.{FmmuSettings}
use Rattle.ec_regs.specs.Managers.{is_set, manager_bytes}
use Rattle.ec_regs.specs.Fmmus.{fmmu_bytes}
use Rattle.ec_regs.specs.Names.{shown_manager, shown_fmmu}
use Rattle.ec_table.specs.declared.rows.Version.{Version}
use Rattle.ec_table.specs.declared.rows.Version.TheVariants.{One, Two}
use Rattle.ec_link.specs.declared.plan.PartPlan.{PartPlan}
use Rattle.ec_link.specs.declared.plan.ExpectedCounters.{ExpectedCounters}
use Rattle.ec_link.specs.declared.plan.ExpectedCounters.TheVariants.{Lrw, Split}
use Rattle.ec_link.specs.declared.settings.SlavePlan.{SlavePlan}
use Rattle.ec_link.specs.SlavePlan.{by_number}
use Rattle.ec_link.specs.Plan.{PlanState, predicted_of}

abbrev pub newline : List ℕ
newline = 10 ∷ []

-- the texts of elements, one after another, each with its number; the first number is n
abbrev pub lines_from : {X : Type 0} → (ℕ → X → List ℕ) → ℕ → List X → List ℕ
lines_from text n [] = []
lines_from text n (x ∷ xs) = text n x ++ lines_from text (n + 1) xs

-- the bytes of a register record, by its name and its number
abbrev pub record_line : List ℕ → ℕ → List ℕ → List ℕ
record_line name n bytes = name ++ codes " " ++ decimal n ++ codes " " ++ encode_lower bytes ++ newline

-- a sync manager that is set, as the registers of the device have it
abbrev pub manager_line : Option Hardware → ℕ → SyncManagerSettings → List ℕ
manager_line o n m = if is_set m then record_line (codes "sm") n (manager_bytes (shown_manager o m)) else []

-- an FMMU that is active, as the registers have it
abbrev pub fmmu_line : Option Hardware → ℕ → FmmuSettings → List ℕ
fmmu_line o n f = if f.active then record_line (codes "fmmu") n (fmmu_bytes (shown_fmmu o f)) else []

-- a slave: its part, how many output and input bits its entries have, its managers by register number, and its FMMUs
unfoldable pub slave_line : ℕ → SlavePlan → List ℕ
slave_line n s =
    codes "slave " ++ decimal n ++ codes " part " ++ decimal s.share.part ++ codes " out " ++ decimal s.bits.outs ++ codes " in " ++ decimal s.bits.ins ++ newline

abbrev pub slave_lines : ℕ → SlavePlan → List ℕ
slave_lines n s =
    slave_line n s ++ lines_from (manager_line s.kind.hardware) 0 (by_number s.kind.hardware s.managers) ++ lines_from (fmmu_line s.kind.hardware) 0 s.fmmus

-- the working counters that a part predicts: of its LRW, or of its LWR and its LRD. A part with no byte has no such
-- datagram, and stands as 0
abbrev pub counter_text : PartPlan → ExpectedCounters → List ℕ
counter_text part (Lrw n) = decimal n
counter_text part (Split write read) = if part.bytes == 0 then codes "0" else decimal write ++ codes "/" ++ decimal read

-- the sync unit, if the table's version has units
abbrev pub unit_text : Version → ℕ → List ℕ
unit_text One unit = []
unit_text Two unit = codes " unit " ++ decimal unit

-- a part: its first logical byte, its bytes, its counters and its unit
abbrev pub part_line : Version → ℕ → PartPlan → ExpectedCounters → List ℕ
part_line version n part predicted =
    codes "part " ++ decimal n ++ codes " address " ++ decimal part.address ++ codes " bytes " ++ decimal part.bytes ++ codes " counter "
    ++ counter_text part predicted ++ unit_text version part.unit ++ newline

-- the line of a part of a plan
abbrev pub planned_part_line : Version → PlanState → ℕ → PartPlan → List ℕ
planned_part_line version p n part = part_line version n part (predicted_of p n)

-- the whole text: the slaves in the table's order, then the parts
abbrev pub plan_text : Version → PlanState → List ℕ
plan_text version p = lines_from slave_lines 0 p.slaves ++ lines_from (planned_part_line version p) 0 p.parts
