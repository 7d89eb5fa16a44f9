-- When a world that is Ready refines a plain state: same image, same values, same notes.
use Rattle.std.specs.Prelude.{ℕ, ◌^◌, ◌<◌, ◌≡◌, List, length, map, get_or, true, false, Option, Some, None, is_some, option_map}
use Rattle.ec_link.specs.Shares.{predicted}
use Rattle.ec_link.specs.Meaning.{slave_at}
use Rattle.ec_link.specs.Plan.{PlanState, part_at}
use Rattle.ec_cycle.specs.Closing.{ReturnedPart, ReportState}
use Rattle.ec_cycle.specs.Master.{OpenCycle}
use Rattle.ec_world.specs.Plain.{Plain, PlainFrame, Note, Cycle, Closed, plain_slave, all_progress}
use Rattle.ec_world.specs.World.{WorldState, is_up, awaits, Flight, slave_of, flights_progress, flight_at}
use Rattle.ec_world.specs.SlaveRefines.{SlaveRefines}
use Rattle.ec_world.specs.FrameRefines.{FrameRefines, KeptRefines}

-- ---- the cycle and the report

-- the same cycle is open, and the same parts are kept
pub record CycleRefines (plan : PlanState) (c : OpenCycle) (q : Cycle) : Type 0 where
  pub number : c.number ≡ q.number
  pub number_fits : q.number < 2 ^ 64
  pub each_part : length c.kept ≡ length plan.parts
  pub same_parts : map (λ o. is_some o) c.kept ≡ map (λ o. is_some o) q.kept
  pub kept : (k : ℕ) (part : ReturnedPart) (notes : List Note) → get_or c.kept k None ≡ Some part → get_or q.kept k None ≡ Some notes → KeptRefines plan k notes part

abbrev pub CyclesRefine : PlanState → Option OpenCycle → Option Cycle → Type 0
CyclesRefine plan None None = Unit {0}
CyclesRefine plan None (Some q) = ⊥
CyclesRefine plan (Some c) None = ⊥
CyclesRefine plan (Some c) (Some q) = CycleRefines plan c q

abbrev pub said : ReportState → Closed
said r = record { taken = r.taken; missing = r.missing }

-- the working counters of each part of a taken unit are the predicted ones
abbrev pub CountersPredicted : PlanState → ReportState → Type 0
CountersPredicted plan r =
    (i k : ℕ) → i < length r.units → get_or r.taken i false ≡ true → k < length plan.parts → (part_at plan.parts k).unit ≡ get_or r.units i 0
    → get_or r.counters k None ≡ Some (predicted plan k)

pub record ReportRefines (plan : PlanState) (o : Option ReportState) (c : Option Closed) : Type 0 where
  pub same : option_map said o ≡ c
  pub counters : (r : ReportState) → o ≡ Some r → CountersPredicted plan r

-- ---- the world

-- A Ready world refines a plain state.
pub record Refines (w : WorldState) (p : Plain) : Type 0 where
  pub started : is_up w.start ≡ true
  pub no_start : awaits w.start ≡ false
  pub is_ready : w.master.is_ready ≡ true
  pub same_plan : w.master.plan ≡ w.plan
  pub outputs : w.master.outputs ≡ p.outputs
  pub inputs : w.master.inputs ≡ p.inputs
  pub next : w.master.next ≡ p.next
  pub got : w.got ≡ p.got
  pub cycle : CyclesRefine w.plan w.master.cycle p.cycle
  pub report : ReportRefines w.plan w.report p.closed
  pub count : length w.slaves ≡ length w.plan.slaves
  pub plain_count : length p.slaves ≡ length w.plan.slaves
  pub slaves : (s : ℕ) → s < length w.plan.slaves → SlaveRefines s (slave_at w.plan s) (slave_of w s) (plain_slave p s)
  pub progress : flights_progress w.slots ≡ all_progress p.slots
  pub frames : (k : ℕ) (flight : Flight) (f : PlainFrame) → flight_at w k ≡ Some flight → get_or p.slots k None ≡ Some f → FrameRefines w.plan f flight.bytes
