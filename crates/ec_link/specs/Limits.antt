-- What private code keeps of the numbers and places that it counts with; none of it is needed to read what a plan is.
use Rattle.std.specs.Prelude.{ℕ, ◌+◌, ◌≡◌, ◌<◌, ◌≤◌, ◌^◌, Bool, false, List, length, get_or, All, Option, Some, None, Result, Ok, Err}
use Rattle.ec_table.specs.declared.rows.VariableRow.{VariableRow}
use Rattle.ec_table.specs.Contents.{Contents}
use Rattle.ec_link.specs.declared.objects.EntryRun.{EntryRun}
use Rattle.ec_link.specs.declared.sizes.SlaveSize.{SlaveSize}
use Rattle.ec_link.specs.declared.layout.Part.{Part}
use Rattle.ec_link.specs.declared.layout.Seat.{Seat}
use Rattle.ec_link.specs.declared.link_runs.LinkRun.{LinkRun}
use Rattle.ec_link.specs.declared.image.Variable.{Variable}
use Rattle.ec_link.specs.declared.plan.PartPlan.{PartPlan}
use Rattle.ec_link.specs.declared.fault.LinkFault.{LinkFault}
use Rattle.ec_link.specs.Errors.{LinkError}
use Rattle.ec_table.specs.declared.or_memory.OrMemory.TheVariants.{Memory}
use Rattle.ec_bits.specs.Bits.{bytes_of_bits}
use Rattle.ec_link.specs.Layout.{limit, part_so_far, seat_at, is_unit_of}
use Rattle.ec_link.specs.Plan.{logical_from}
use Rattle.ec_link.specs.Faults.{◌orelse◌, slave_fault, part_fault, memory_fault, variable_fault}

-- within what a slave can have
pub record IsShort (r : EntryRun) : Type 0 where
  pub low : r.from + r.bits ≤ 65536

-- at most 2048 bits in each direction, and one of the 64 units
pub record IsSize (z : SlaveSize) : Type 0 where
  pub outs : z.outs ≤ 2048
  pub ins : z.ins ≤ 2048
  pub unit : z.unit ≤ 63

-- a part has no more bytes than it may have
abbrev pub IsSmall : Part → Type 0
IsSmall p = bytes_of_bits p.bits ≤ limit p.split

-- at most 1422 bytes each
pub record AreSmall (parts : List Part) : Type 0 where
  pub each : (k : ℕ) → (part_so_far parts k).bits ≤ 11376

-- n slaves have their seats in these parts
pub record AreSeated (n : ℕ) (ps : List PartPlan) (seats : List Seat) : Type 0 where
  pub as_many : length seats ≡ n
  pub there : (s : ℕ) → s < n → (seat_at seats s).part < length ps
  pub low : (s : ℕ) → s < n → logical_from ps (seat_at seats s) < 2 ^ 35

-- its place is counted without overflow
abbrev pub IsPlacedLow : Variable → Type 0
IsPlacedLow v = v.from + 63 < 2 ^ 64

-- it has a bit, and its bits are counted without overflow
pub record IsShortRun (w : LinkRun) : Type 0 where
  pub variable_bit : w.variable_bit ≤ 63
  pub object_bit : w.object_bit ≤ 65791
  pub some : 0 < w.count
  pub count : w.count ≤ 255

-- the variables of the link runs are there
pub record HasVariable (ws : List VariableRow) (w : LinkRun) : Type 0 where
  pub there : w.variable < length ws

abbrev pub HaveVariables : List VariableRow → List LinkRun → Type 0
HaveVariables ws xs = All (HasVariable ws) xs

abbrev pub IsMemory : LinkError → Type 0
IsMemory e = e ≡ Memory

-- what a test returns: nothing, or the fault
abbrev pub Tested : {X : Type 0} → Result X LinkFault → Option LinkFault → Type 0
Tested (Ok x) f = f ≡ None
Tested (Err g) f = f ≡ Some g

-- for each of the 64 units, whether some slave has it
pub record AreUsedUnits (zs : List SlaveSize) (used : List Bool) : Type 0 where
  pub as_many : length used ≡ 64
  pub each : (unit : ℕ) → unit < 64 → get_or used unit false ≡ is_unit_of zs unit

-- a number of at most 64 that no slave's unit reaches
pub record IsUnitBound (zs : List SlaveSize) (bound : ℕ) : Type 0 where
  pub few : bound ≤ 64
  pub above : (unit : ℕ) → bound ≤ unit → is_unit_of zs unit ≡ false

-- the first fault that is left to find once there is none of the links and of the slaves
abbrev pub fault_of_layout : Contents → Option LinkFault
fault_of_layout t = part_fault t orelse memory_fault t orelse variable_fault t

-- the first that is left once there is none of the links
abbrev pub fault_of_slaves : Contents → Option LinkFault
fault_of_slaves t = slave_fault t orelse fault_of_layout t
