-- What the crates above may know of a plan: the words of it and of its table, handed on, and laws of the plan of a table that
-- `compile` accepts and of each plan that is usable. Nothing above opens a definition of this crate; what is not said here can
-- change without them.
use Rattle.std.specs.Option.{ForSome, option_map_or}
use Rattle.std.specs.Prelude.{ℕ, ◌+◌, ◌*◌, ◌<◌, ◌≤◌, ◌≡◌, ◌&&◌, List, [], ◌∷◌, length, get_or, slice_get, Bool, true, false, ◌%◌, is_some, Some, None, All, Contains}
use Rattle.ec_bits.specs.Bits.{within, bytes_of_bits}
use Rattle.ec_device.specs.Hardware.{IsHardware, is_assignable, out_manager, in_manager}
use Rattle.ec_device.specs.Parameters.{AreParameters}
use Rattle.ec_device.specs.Objects.{bits_assigned}
use Rattle.ec_device.specs.Types.{IsWithinLimits}
use Rattle.ec_device.specs.declared.slave_type.Pdo.{Pdo}
use Rattle.ec_regs.specs.Fmmus.{no_fmmu}
use Rattle.ec_regs.specs.Managers.{no_settings, is_set, span}
use Rattle.ec_regs.specs.Memory.{ram_start, ram_end}
use Rattle.ec_regs.specs.declared.manager.SyncManagerSettings.{SyncManagerSettings}
use Rattle.ec_fmmu.specs.Runs.{RunOf}
pub use Rattle.ec_table.specs.Contents.{Contents}
pub use Rattle.ec_table.specs.Objects.{identity_of, object_bits}
pub use Rattle.ec_table.specs.Pdos.{indices_of}
pub use Rattle.ec_table.specs.declared.rows.Direction.{Direction}
pub use Rattle.ec_table.specs.declared.rows.Direction.TheVariants.{Out, In}
pub use Rattle.ec_table.specs.declared.rows.SlaveRow.{SlaveRow}
use Rattle.ec_table.specs.declared.rows.VariableRow.{VariableRow}
pub use Rattle.ec_link.specs.Faults.{compile_fault}
pub use Rattle.ec_link.specs.Image.{image_from, placed, image}
pub use Rattle.ec_link.specs.Links.{AreItsLinks, IsPair}
pub use Rattle.ec_link.specs.LinkRuns.{IsLinked, is_out}
pub use Rattle.ec_link.specs.Meaning.{Linked, in_source, slave_at, Meaning, meaning, share_of, area_at, span_of_part, IsLaid, out_source, no_slave, area_of}
pub use Rattle.ec_link.specs.Plan.{PlanState, plan_of, part_at, no_part, part_of}
pub use Rattle.ec_link.specs.Shares.{same_counters, unit_of_part, predicted, Gave, counters_of, sum_of, lwr_count, lrd_count, lrw_count, whole_share, nothing_given, has_outs, has_ins, share_in}
pub use Rattle.ec_link.specs.Sizes.{mapped_bits, HasRoom, MappedBitsHaveRoom}
pub use Rattle.ec_link.specs.SlavePlan.{process_manager, fmmus_of, by_number, IsOfBuffer, ProcessDataIsBuffered}
pub use Rattle.ec_link.specs.Sound.{manager_of, fmmu_of, IsSound, AreManagers}
pub use Rattle.ec_link.specs.Usable.{IsUsable, IsInImage}
use Rattle.ec_link.specs.Variables.{AreApart}
use Rattle.ec_link.specs.declared.image.Variable.{Variable}
use Rattle.ec_link.specs.declared.settings.SlavePlan.{SlavePlan}
use Rattle.ec_table.specs.Sound as table

-- ---- a table that is accepted

-- Its plan is sound, and usable, and the plan's links are the table's: what `compile` promises of the plan that it returns.
abbrev pub PlansAreSound : Type 0
PlansAreSound = (t : Contents) → table.IsSound t → compile_fault t ≡ None → IsSound t (plan_of t)

abbrev pub PlansAreUsable : Type 0
PlansAreUsable = (t : Contents) → table.IsSound t → compile_fault t ≡ None → IsUsable (plan_of t)

abbrev pub PlansHaveTheLinks : Type 0
PlansHaveTheLinks = (t : Contents) → table.IsSound t → compile_fault t ≡ None → AreItsLinks t (plan_of t)

-- ---- variables

-- no two of them have a bit of the image in common
abbrev pub VariablesAreApart : Type 0
VariablesAreApart = (t : Contents) → AreApart (plan_of t).variables

-- a variable has its place in the image, and is as its row says
pub record IsPlaced (t : Contents) (x : ℕ) (row : VariableRow) : Type 0 where
  pub placed : Variable
  pub there : slice_get (plan_of t).variables x ≡ Some placed
  pub way : placed.direction ≡ row.direction
  pub from : placed.from ≡ image_from t.variables x
  pub bits : placed.bits ≡ row.bits

abbrev pub VariablesArePlaced : Type 0
VariablesArePlaced = (t : Contents) (x : ℕ) (row : VariableRow) → slice_get t.variables x ≡ Some row → IsPlaced t x row

-- a linked bit is one of a variable of its direction
pub record HasBit (t : Contents) (d : Direction) (x b : ℕ) : Type 0 where
  pub row : VariableRow
  pub there : slice_get t.variables x ≡ Some row
  pub way : row.direction ≡ d
  pub inside : b < row.bits

abbrev pub LinkedBitsAreThere : Type 0
LinkedBitsAreThere = (t : Contents) → compile_fault t ≡ None → (d : Direction) (x b s o : ℕ) → IsLinked t d x b s o → HasBit t d x b

-- only an input of a slave is linked to an input of the image
abbrev pub LinkedInputsAreThere : Type 0
LinkedInputsAreThere =
    (p : PlanState) → IsUsable p → (b : ℕ) (i : Linked) → in_source p.in_links b ≡ Some i → (i.slave < length p.slaves) × (i.bit_of < (slave_at p i.slave).share.ins)

-- ---- sync units

-- the sync unit of slave s
abbrev pub unit_of : Contents → ℕ → ℕ
unit_of t s = option_map_or (λ (r : SlaveRow). r.unit) (slice_get t.slaves s) 0

-- A plan lists the units of its slaves, each once; only unit 0 if there are no slaves.
pub record AreItsUnits (t : Contents) (units : List ℕ) : Type 0 where
  pub each : (s : ℕ) → s < length t.slaves → Contains units (unit_of t s)
  pub once : (i j : ℕ) → i < length units → j < length units → get_or units i 0 ≡ get_or units j 0 → i ≡ j
  pub only : 0 < length t.slaves → (i : ℕ) → i < length units → (s : ℕ) × (s < length t.slaves) × (unit_of t s ≡ get_or units i 0)
  pub zero_alone : length t.slaves ≡ 0 → units ≡ 0 ∷ []

abbrev pub PlansListTheUnits : Type 0
PlansListTheUnits = (t : Contents) → table.IsSound t → AreItsUnits t (plan_of t).units

-- ---- what a plan has of a slave

-- It is of a type of the table: device, mailbox and PDOs keep the limits of a type. Each direction has PDOs of it assigned, none
-- twice, and as many bits as these have. Its FMMUs are those of its area.
pub record IsOfItsType (x : SlavePlan) : Type 0 where
  pub device : table.IsDevice x.kind.device
  pub limits : IsWithinLimits x.kind.mailbox x.kind.outputs x.kind.inputs
  pub starts : ForSome x.kind.mailbox table.HasMailboxStarts
  pub out_names : All (λ (q : Pdo). All table.HasName q.entries) x.kind.outputs
  pub in_names : All (λ (q : Pdo). All table.HasName q.entries) x.kind.inputs
  pub outputs : table.IsAssignment (is_assignable x.kind.mailbox x.kind.hardware) x.kind.outputs x.outputs
  pub inputs : table.IsAssignment (is_assignable x.kind.mailbox x.kind.hardware) x.kind.inputs x.inputs
  pub few_outputs : length x.outputs ≤ length x.kind.outputs
  pub few_inputs : length x.inputs ≤ length x.kind.inputs
  pub out_bits : x.bits.outs ≡ bits_assigned x.kind.outputs x.outputs
  pub in_bits : x.bits.ins ≡ bits_assigned x.kind.inputs x.inputs
  pub outs : x.share.outs ≡ mapped_bits x.kind.hardware (bits_assigned x.kind.outputs x.outputs)
  pub ins : x.share.ins ≡ mapped_bits x.kind.hardware (bits_assigned x.kind.inputs x.inputs)
  pub few_outs : x.share.outs ≤ 2048
  pub few_ins : x.share.ins ≤ 2048
  pub fmmus : x.fmmus ≡ fmmus_of x.from x.kind.out_start x.kind.in_start x.share.outs x.share.ins
  -- what the type says of real devices, with mailboxes where the table has them
  pub hardware : ForSome x.kind.hardware (IsHardware x.kind.mailbox)
  -- it is not full then
  pub faceless : is_some x.kind.hardware ≡ true → x.kind.face ≡ None
  -- the downloads to it: those of its type, then its own; none unless it is of a type for real devices
  pub parameters : AreParameters x.kind.mailbox x.kind.init
  pub plain : is_some x.kind.hardware ≡ false → x.kind.init ≡ []

abbrev pub SlavesAreOfTheirTypes : Type 0
SlavesAreOfTheirTypes = (t : Contents) → table.IsSound t → compile_fault t ≡ None → (s : ℕ) → s < length (plan_of t).slaves → IsOfItsType (slave_at (plan_of t) s)

-- The slaves of one plan are all of types for hardware, if its table is, or none is.
abbrev pub OnePlanOneFormat : Type 0
OnePlanOneFormat = (t : Contents) → table.IsSound t → compile_fault t ≡ None → (s : ℕ) → s < length (plan_of t).slaves → is_some (slave_at (plan_of t) s).kind.hardware ≡ t.hardware

-- Everything of a slave for hardware is mapped in whole bytes: its area begins at a byte, and so do both directions end at one.
pub record IsInWholeBytes (x : SlavePlan) : Type 0 where
  pub from : x.from % 8 ≡ 0
  pub outs : x.share.outs % 8 ≡ 0
  pub ins : x.share.ins % 8 ≡ 0

abbrev pub HardwareIsInWholeBytes : Type 0
HardwareIsInWholeBytes = (t : Contents) → table.IsSound t → compile_fault t ≡ None → t.hardware ≡ true → (s : ℕ) → s < length (plan_of t).slaves → IsInWholeBytes (slave_at (plan_of t) s)

-- the managers of the process data
abbrev pub output_manager : SlavePlan → SyncManagerSettings
output_manager x = process_manager x.kind.out_start x.share.outs (out_manager x.kind.hardware).control

abbrev pub input_manager : SlavePlan → SyncManagerSettings
input_manager x = process_manager x.kind.in_start x.share.ins (in_manager x.kind.hardware).control

-- a set manager's span has the byte
abbrev pub has_byte : SyncManagerSettings → ℕ → Bool
has_byte m a = is_set m && within m.start (span m) a

-- process data lies in the RAM, with the two buffers behind it
abbrev pub FitsRam : ℕ → ℕ → Type 0
FitsRam bits start = 0 < bits → (ram_start ≤ start) × (start + 3 * bytes_of_bits bits ≤ ram_end)

-- The settings of a slave of a usable plan, manager by manager and FMMU by FMMU: no two managers share a byte, and FMMU 0 writes
-- the outputs and FMMU 1 reads the inputs, each one run.
pub record AreListed (x : SlavePlan) : Type 0 where
  pub managers : x.managers ≡ manager_of x 0 ∷ manager_of x 1 ∷ output_manager x ∷ input_manager x ∷ []
  pub fmmus : x.fmmus ≡ fmmu_of x 0 ∷ fmmu_of x 1 ∷ no_fmmu ∷ no_fmmu ∷ []
  -- both directions are buffered; the master writes the outputs and reads the inputs
  pub out_mode : (out_manager x.kind.hardware).control % 16 ≡ 4
  pub in_mode : (in_manager x.kind.hardware).control % 16 ≡ 0
  pub out_run : RunOf (fmmu_of x 0) (fmmu_of x 0).writes x.from x.share.outs x.kind.out_start
  pub in_run : RunOf (fmmu_of x 1) (fmmu_of x 1).reads x.from x.share.ins x.kind.in_start
  pub out_only : (fmmu_of x 0).reads ≡ false
  pub in_only : (fmmu_of x 1).writes ≡ false
  pub out_fits : FitsRam x.share.outs x.kind.out_start
  pub in_fits : FitsRam x.share.ins x.kind.in_start
  pub apart : (n k a : ℕ) → n < k → k < 4 → has_byte (get_or x.managers n no_settings) a ≡ true → has_byte (get_or x.managers k no_settings) a ≡ false

abbrev pub SettingsAreListed : Type 0
SettingsAreListed = (p : PlanState) → IsUsable p → (s : ℕ) → s < length p.slaves → AreListed (slave_at p s)
