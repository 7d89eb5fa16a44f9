-- What keeps a table from having a plan, each fault by itself, and the first one in the order of their numbers; the last,
-- 44, came to the project late. The limits of 64 slaves, 32 parts and 2048 bits are this project's own.
use Rattle.std.specs.Prelude.{ℕ, ◌+◌, ◌==◌, ◌≡◌, ◌&&◌, ◌||◌, not, Bool, false, nat_lt, if◌then◌else◌, List, [], ◌∷◌, length, map, filter, codes, slice_get, Option, Some, None, is_some, is_none, option_map}
use Rattle.std.specs.Option.{option_map_or}
use Rattle.std.specs.List.{list_any}
use Rattle.ec_table.specs.declared.rows.Direction.{Direction}
use Rattle.ec_table.specs.declared.rows.Direction.TheVariants.{Out, In}
use Rattle.ec_table.specs.declared.rows.TypeRow.{TypeRow}
use Rattle.ec_table.specs.declared.rows.SlaveRow.{SlaveRow}
use Rattle.ec_table.specs.declared.rows.VariableRow.{VariableRow}
use Rattle.ec_table.specs.declared.rows.LinkRow.{LinkRow}
use Rattle.ec_table.specs.Contents.{Contents}
use Rattle.ec_device.specs.Hardware.{other_name}
use Rattle.ec_device.specs.Objects.{bits_of}
use Rattle.ec_table.specs.Objects.{type_of, entries_of}
use Rattle.ec_regs.specs.declared.manager.SyncManagerSettings.{SyncManagerSettings}
use Rattle.ec_link.specs.declared.fault.LinkFault.{LinkFault}
use Rattle.ec_link.specs.declared.fault.LinkFault.TheVariants.{WrongDirection, NoEntry, OutsideEntry, LinkedTwice, EntryTwice, TooManyBits, TooManySlaves, TooManyParts, AreasOverlap, OutsideRam, SplitVariable}
use Rattle.ec_table.specs.Errors.{or_memory}
use Rattle.ec_link.specs.Errors.{LinkError}
use Rattle.ec_table.specs.declared.or_memory.OrMemory.TheVariants.{Memory, Refused}
use Rattle.ec_link.specs.Entries.{names_twice}
use Rattle.ec_link.specs.Sizes.{hardware_of, slave_bits, table_sizes}
use Rattle.ec_link.specs.Layout.{layout}
use Rattle.ec_link.specs.SlavePlan.{managers_of, some_meet, is_outside}
use Rattle.ec_link.specs.LinkRuns.{is_out, other, direction_of, variable_bits, run_toward, run_of, run_bits, table_link_runs, linked_twice}

-- the place of the first element at which a test holds; the test sees the place
abbrev pub first_at : {X : Type 0} → (ℕ → X → Bool) → ℕ → List X → Option ℕ
first_at test n [] = None
first_at test n (x ∷ xs) = if test n x then Some n else first_at test (n + 1) xs

infixr 10 ◌orelse◌
abbrev pub ◌orelse◌ : {X : Type 0} → Option X → Option X → Option X
(Some x) orelse o = Some x
None orelse o = o

-- ---- of a link

-- the slave has the entry in the other direction only
abbrev pub wrong_direction : Contents → LinkRow → Bool
wrong_direction t l = is_none (run_of t l) && is_some (run_toward t (other (direction_of t l)) l)

abbrev pub no_entry : Contents → LinkRow → Bool
no_entry t l = is_none (run_of t l)

-- bits past the entry or the variable
abbrev pub outside_entry : Contents → LinkRow → Bool
outside_entry t l = nat_lt (run_bits (run_of t l)) (l.bits.entry_bit + l.bits.count) || nat_lt (variable_bits t l) (l.bits.variable_bit + l.bits.count)

-- ---- of a slave

abbrev pub in_either : (Direction → Bool) → Bool
in_either test = test Out || test In

abbrev pub entry_twice : Contents → ℕ → Bool
entry_twice t s = in_either (λ d. names_twice (entries_of t s d))

abbrev pub too_many_bits : Contents → ℕ → Bool
too_many_bits t s = in_either (λ d. nat_lt 2048 (bits_of (entries_of t s d)))

-- the managers that a plan sets in slave s
unfoldable pub managers_at : Contents → ℕ → List SyncManagerSettings
managers_at t s = option_map_or (λ (r : TypeRow). managers_of r.mailbox r.hardware (other_name r.hardware r.process.out_start) r.process.in_start (slave_bits t s Out) (slave_bits t s In)) (type_of t s) []

abbrev pub areas_overlap : Contents → ℕ → Bool
areas_overlap t s = some_meet (managers_at t s)

abbrev pub outside_ram : Contents → ℕ → Bool
outside_ram t s = is_outside (hardware_of t s) (managers_at t s)

-- ---- of a variable

abbrev pub unit_of_link : Contents → LinkRow → ℕ
unit_of_link t l = option_map_or (λ (r : SlaveRow). r.unit) (slice_get t.slaves l.slave) 0

-- some number isn't the first
abbrev pub differ : List ℕ → Bool
differ [] = false
differ (x ∷ xs) = list_any (λ y. not (y == x)) xs

-- an input variable with links from two units
abbrev pub units_of_variable : Contents → ℕ → List LinkRow → List ℕ
units_of_variable t v ls = map (unit_of_link t) (filter (λ (l : LinkRow). l.variable == v) ls)

abbrev pub split_variable : Contents → ℕ → VariableRow → Bool
split_variable t v w = not (is_out w.direction) && differ (units_of_variable t v t.links)

-- ---- the whole

abbrev pub too_many : ℕ → ℕ → (ℕ → LinkFault) → Option LinkFault
too_many most n fault = if nat_lt most n then Some (fault n) else None

abbrev pub each_link : Contents → (LinkRow → Bool) → (ℕ → LinkFault) → Option LinkFault
each_link t test fault = option_map fault (first_at (λ n l. test l) 0 t.links)

abbrev pub each_slave : Contents → (ℕ → Bool) → (ℕ → LinkFault) → Option LinkFault
each_slave t test fault = option_map fault (first_at (λ n (s : SlaveRow). test n) 0 t.slaves)

-- faults of links
unfoldable pub link_fault : Contents → Option LinkFault
link_fault t =
    each_link t (wrong_direction t) WrongDirection
    orelse each_link t (no_entry t) NoEntry
    orelse each_link t (outside_entry t) OutsideEntry
    orelse option_map LinkedTwice (first_at (linked_twice (table_link_runs t)) 0 (table_link_runs t))

-- faults of what slaves assign, and of how many there are
unfoldable pub slave_fault : Contents → Option LinkFault
slave_fault t =
    each_slave t (entry_twice t) EntryTwice
    orelse each_slave t (too_many_bits t) TooManyBits
    orelse too_many 64 (length t.slaves) TooManySlaves

unfoldable pub part_fault : Contents → Option LinkFault
part_fault t = too_many 32 (length (layout (table_sizes t)).parts) TooManyParts

-- faults of where slaves have their managers
unfoldable pub memory_fault : Contents → Option LinkFault
memory_fault t = each_slave t (areas_overlap t) AreasOverlap orelse each_slave t (outside_ram t) OutsideRam

unfoldable pub variable_fault : Contents → Option LinkFault
variable_fault t = option_map SplitVariable (first_at (split_variable t) 0 t.variables)

-- each kind of fault is looked for in the whole table before the next kind
unfoldable pub compile_fault : Contents → Option LinkFault
compile_fault t = link_fault t orelse slave_fault t orelse part_fault t orelse memory_fault t orelse variable_fault t

-- ---- numbers and names

abbrev pub fault_number : LinkFault → ℕ
fault_number (WrongDirection k) = 16
fault_number (NoEntry k) = 17
fault_number (OutsideEntry k) = 18
fault_number (LinkedTwice k) = 19
fault_number (EntryTwice k) = 20
fault_number (TooManyBits k) = 21
fault_number (TooManySlaves k) = 22
fault_number (TooManyParts k) = 23
fault_number (AreasOverlap k) = 24
fault_number (OutsideRam k) = 25
fault_number (SplitVariable k) = 44

abbrev pub fault_name : LinkFault → List ℕ
fault_name (WrongDirection k) = codes "WrongDirection"
fault_name (NoEntry k) = codes "NoEntry"
fault_name (OutsideEntry k) = codes "OutsideEntry"
fault_name (LinkedTwice k) = codes "LinkedTwice"
fault_name (EntryTwice k) = codes "EntryTwice"
fault_name (TooManyBits k) = codes "TooManyBits"
fault_name (TooManySlaves k) = codes "TooManySlaves"
fault_name (TooManyParts k) = codes "TooManyParts"
fault_name (AreasOverlap k) = codes "AreasOverlap"
fault_name (OutsideRam k) = codes "OutsideRam"
fault_name (SplitVariable k) = codes "SplitVariable"

-- the place of a link (16 to 19), of a slave (20, 21, 24, 25) or of a variable (44), counted from 0 in file order,
-- or how many slaves (22) or parts (23) there are
abbrev pub fault_value : LinkFault → ℕ
fault_value (WrongDirection k) = k
fault_value (NoEntry k) = k
fault_value (OutsideEntry k) = k
fault_value (LinkedTwice k) = k
fault_value (EntryTwice k) = k
fault_value (TooManyBits k) = k
fault_value (TooManySlaves k) = k
fault_value (TooManyParts k) = k
fault_value (AreasOverlap k) = k
fault_value (OutsideRam k) = k
fault_value (SplitVariable k) = k

abbrev pub error_number : LinkError → ℕ
error_number e = or_memory 1 fault_number e

abbrev pub error_name : LinkError → List ℕ
error_name e = or_memory (codes "Memory") fault_name e

abbrev pub error_value : LinkError → Option ℕ
error_value e = or_memory None (λ f. Some (fault_value f)) e

-- why a call doesn't make a plan: memory ran out, or the table has this fault
abbrev pub Fails : LinkError → Option LinkFault → Type 0
Fails Memory f = Unit {0}
Fails (Refused g) f = f ≡ Some g
