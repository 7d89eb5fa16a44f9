-- Each kind of fault by itself, as a relation between a table and the index of the fault; and the law that `compile` returns
-- the first fault of the table. Nothing here says how a fault is looked for.
use Rattle.std.specs.Prelude.{ℕ, ◌+◌, ◌<◌, ◌≤◌, ◌≡◌, ◌≢◌, ◌⊎◌, List, length, true, Some, None, slice_get}
use Rattle.ec_bits.specs.Bits.{within}
use Rattle.ec_device.specs.declared.slave_type.Entry.{Entry}
use Rattle.ec_device.specs.declared.hardware.Hardware.{Hardware}
use Rattle.ec_device.specs.Hardware.{pins_inside}
use Rattle.ec_regs.specs.declared.manager.SyncManagerSettings.{SyncManagerSettings}
use Rattle.ec_regs.specs.Managers.{span}
use Rattle.ec_regs.specs.Memory.{ram_start, ram_end}
use Rattle.ec_device.specs.Objects.{bits_of}
use Rattle.ec_table.specs.declared.rows.Direction.{Direction}
use Rattle.ec_table.specs.declared.rows.Direction.TheVariants.{Out, In}
use Rattle.ec_table.specs.declared.rows.LinkRow.{LinkRow}
use Rattle.ec_table.specs.declared.rows.SlaveRow.{SlaveRow}
use Rattle.ec_table.specs.declared.rows.VariableRow.{VariableRow}
use Rattle.ec_table.specs.Contents.{Contents}
use Rattle.ec_table.specs.Objects.{entries_of}
use Rattle.ec_table.specs.Sound.{IsSound}
use Rattle.ec_link.specs.declared.fault.LinkFault.{LinkFault}
use Rattle.ec_link.specs.declared.fault.LinkFault.TheVariants.{WrongDirection, NoEntry, OutsideEntry, LinkedTwice, EntryTwice, TooManyBits, TooManySlaves, TooManyParts, AreasOverlap, OutsideRam, SplitVariable}
use Rattle.ec_link.specs.LinkRuns.{other, direction_of, variable_bits}
use Rattle.ec_link.specs.Sizes.{hardware_of, table_sizes}
use Rattle.ec_link.specs.SlavePlan.{manager_in_place}
use Rattle.ec_link.specs.Layout.{layout}
use Rattle.ec_link.specs.Faults.{managers_at, compile_fault, fault_number, fault_value}

-- ---- of a link

-- the entry at this index of a list has the object's index and subindex
pub record IsNamed (es : List Entry) (index subindex place : ℕ) (e : Entry) : Type 0 where
  pub there : slice_get es place ≡ Some e
  pub index_is : e.index ≡ index
  pub subindex_is : e.subindex ≡ subindex

-- so has the entry at a place among those of a direction that the link's slave assigns
abbrev pub Names : Contents → Direction → LinkRow → ℕ → Entry → Type 0
Names t d l place e = IsNamed (entries_of t l.slave d) l.index l.subindex place e

pub record HasEntry (t : Contents) (d : Direction) (l : LinkRow) : Type 0 where
  pub place : ℕ
  pub entry : Entry
  pub names : Names t d l place entry

-- its slave has the entry, but in the direction in which the variable does not go
pub record IsWrongDirection (t : Contents) (l : LinkRow) : Type 0 where
  pub there : HasEntry t (other (direction_of t l)) l
  pub not_here : HasEntry t (direction_of t l) l → ⊥

-- its slave has no such entry in the variable's direction
pub record IsNoEntry (t : Contents) (l : LinkRow) : Type 0 where
  pub not_here : HasEntry t (direction_of t l) l → ⊥

-- it has a bit past the entry, or past the variable; if the entry is assigned twice, the first is meant
pub record IsOutsideEntry (t : Contents) (l : LinkRow) : Type 0 where
  pub place : ℕ
  pub entry : Entry
  pub names : Names t (direction_of t l) l place entry
  pub first : (k : ℕ) (e : Entry) → Names t (direction_of t l) l k e → place ≤ k
  pub past : (entry.bits < l.bits.entry_bit + l.bits.count) ⊎ (variable_bits t l < l.bits.variable_bit + l.bits.count)

-- two links give one bit of an output entry
pub record GiveOneOutput (t : Contents) (k l : LinkRow) : Type 0 where
  pub out : direction_of t k ≡ Out
  pub out_too : direction_of t l ≡ Out
  pub slave : k.slave ≡ l.slave
  pub index : k.index ≡ l.index
  pub subindex : k.subindex ≡ l.subindex
  pub bit : ℕ
  pub here : within k.bits.entry_bit k.bits.count bit ≡ true
  pub there : within l.bits.entry_bit l.bits.count bit ≡ true

-- two links give one bit of an input variable
pub record GiveOneInput (t : Contents) (k l : LinkRow) : Type 0 where
  pub ins : direction_of t k ≡ In
  pub ins_too : direction_of t l ≡ In
  pub variable : k.variable ≡ l.variable
  pub bit : ℕ
  pub here : within k.bits.variable_bit k.bits.count bit ≡ true
  pub there : within l.bits.variable_bit l.bits.count bit ≡ true

-- the link at a place gives a bit that a link before it gives
pub record IsLinkedTwice (t : Contents) (place : ℕ) (l : LinkRow) : Type 0 where
  pub earlier : ℕ
  pub before : earlier < place
  pub other_link : LinkRow
  pub there : slice_get t.links earlier ≡ Some other_link
  pub one_bit : GiveOneOutput t l other_link ⊎ GiveOneInput t l other_link

-- ---- of a slave

-- it assigns two entries of one direction, no gaps, with one index and subindex
pub record IsEntryTwice (t : Contents) (slave : ℕ) : Type 0 where
  pub direction : Direction
  pub first : ℕ
  pub second : ℕ
  pub before : first < second
  pub one : Entry
  pub two : Entry
  pub there : slice_get (entries_of t slave direction) first ≡ Some one
  pub there_too : slice_get (entries_of t slave direction) second ≡ Some two
  pub no_gap : one.index ≢ 0
  pub index : one.index ≡ two.index
  pub subindex : one.subindex ≡ two.subindex

-- it assigns entries of over 2048 bits in one direction
pub record HasTooManyBits (t : Contents) (slave : ℕ) : Type 0 where
  pub direction : Direction
  pub many : 2048 < bits_of (entries_of t slave direction)

-- two of the managers that a plan sets in it cover one byte
pub record HaveOneByte (t : Contents) (slave : ℕ) : Type 0 where
  pub first : ℕ
  pub second : ℕ
  pub before : first < second
  pub one : SyncManagerSettings
  pub two : SyncManagerSettings
  pub there : slice_get (managers_at t slave) first ≡ Some one
  pub there_too : slice_get (managers_at t slave) second ≡ Some two
  pub address : ℕ
  pub covers : within one.start (span one) address ≡ true
  pub covers_too : within two.start (span two) address ≡ true

-- one of the managers that a plan sets in it covers a byte outside the RAM
pub record LeavesRam (t : Contents) (slave : ℕ) : Type 0 where
  pub place : ℕ
  pub manager : SyncManagerSettings
  pub there : slice_get (managers_at t slave) place ≡ Some manager
  pub some : 0 < manager.length
  pub past : (manager.start < ram_start) ⊎ (ram_end < manager.start + span manager)

-- its outputs are pins and cover a byte past 0x0F03, or another of its managers begins where the pins lie inside it
pub record LeavesPins (t : Contents) (slave : ℕ) : Type 0 where
  pub hardware : Hardware
  pub there : hardware_of t slave ≡ Some hardware
  pub pins : hardware.has_pins ≡ true
  pub place : ℕ
  pub few : place < 4
  pub some : 0 < (manager_in_place (managers_at t slave) place).length
  pub past : let m = manager_in_place (managers_at t slave) place in ((place ≡ 2) × (pins_inside + 4 < m.start + m.length)) ⊎ ((place ≢ 2) × (pins_inside ≤ m.start))

-- ---- of a variable

-- the link at a place joins the variable and a slave of the unit
pub record JoinsUnit (t : Contents) (variable unit : ℕ) : Type 0 where
  pub place : ℕ
  pub link : LinkRow
  pub slave : SlaveRow
  pub there : slice_get t.links place ≡ Some link
  pub variable_is : link.variable ≡ variable
  pub slave_is : slice_get t.slaves link.slave ≡ Some slave
  pub unit_is : slave.unit ≡ unit

-- it is an input variable, and links join it with slaves of two units
pub record IsSplit (t : Contents) (variable : ℕ) (w : VariableRow) : Type 0 where
  pub ins : w.direction ≡ In
  pub unit : ℕ
  pub unit_too : ℕ
  pub two : unit ≢ unit_too
  pub joins : JoinsUnit t variable unit
  pub joins_too : JoinsUnit t variable unit_too

-- ---- the whole

-- a link, a slave or a variable at the index has it
pub record AtIndex {X : Type 0} (xs : List X) (Is : X → Type 0) (place : ℕ) : Type 0 where
  pub row : X
  pub there : slice_get xs place ≡ Some row
  pub has : Is row

-- the table has this fault at this index, or so many slaves or parts
abbrev pub HasFault : Contents → LinkFault → Type 0
HasFault t (WrongDirection k) = AtIndex t.links (IsWrongDirection t) k
HasFault t (NoEntry k) = AtIndex t.links (IsNoEntry t) k
HasFault t (OutsideEntry k) = AtIndex t.links (IsOutsideEntry t) k
HasFault t (LinkedTwice k) = AtIndex t.links (IsLinkedTwice t k) k
HasFault t (EntryTwice k) = AtIndex t.slaves (λ r. IsEntryTwice t k) k
HasFault t (TooManyBits k) = AtIndex t.slaves (λ r. HasTooManyBits t k) k
HasFault t (TooManySlaves k) = (k ≡ length t.slaves) × (64 < k)
HasFault t (TooManyParts k) = (k ≡ length (layout (table_sizes t)).parts) × (32 < k)
HasFault t (AreasOverlap k) = AtIndex t.slaves (λ r. HaveOneByte t k) k
HasFault t (OutsideRam k) = AtIndex t.slaves (λ r. LeavesRam t k ⊎ LeavesPins t k) k
HasFault t (SplitVariable k) = AtIndex t.variables (IsSplit t k) k

-- by the number of the kind, and within a kind by the index
abbrev pub ComesBefore : LinkFault → LinkFault → Type 0
ComesBefore f g = (fault_number f < fault_number g) ⊎ ((fault_number f ≡ fault_number g) × (fault_value f < fault_value g))

-- the table has the fault, and none that comes before it
pub record IsFirstFault (t : Contents) (f : LinkFault) : Type 0 where
  pub there : HasFault t f
  pub first : (g : LinkFault) → HasFault t g → ComesBefore g f → ⊥

-- In a table that was read, the fault that `compile` returns is the first that the table has; if it returns none, there is none.
pub record FirstLinkFault : Type 0 where
  pub told : (t : Contents) (f : LinkFault) → IsSound t → compile_fault t ≡ Some f → IsFirstFault t f
  pub none : (t : Contents) (f : LinkFault) → IsSound t → compile_fault t ≡ None → HasFault t f → ⊥
