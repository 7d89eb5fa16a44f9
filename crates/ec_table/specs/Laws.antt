-- What the reading of link tables keeps, in the format's own words.
use Rattle.std.specs.Prelude.{◌≡◌, ◌≤◌, ℕ, false, List, [], ◌∷◌, ◌++◌, length, take, codes, IsTrue, slice_get, Result, Ok, Err, Option, Some, None}
use Rattle.toml.specs.Data.{Data, Members, get_member}
use Rattle.toml.specs.Parse.{parse_document}
use Rattle.toml.specs.View.{items_of}
use Rattle.std.specs.Option.{ForSome}
use Rattle.ec_device.specs.declared.hardware.Hardware.{Hardware}
use Rattle.ec_device.specs.Hardware.{usual_outputs, usual_inputs}
use Rattle.ec_device.specs.Parameters.{AreParameters}
use Rattle.ec_device.specs.Types.{SlaveKind}
use Rattle.ec_table.specs.declared.fault.Fault.{Fault}
use Rattle.ec_table.specs.declared.fault.Fault.TheVariants.{Toml, BadKey, BadValue}
use Rattle.ec_table.specs.declared.rows.Format.{Format}
use Rattle.ec_table.specs.declared.rows.Version.TheVariants.{One}
use Rattle.ec_table.specs.declared.fault.Position.{Position}
use Rattle.ec_table.specs.declared.fault.Section.{Section}
use Rattle.ec_table.specs.declared.fault.Section.TheVariants as section
use Rattle.ec_table.specs.declared.rows.Direction.{Direction}
use Rattle.ec_table.specs.declared.rows.TypeRow.{TypeRow}
use Rattle.ec_table.specs.declared.rows.SlaveRow.{SlaveRow}
use Rattle.ec_table.specs.declared.rows.VariableRow.{VariableRow}
use Rattle.ec_table.specs.declared.rows.LinkRow.{LinkRow}
use Rattle.ec_table.specs.Contents.{Contents, format_of, as_stated, pdos_toward, assigned_toward}
use Rattle.ec_table.specs.Sound.{IsSound, AreSlaves, IsType}
use Rattle.ec_table.specs.Faults.{fault_position}
use Rattle.ec_table.specs.Pdos.{indices_of}
use Rattle.ec_table.specs.Reading.{type_at, slave_at, variable_at, link_at, type_element, slave_element, variable_element, link_element, top, stated_format, table_of_document, table_of}
use Rattle.ec_table.specs.Fields.{keys_are, section_in}
use Rattle.ec_device.specs.Objects.{bits_of, assigned_entries}
use Rattle.ec_table.specs.Objects.{object_bits, entries_of, type_of, kind_of}
use Rattle.ec_table.specs.Writing.{document_of}
use Rattle.ec_table.specs.declared.keys.Shape.TheVariants as shape

-- What is accepted has unique names, known references, values in range, and assigned objects of its type without a double.
abbrev pub AcceptedIsSound : Type 0
AcceptedIsSound = (text : List ℕ) (c : Contents) → table_of text ≡ Ok c → IsSound c

-- Every fault of an element has the element's section and index.
abbrev pub position_in : Section → ℕ → Option Position
position_in s n = Some (record { section = s; element = n })

pub record FaultsHaveTheirPosition : Type 0 where
  pub types : (v : Format) (n : ℕ) (d : Data) (found : List TypeRow) (f : Fault) → type_element v n d found ≡ Err f → fault_position f ≡ position_in section.Type n
  pub slaves : (v : Format) (ts : List TypeRow) (n : ℕ) (d : Data) (found : List SlaveRow) (f : Fault) → slave_element v ts n d found ≡ Err f → fault_position f ≡ position_in section.Slave n
  pub variables : (v : Format) (n : ℕ) (d : Data) (found : List VariableRow) (f : Fault) → variable_element v n d found ≡ Err f → fault_position f ≡ position_in section.Variable n
  pub links : (v : Format) (ss : List SlaveRow) (ws : List VariableRow) (n : ℕ) (d : Data) (found : List LinkRow) (f : Fault) → link_element v ss ws n d found ≡ Err f → fault_position f ≡ position_in section.Link n

-- ---- element by element

-- a document of a format, with the elements of its sections
pub record HasSections (ms : Members) (v : Format) (type_data slave_data variable_data link_data : List Data) : Type 0 where
  pub format : stated_format ms ≡ Ok v
  pub keys : IsTrue (keys_are shape.Document v ms)
  pub types : section_in top (get_member (codes "type") ms) ≡ Ok (items_of type_data)
  pub slaves : section_in top (get_member (codes "slave") ms) ≡ Ok (items_of slave_data)
  pub variables : section_in top (get_member (codes "variable") ms) ≡ Ok (items_of variable_data)
  pub links : section_in top (get_member (codes "link") ms) ≡ Ok (items_of link_data)

-- each element passes its tests, which see the rows before it
pub record EachReads {X : Type 0} (row : ℕ → Data → List X → Result X Fault) (ds : List Data) (xs : List X) : Type 0 where
  pub as_many : length ds ≡ length xs
  pub each : (k : ℕ) (d : Data) (x : X) → slice_get ds k ≡ Some d → slice_get xs k ≡ Some x → row k d (take k xs) ≡ Ok x

-- all elements of a table pass their tests
pub record AllRead (type_data slave_data variable_data link_data : List Data) (c : Contents) : Type 0 where
  pub types : EachReads (type_element (format_of c)) type_data c.types
  pub slaves : EachReads (slave_element (format_of c) c.types) slave_data c.slaves
  pub variables : EachReads (variable_element (format_of c)) variable_data c.variables
  pub links : EachReads (link_element (format_of c) c.slaves c.variables) link_data c.links

-- A document whose every element passes its own tests is accepted.
abbrev pub AcceptedElementByElement : Type 0
AcceptedElementByElement = (ms : Members) (types slaves variables links : List Data) (c : Contents) → HasSections ms (format_of c) types slaves variables links → AllRead types slaves variables links c → table_of_document ms ≡ Ok (as_stated c)

-- The fault of a table is that of the first element, in order, that fails a test: all types before it pass, then all types and all slaves before it, and so on.
pub record FirstFaultIsReturned : Type 0 where
  pub types : (ms : Members) (v : Format) (before : List Data) (d : Data) (after slaves variables links : List Data) (ts : List TypeRow) (f : Fault) → HasSections ms v (before ++ d ∷ after) slaves variables links
      → EachReads (type_element v) before ts → type_element v (length before) d ts ≡ Err f → table_of_document ms ≡ Err f
  pub slaves : (ms : Members) (v : Format) (types before : List Data) (d : Data) (after variables links : List Data) (ts : List TypeRow) (ss : List SlaveRow) (f : Fault) → HasSections ms v types (before ++ d ∷ after) variables links
      → EachReads (type_element v) types ts → EachReads (slave_element v ts) before ss → slave_element v ts (length before) d ss ≡ Err f → table_of_document ms ≡ Err f
  pub variables : (ms : Members) (v : Format) (types slaves before : List Data) (d : Data) (after links : List Data) (ts : List TypeRow) (ss : List SlaveRow) (ws : List VariableRow) (f : Fault) → HasSections ms v types slaves (before ++ d ∷ after) links
      → EachReads (type_element v) types ts → EachReads (slave_element v ts) slaves ss → EachReads (variable_element v) before ws → variable_element v (length before) d ws ≡ Err f → table_of_document ms ≡ Err f
  pub links : (ms : Members) (v : Format) (types slaves variables before : List Data) (d : Data) (after : List Data) (ts : List TypeRow) (ss : List SlaveRow) (ws : List VariableRow) (ls : List LinkRow) (f : Fault) → HasSections ms v types slaves variables (before ++ d ∷ after)
      → EachReads (type_element v) types ts → EachReads (slave_element v ts) slaves ss → EachReads (variable_element v) variables ws → EachReads (link_element v ss ws) before ls → link_element v ss ws (length before) d ls ≡ Err f → table_of_document ms ≡ Err f

-- ---- the document itself

-- The faults of a document that come before those of its elements, in this order: the text is no TOML, a bad `version` or `hardware`, a bad key, a section that is no array of tables.
pub record DocumentFaultsInOrder : Type 0 where
  pub text : (text : List ℕ) → parse_document text ≡ None → table_of text ≡ Err Toml
  pub format : (ms : Members) (f : Fault) → stated_format ms ≡ Err f → table_of_document ms ≡ Err (BadValue top)
  pub keys : (ms : Members) (v : Format) → stated_format ms ≡ Ok v → keys_are shape.Document v ms ≡ false → table_of_document ms ≡ Err (BadKey top)
  pub types : (ms : Members) (v : Format) (f : Fault) → stated_format ms ≡ Ok v → IsTrue (keys_are shape.Document v ms) → section_in top (get_member (codes "type") ms) ≡ Err f → table_of_document ms ≡ Err (BadValue top)
  pub slaves : (ms : Members) (v : Format) (f : Fault) → stated_format ms ≡ Ok v → IsTrue (keys_are shape.Document v ms) → section_in top (get_member (codes "slave") ms) ≡ Err f → table_of_document ms ≡ Err (BadValue top)
  pub variables : (ms : Members) (v : Format) (f : Fault) → stated_format ms ≡ Ok v → IsTrue (keys_are shape.Document v ms) → section_in top (get_member (codes "variable") ms) ≡ Err f → table_of_document ms ≡ Err (BadValue top)
  pub links : (ms : Members) (v : Format) (f : Fault) → stated_format ms ≡ Ok v → IsTrue (keys_are shape.Document v ms) → section_in top (get_member (codes "link") ms) ≡ Err f → table_of_document ms ≡ Err (BadValue top)

-- ---- what is left out

-- no such key
abbrev pub LeavesOut : Members → List ℕ → Type 0
LeavesOut ms key = get_member key ms ≡ None

-- a type for hardware has then the usual managers, firmware that decides at once and sends no emergency, an assignment that can be
-- written, four FMMUs, any revision, and starts of 0
pub record HardwareDefaults (ms : Members) (t : TypeRow) (h : Hardware) : Type 0 where
  pub out_manager : LeavesOut ms (codes "out_manager") → h.out_manager ≡ usual_outputs
  pub in_manager : LeavesOut ms (codes "in_manager") → h.in_manager ≡ usual_inputs
  pub firmware : LeavesOut ms (codes "firmware") → IsTrue h.has_firmware
  pub fixed : LeavesOut ms (codes "fixed") → h.is_fixed ≡ false
  pub slow : LeavesOut ms (codes "slow") → h.slow ≡ 0
  pub emergency : LeavesOut ms (codes "emergency") → h.has_emergency ≡ false
  pub fmmus : LeavesOut ms (codes "fmmus") → h.fmmus ≡ 4
  pub revision : LeavesOut ms (codes "revision") → IsTrue h.any_revision
  pub out_start : LeavesOut ms (codes "out_start") → t.process.out_start ≡ 0
  pub in_start : LeavesOut ms (codes "in_start") → t.process.in_start ≡ 0

-- a type has then no mailbox, no PDOs of the direction, no downloads, and takes part in LRW datagrams
pub record TypeDefaults (ms : Members) (t : TypeRow) : Type 0 where
  pub mailbox : LeavesOut ms (codes "mailbox") → t.mailbox ≡ None
  pub outputs : LeavesOut ms (codes "rxpdo") → t.process.outputs ≡ []
  pub inputs : LeavesOut ms (codes "txpdo") → t.process.inputs ≡ []
  pub lrw : LeavesOut ms (codes "lrw") → IsTrue t.lrw
  pub hardware : ForSome t.hardware (HardwareDefaults ms t)
  pub init : LeavesOut ms (codes "init") → t.init ≡ []

-- a slave assigns then all PDOs of its type in order, has serial number 0, is in sync unit 0 and gets no downloads of its own
pub record SlaveDefaults (ts : List TypeRow) (ms : Members) (s : SlaveRow) : Type 0 where
  pub outputs : LeavesOut ms (codes "out") → (t : TypeRow) → slice_get ts s.type_index ≡ Some t → s.outputs ≡ indices_of t.process.outputs
  pub inputs : LeavesOut ms (codes "in") → (t : TypeRow) → slice_get ts s.type_index ≡ Some t → s.inputs ≡ indices_of t.process.inputs
  pub serial : LeavesOut ms (codes "serial") → s.serial ≡ 0
  pub unit : LeavesOut ms (codes "unit") → s.unit ≡ 0
  pub init : LeavesOut ms (codes "init") → s.init ≡ []

-- a link joins then all bits of its variable, from bit 0 of both
pub record LinkDefaults (ws : List VariableRow) (ms : Members) (l : LinkRow) : Type 0 where
  pub bits : LeavesOut ms (codes "bits") → (w : VariableRow) → slice_get ws l.variable ≡ Some w → l.bits ≡ record { variable_bit = 0; entry_bit = 0; count = w.bits }

-- a variable has then no sign
pub record VariableDefaults (ms : Members) (w : VariableRow) : Type 0 where
  pub signed : LeavesOut ms (codes "signed") → w.signed ≡ false

-- a document is then of version 1 and not for hardware, and the section has no rows; its slaves are never full, since no key says so
pub record DocumentDefaults (ms : Members) (c : Contents) : Type 0 where
  pub version : LeavesOut ms (codes "version") → c.version ≡ One
  pub hardware : LeavesOut ms (codes "hardware") → c.hardware ≡ false
  pub types : LeavesOut ms (codes "type") → c.types ≡ []
  pub slaves : LeavesOut ms (codes "slave") → c.slaves ≡ []
  pub variables : LeavesOut ms (codes "variable") → c.variables ≡ []
  pub links : LeavesOut ms (codes "link") → c.links ≡ []
  pub full : c.full ≡ false

-- What an accepted element or document leaves out has its default.
pub record LeftOutIsDefault : Type 0 where
  pub types : (v : Format) (p : Position) (ms : Members) (found : List TypeRow) (t : TypeRow) → type_at v p ms found ≡ Ok t → TypeDefaults ms t
  pub slaves : (v : Format) (ts : List TypeRow) (p : Position) (ms : Members) (found : List SlaveRow) (s : SlaveRow) → slave_at v ts p ms found ≡ Ok s → SlaveDefaults ts ms s
  pub variables : (v : Format) (p : Position) (ms : Members) (found : List VariableRow) (w : VariableRow) → variable_at v p ms found ≡ Ok w → VariableDefaults ms w
  pub links : (v : Format) (ss : List SlaveRow) (ws : List VariableRow) (p : Position) (ms : Members) (l : LinkRow) → link_at v ss ws p ms ≡ Ok l → LinkDefaults ws ms l
  pub documents : (ms : Members) (c : Contents) → table_of_document ms ≡ Ok c → DocumentDefaults ms c

-- ---- written out

-- Each sound table has a document that states it, but for whether its slaves are full: its sections written out, with each key.
abbrev pub WrittenIsRead : Type 0
WrittenIsRead = (c : Contents) → IsSound c → table_of_document (document_of c) ≡ Ok (as_stated c)

-- A direction of a slave has as many object bits as its entries have bits, gaps with them.
abbrev pub ObjectBitsAreCounted : Type 0
ObjectBitsAreCounted = (c : Contents) (s : ℕ) (d : Direction) → length (object_bits c s d) ≡ bits_of (entries_of c s d)

-- A slave's entries are those of its type's PDOs that it assigns, one after another.
abbrev pub EntriesAreAssigned : Type 0
EntriesAreAssigned = (c : Contents) (s : ℕ) (d : Direction) (r : SlaveRow) (t : TypeRow) → slice_get c.slaves s ≡ Some r → type_of c s ≡ Some t → entries_of c s d ≡ assigned_entries (pdos_toward d t) (assigned_toward d r)

-- The downloads to a slave, those of its type and then its own, are within the limits of a type. Without hardware there are none.
pub record DownloadsFitTheType : Type 0 where
  pub limits : (c : Contents) (s : ℕ) (k : SlaveKind) → IsSound c → kind_of c s ≡ Some k → AreParameters k.mailbox k.init
  pub none : (c : Contents) (s : ℕ) (k : SlaveKind) → IsSound c → kind_of c s ≡ Some k → c.hardware ≡ false → k.init ≡ []

-- A direction of a slave of a table has at most 65536 bits, gaps with them.
abbrev pub EntriesAreFew : Type 0
EntriesAreFew = (c : Contents) (s : ℕ) (d : Direction) (r : SlaveRow) (t : TypeRow) → AreSlaves c.version c.types c.slaves → slice_get c.slaves s ≡ Some r → type_of c s ≡ Some t → IsType t → bits_of (entries_of c s d) ≤ 65536
