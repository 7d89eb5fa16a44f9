-- What bytes are opened to, and the refusals of an opening.
use Rattle.std.specs.Prelude.{ℕ, Bool, List, [], ◌∷◌, Option, Some, None, IsUtf8, codes, take}
use Rattle.ec_slave.specs.State.{SlaveState}
use Rattle.ec_table.specs.Contents.{Contents, advertised_as}
use Rattle.ec_table.specs.Faults.{error_name as table_name, error_number as table_number, error_position, section_number}
use Rattle.ec_table.specs.declared.fault.Position.{Position}
use Rattle.ec_link.specs.Faults.{error_name as link_name, error_number as link_number, error_value}
use Rattle.ec_link.specs.Machine.{Refuses, StatesMachine}
use Rattle.ec_link.specs.declared.machine.MachineError.TheVariants.{Table, Link}
use Rattle.ec_bringup.specs.SwitchedOn.{AreSlavesOf}
use Rattle.ec_session.specs.Sessions.{IsOpened}
use Rattle.ec_handles.specs.Holding.{IsUnasked}
use Rattle.ec_handles.specs.declared.error.OpenError.{OpenError}
use Rattle.ec_handles.specs.declared.error.OpenError.TheVariants.{Text, Machine}
use Rattle.ec_handles.specs.declared.held.HeldMaster.{HeldMaster}

-- the slaves of the table that a text states, just switched on; all of them full slaves if `full`
abbrev pub AreOpened : (full : Bool) → List ℕ → List SlaveState → Type 0
AreOpened full text slaves = (table : Contents) × StatesMachine text table × AreSlavesOf (advertised_as full table) slaves

-- the master of the table that a text states; nothing was asked of it
abbrev pub IsNewMaster : List ℕ → HeldMaster → Type 0
IsNewMaster text h = IsOpened text h.session × IsUnasked h

-- bytes are the text of a master, or of such slaves
abbrev pub HasMaster : List ℕ → HeldMaster → Type 0
HasMaster bytes h = IsUtf8 bytes × IsNewMaster bytes h

abbrev pub HasSlaves : (full : Bool) → List ℕ → List SlaveState → Type 0
HasSlaves full bytes slaves = IsUtf8 bytes × AreOpened full bytes slaves

-- Why bytes open nothing: they are not UTF-8, or it is why their text states no machine. Memory may run out at any time.
abbrev pub IsOpenFault : List ℕ → OpenError → Type 0
IsOpenFault bytes Text = IsUtf8 bytes → ⊥
IsOpenFault bytes (Machine error) = IsUtf8 bytes × Refuses bytes error

-- ---- the numbers, the names and the values of the errors

abbrev pub open_number : OpenError → ℕ
open_number Text = 42
open_number (Machine (Table error)) = table_number error
open_number (Machine (Link error)) = link_number error

abbrev pub open_name : OpenError → List ℕ
open_name Text = codes "Input"
open_name (Machine (Table error)) = table_name error
open_name (Machine (Link error)) = link_name error

abbrev pub of_position : Option Position → List ℕ
of_position None = []
of_position (Some position) = section_number position.section ∷ position.element ∷ []

abbrev pub of_value : Option ℕ → List ℕ
of_value None = []
of_value (Some value) = value ∷ []

abbrev pub open_values : OpenError → List ℕ
open_values Text = []
open_values (Machine (Table error)) = of_position (error_position error)
open_values (Machine (Link error)) = of_value (error_value error)

-- the first `count` of two values
abbrev pub with_values : ℕ → ℕ → ℕ → List ℕ
with_values count first second = take count (first ∷ second ∷ [])
