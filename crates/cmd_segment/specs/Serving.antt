-- What `ecat segment` prints (this project's profile).
use Rattle.std.specs.Prelude.{◌≡◌, ◌⊎◌, ℕ, List, Option, None, Some, Result, Ok, Err}
use Rattle.std.specs.Result.{IsErrAnd}
use Rattle.ec_slave.specs.State.{SlaveState}
use Rattle.ec_table.specs.Contents.{Contents}
use Rattle.ec_bringup.specs.SwitchedOn.{AreSlavesOf}
use Rattle.ec_wire.specs.Wires.{WireState, silent}
use Rattle.ec_wire.specs.Segments.{HasServed, WasCutOff}
use Rattle.ec_console.specs.declared.refusal.Refusal.{Refusal}
use Rattle.ec_console.specs.declared.refusal.Refusal.TheVariants.{Memory, Output, Socket}
use Rattle.ec_console.specs.declared.wanted.Manner.{Manner}
use Rattle.ec_console.specs.Given.{Given}
use Rattle.ec_console.specs.Printing.{IsCutOff, IsPrinted, OutputState}
use Rattle.ec_console.specs.Refusals.{IsSocket}
use Rattle.ec_live.specs.Doing.{served_line}
use Rattle.ec_live.specs.Living.{LivesOn, begun}
use Rattle.ec_live.specs.State.{IsNewLive, LiveState}
use Rattle.cmd_segment.specs.Opening.{TellsOpened}

-- ---- on a wire

-- as many payloads come as there are to come; without a number, as many as come before the patience is over
abbrev pub IsAll : Option ℕ → ℕ → Type 0
IsAll None count = Unit {0}
IsAll (Some frames) count = count ≡ frames

-- Slaves on a wire answered and refused payloads, by what the slaves and the wire are before and after. All payloads came.
abbrev pub ServedAll : Option ℕ → (may_produce : List ℕ → List ℕ → Type 0) → (first last : List SlaveState) → (before after : WireState) → (answered refused : ℕ) → Type 0
ServedAll frames may_produce first last before after answered refused =
    (count : ℕ) × IsAll frames count × HasServed may_produce first last before after count answered refused

-- a call of the wire was a fault before
abbrev pub ServedSome : Option ℕ → (may_produce : List ℕ → List ℕ → Type 0) → (first last : List SlaveState) → (before after : WireState) → (answered refused : ℕ) → Type 0
ServedSome frames may_produce first last before after answered refused =
    (count : ℕ) × IsAll frames count × WasCutOff may_produce first last before after count answered refused

-- The counts are printed at every end: all payloads came, or a call of the wire was a fault. Or a write was refused, and a first
-- part of the line is printed.
abbrev pub ServesSegment : Option ℕ → (may_produce : List ℕ → List ℕ → Type 0) → (first last : List SlaveState) → (before after : WireState) → (old new : OutputState) → Result Unit Refusal → Type 0
ServesSegment frames may_produce first last before after old new (Ok done) =
    (answered : ℕ) × (refused : ℕ) × ServedAll frames may_produce first last before after answered refused × IsPrinted old new (served_line answered refused)
ServesSegment frames may_produce first last before after old new (Err (Socket trouble)) =
    (answered : ℕ) × (refused : ℕ) × ServedSome frames may_produce first last before after answered refused × IsPrinted old new (served_line answered refused)
ServesSegment frames may_produce first last before after old new (Err Output) =
    (answered : ℕ) × (refused : ℕ) × (ServedAll frames may_produce first last before after answered refused ⊎ ServedSome frames may_produce first last before after answered refused)
    × IsCutOff old new (served_line answered refused)
ServesSegment frames may_produce first last before after old new (Err _) = ⊥

-- ---- on a port or a card

-- an application that may make any inputs
abbrev pub any_inputs : List ℕ → List ℕ → Type 0
any_inputs outputs inputs = Unit {0}

-- Slaves at a wire that is open. Nothing is known of what it carried.
pub record ServesOpened (frames : Option ℕ) (first : List SlaveState) (old new : OutputState) (ended : Result Unit Refusal) : Type 0 where
  pub closed : WireState
  pub last : List SlaveState
  pub serves : ServesSegment frames any_inputs first last (silent 0) closed old new ended

-- slaves are served on a port, or on the card of a descriptor
pub record ServesOn (descriptor : Option ℕ) (octets : List ℕ) (port : ℕ) (frames : Option ℕ) (first : List SlaveState) (old new quiet stderr : OutputState) (ended : Result Unit Refusal) : Type 0 where
  pub tells : TellsOpened descriptor octets port quiet stderr
  pub serves : ServesOpened frames first old new ended

-- there is no such socket, and nothing is printed or told
pub record IsUnopened (old new quiet noted : OutputState) (ended : Result Unit Refusal) : Type 0 where
  pub refused : IsErrAnd ended IsSocket
  pub printed : new ≡ old
  pub stderr : noted ≡ quiet

-- there is no memory, and nothing is printed or told
abbrev pub IsUnmade : (old new quiet stderr : OutputState) → Result Unit Refusal → Type 0
IsUnmade old new quiet stderr ended = (ended ≡ Err Memory) × (new ≡ old) × (stderr ≡ quiet)

-- the slaves of a machine, just switched on, are served
abbrev pub ServesMachine : (descriptor : Option ℕ) → (octets : List ℕ) → (port : ℕ) → (frames : Option ℕ) → Contents → (old new quiet stderr : OutputState) → Result Unit Refusal → Type 0
ServesMachine descriptor octets port frames t old new quiet stderr ended =
    ((first : List SlaveState) × AreSlavesOf t first × (ServesOn descriptor octets port frames first old new quiet stderr ended ⊎ IsUnopened old new quiet stderr ended))
    ⊎ IsUnmade old new quiet stderr ended

-- ---- while lines move them

-- They live at a wire that is open, by what the input gives. Nothing is known of what the wire carried.
abbrev pub LivesOpened : (frames : Option ℕ) → (first : LiveState) → Given → (old new : OutputState) → Result Unit Refusal → Type 0
LivesOpened frames first input old new ended = (left : Option (List ℕ)) × LivesOn frames (begun first (silent 0) input.bytes old) left new ended

-- the slaves of a machine, just switched on, live on a port, or on the card of a descriptor
abbrev pub LivesMachine : (descriptor : Option ℕ) → (octets : List ℕ) → (port : ℕ) → (frames : Option ℕ) → Manner → Contents → Given → (old new quiet stderr : OutputState) → Result Unit Refusal → Type 0
LivesMachine descriptor octets port frames manner t input old new quiet stderr ended =
    ((first : LiveState) × IsNewLive t manner first × ((TellsOpened descriptor octets port quiet stderr × LivesOpened frames first input old new ended) ⊎ IsUnopened old new quiet stderr ended))
    ⊎ IsUnmade old new quiet stderr ended
