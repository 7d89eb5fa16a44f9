-- What the private fields of a reader hold.
use Rattle.std.specs.Prelude.{◌≡◌, ℕ, ◌<◌, ◌≤◌, ◌^◌, List, length}
use Rattle.std.specs.List.{AllByRecursion}
use Rattle.ec_frame.specs.Datagram.{Datagram, IsDatagram, opened}
use Rattle.ec_frame.specs.Decoded.{datagrams_in}
use Rattle.ec_decode.specs.declared.begun.Begun.{Begun as BegunHeld}
use Rattle.ec_decode.specs.Reading.{Begun}
use Rattle.ec_decode.specs.Stating.{heading_of}

-- the datagrams of an area
abbrev pub datagrams_held : List ℕ → List Datagram
datagrams_held area = datagrams_in (length area) area

-- the area spells these datagrams, each of which says that another follows; they are fewer than the frame's line says
pub record Holds (b : BegunHeld) (ds : List Datagram) : Type 0 where
  pub each : AllByRecursion IsDatagram ds
  pub area : b.area.items ≡ opened ds
  pub read : b.read ≡ length ds
  pub fewer : b.read < b.heading.count
  pub most : length b.area.items ≤ 1470

abbrev pub IsHeld : BegunHeld → Type 0
IsHeld b = Holds b (datagrams_held b.area.items)

abbrev pub begun_of : BegunHeld → Begun
begun_of b = record { heading = heading_of b.heading; datagrams = datagrams_held b.area.items }

-- the fields before the data fit their bits
pub record HasFields (d : Datagram) : Type 0 where
  pub index : d.index < 256
  pub address : d.address < 2 ^ 32
  pub irq : d.irq < 65536
