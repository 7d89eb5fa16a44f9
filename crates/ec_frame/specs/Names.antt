-- How a master names its frames (this project's profile), and what slaves leave of a datagram.
use Rattle.std.specs.Prelude.{ℕ, ◌%◌, List, [], ◌∷◌, ◌++◌, length}
use Rattle.std.specs.Int.{to_le_bytes, w16, w64}
use Rattle.ec_frame.specs.declared.command.Command.{Command}
use Rattle.ec_frame.specs.declared.command.Command.TheVariants.{Nop}
use Rattle.ec_frame.specs.Building.{new_datagram}
use Rattle.ec_frame.specs.Datagram.{Datagram}

-- a frame's number in eight bytes, and in two the part of the process data that it exchanges; in a start-up part 0
abbrev pub name_bytes : ℕ → ℕ → List ℕ
name_bytes number part = to_le_bytes w64 number ++ to_le_bytes w16 part

-- the first datagram of each frame names it; its index, as that of all others, is the low byte of the number
abbrev pub name_datagram : ℕ → ℕ → Datagram
name_datagram number part = new_datagram Nop (number % 256) 0 (name_bytes number part)

-- the name of the frame of some datagrams: the data of the first
abbrev pub name_of : List Datagram → List ℕ
name_of [] = []
name_of (d ∷ ds) = d.data_bytes

pub record Shape : Type 0 where
  pub command : Command
  pub index : ℕ
  pub bytes : ℕ

-- what slaves leave of a datagram
abbrev pub shape : Datagram → Shape
shape d = record { command = d.command; index = d.index; bytes = length d.data_bytes }
