-- What a builder's private bytes are.
use Rattle.std.specs.Prelude.{◌≡◌, ℕ, ◌+◌, ◌≤◌, List, [], ◌∷◌, ◌++◌, length, drop}
use Rattle.std.specs.List.{AllByRecursion}
use Rattle.byteorder.specs.Endian.{little_bytes}
use Rattle.ec_frame.specs.declared.command.Command.{Command}
use Rattle.ec_frame.specs.Commands.{number_of}
use Rattle.ec_frame.specs.Datagram.{Datagram, IsDatagram, joined, opened}
use Rattle.ec_frame.specs.Decoded.{datagrams_in}
use Rattle.ec_frame.specs.Frame.{IsByte}

-- the datagrams behind the two bytes of a header that says nothing yet
abbrev pub built_datagrams : List ℕ → List Datagram
built_datagrams bytes = datagrams_in (length bytes) (drop 2 bytes)

-- the builder's bytes are two for the header, and then these datagrams, each with its more bit set
pub record IsBuilt (bytes : List ℕ) (last : ℕ) (ds : List Datagram) : Type 0 where
  pub fits : AllByRecursion IsByte bytes
  pub each : AllByRecursion IsDatagram ds
  pub most : length (joined ds) ≤ 1470
  pub spelled : bytes ≡ 0 ∷ 0 ∷ opened ds
  -- where the last one begins
  pub place : (before : List Datagram) (d : Datagram) → ds ≡ before ++ d ∷ []
      → last ≡ 2 + length (opened before)

-- the ten bytes before the data of a datagram, with this word of flags
abbrev pub ten_bytes : Command → ℕ → ℕ → ℕ → List ℕ
ten_bytes command index address word = number_of command ∷ index ∷ little_bytes 4 address ++ little_bytes 2 word ++ little_bytes 2 0
