-- Where datagrams stand in bytes, as the writers of lines see them.
use Rattle.std.specs.Prelude.{◌≡◌, ℕ, ◌+◌, ◌<◌, Bool, true, leb, List, [], ◌∷◌, ◌++◌, length, drop}
use Rattle.byteorder.specs.Endian.{little_number}
use Rattle.ec_frame.specs.declared.datagram.Header.{Header}
use Rattle.ec_frame.specs.Datagram.{Datagram, IsDatagram, spelling}

-- the datagram of a header, a counter and data
abbrev pub datagram_of : Header → ℕ → List ℕ → Datagram
datagram_of header counter bytes = record {
  command = header.command;
  index = header.index;
  address = header.address;
  reserved = header.reserved;
  circulating = header.circulating;
  irq = header.irq;
  data_bytes = bytes;
  counter = counter;
}

-- a datagram's spelling begins the bytes, and others begin what follows it
pub record BeginsOne (bytes : List ℕ) (d : Datagram) (rest : List ℕ) : Type 0 where
  pub more : Bool
  pub good : IsDatagram d
  pub parts : bytes ≡ spelling more d ++ rest

abbrev pub BeginsWith : List ℕ → List Datagram → Type 0
BeginsWith bytes [] = Unit {0}
BeginsWith bytes (d ∷ ds) = (rest : List ℕ) × BeginsOne bytes d rest × BeginsWith rest ds

-- a datagram stands whole at the front of the bytes, and is so long; bit 15 of its flags says whether another follows
pub record BeginsLong (bytes : List ℕ) (len : ℕ) : Type 0 where
  pub datagram : Datagram
  pub after : List ℕ
  pub begins : BeginsOne bytes datagram after
  pub size : len ≡ 12 + length datagram.data_bytes
  pub says : leb 32768 (little_number 2 (drop 6 bytes)) ≡ begins.more

-- ---- datagrams that say rightly that another follows

pub record IsOpened (bytes : List ℕ) (len : ℕ) : Type 0 where
  pub datagram : Datagram
  pub after : List ℕ
  pub good : IsDatagram datagram
  pub parts : bytes ≡ spelling true datagram ++ after
  pub size : len ≡ 12 + length datagram.data_bytes
  pub goes_on : 0 < length after

abbrev pub IsNotOpened : List ℕ → Type 0
IsNotOpened bytes = (d : Datagram) (after : List ℕ) → IsDatagram d → bytes ≡ spelling true d ++ after → after ≡ []
