-- The datagrams of a frame as they are lent, one after another.
use Rattle.std.specs.Prelude.{◌≡◌, ℕ, ◌+◌, ◌-◌, List, ◌∷◌, ◌++◌, length, take, drop}
use Rattle.ec_frame.specs.declared.cursor.DatagramSpan.{DatagramSpan}
use Rattle.ec_frame.specs.declared.cursor.Datagrams.{Datagrams}
use Rattle.ec_frame.specs.declared.datagrams.Datagram.{Datagram as Lent}
use Rattle.ec_frame.specs.Datagram.{Datagram, opened, joined}
use Rattle.ec_frame.specs.Frame.{IsFrame, Payload, with_datagrams}

-- the bytes are a frame of these datagrams, of which the first ones were lent and the others are ahead
pub record IsLending (bytes : List ℕ) (l : Datagrams) (p : Payload) (past ahead : List Datagram) : Type 0 where
  pub frame : IsFrame bytes (with_datagrams p (past ++ ahead))
  pub at : l.at ≡ 2 + length (opened past)
  pub end : l.end ≡ 2 + length (joined (past ++ ahead))

-- a datagram of a frame, between those before it and those behind it
pub record Among : Type 0 where
  pub payload : Payload
  pub past : List Datagram
  pub datagram : Datagram
  pub ahead : List Datagram

-- another datagram in its place
abbrev pub written_as : Among → Datagram → Among
written_as s d = record s { datagram = d }

-- the bytes are a frame with it, and its spelling stands there
pub record IsAt (bytes : List ℕ) (span : DatagramSpan) (s : Among) : Type 0 where
  pub frame : IsFrame bytes (with_datagrams s.payload (s.past ++ s.datagram ∷ s.ahead))
  pub from : span.from ≡ 2 + length (opened s.past)
  pub to : span.to ≡ span.from + (12 + length s.datagram.data_bytes)

-- how many bytes of data it has
abbrev pub data_room : Lent → ℕ
data_room l = l.span.to - l.span.from - 12

-- how many bytes of datagrams are ahead
abbrev pub bytes_ahead : Datagrams → ℕ
bytes_ahead l = l.end - l.at

abbrev pub IsLent : Lent → Among → Type 0
IsLent l s = IsAt l.frame.now l.span s

abbrev pub HasNext : List ℕ → Datagrams → Type 0
HasNext bytes l = (s : Among) × IsLending bytes l s.payload s.past (s.datagram ∷ s.ahead)

abbrev pub IsSomeLent : Lent → Type 0
IsSomeLent l = (s : Among) × IsLent l s

-- bytes over others, from byte a on
abbrev pub overwritten : List ℕ → ℕ → List ℕ → List ℕ
overwritten xs a ys = take a xs ++ (ys ++ drop (length ys) (drop a xs))
