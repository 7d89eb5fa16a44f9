-- Where the spellings of a frame's datagrams stand, and a cursor over them.
use Rattle.std.specs.Prelude.{◌≡◌, ℕ, ◌+◌, List, [], ◌∷◌, ◌++◌, length, Option, Some, None}
use Rattle.std.specs.List.{AllByRecursion}
use Rattle.ec_frame.specs.declared.cursor.DatagramSpan.{DatagramSpan}
use Rattle.ec_frame.specs.declared.cursor.Datagrams.{Datagrams}
use Rattle.ec_frame.specs.Datagram.{Datagram, IsDatagram, joined}

-- the datagrams that a cursor has ahead of it: their spellings stand between its two places
pub record IsAhead (frame : List ℕ) (places : Datagrams) (ds : List Datagram) : Type 0 where
  pub front : List ℕ
  pub back : List ℕ
  pub each : AllByRecursion IsDatagram ds
  pub parts : frame ≡ front ++ (joined ds ++ back)
  pub at : places.at ≡ length front
  pub end : places.end ≡ places.at + length (joined ds)

-- a step of the cursor gives the place of the first of them and goes past it, or gives none
abbrev pub StepsTo : Datagrams → Datagrams → Option DatagramSpan → List Datagram → Type 0
StepsTo old new result [] = (result ≡ None) × (new ≡ old)
StepsTo old new result (d ∷ ds) =
    (result ≡ Some (record { from = old.at; to = old.at + (12 + length d.data_bytes) }))
    × (new ≡ record { at = old.at + (12 + length d.data_bytes); end = old.end })
