-- What a pass over all datagrams of a frame makes, by a handler that handles them in order.
use Rattle.std.specs.Prelude.{◌≡◌, List, [], ◌∷◌, length}
use Rattle.ec_frame.specs.Datagram.{Datagram, IsDatagram}

module _ {S : Type 0} (f : S → Datagram → Datagram) (g : S → Datagram → S) where
  -- each datagram as it is handled, in order
  abbrev pub handled_all : S → List Datagram → List Datagram
  handled_all s [] = []
  handled_all s (d ∷ ds) = f s d ∷ handled_all (g s d) ds

  -- the state in the end
  abbrev pub after_all : S → List Datagram → S
  after_all s [] = s
  after_all s (d ∷ ds) = after_all (g s d) ds

-- a handled datagram is one too, as long as it was
abbrev pub KeepsLength : {S : Type 0} → (S → Datagram → Datagram) → Type 0
KeepsLength {S} f = (s : S) (d : Datagram) → IsDatagram d → IsDatagram (f s d) × (length (f s d).data_bytes ≡ length d.data_bytes)
