-- How a payload's datagrams are compared with those of the frame that was sent, one after another.
use Rattle.std.specs.Prelude.{ℕ, ◌+◌, ◌^◌, ◌≡◌, ◌≢◌, ◌<◌, ◌≤◌, Bool, true, false, List, [], ◌∷◌, length, get_or, slice_get, slice_range, Option, Some, None}
use Rattle.ec_frame.specs.declared.cursor.DatagramSpan.{DatagramSpan}
use Rattle.ec_frame.specs.declared.cursor.Datagrams.{Datagrams}
use Rattle.ec_frame.specs.Cursor.{IsAhead}
use Rattle.ec_frame.specs.Datagram.{Datagram, IsDatagram, spelling}
use Rattle.ec_frame.specs.Frame.{Payload, IsFrame}
use Rattle.ec_frame.specs.Names.{name_bytes, shape}
use Rattle.ec_cycle.specs.Closing.{ReturnedPart}

-- Datagram n came back as d: of the same shape, the first one with the same data, and those behind the second with the same
-- address.
pub record SameAt (n : ℕ) (d e : Datagram) : Type 0 where
  pub shapes : shape d ≡ shape e
  pub named : n ≡ 0 → d.data_bytes ≡ e.data_bytes
  pub addresses : 2 ≤ n → d.address ≡ e.address

-- all datagrams came back so, with datagram n the first
abbrev pub SameFrom : ℕ → List Datagram → List Datagram → Type 0
SameFrom n [] [] = Unit {0}
SameFrom n [] (e ∷ es) = ⊥
SameFrom n (d ∷ ds) [] = ⊥
SameFrom n (d ∷ ds) (e ∷ es) = SameAt n d e × SameFrom (n + 1) ds es

-- ---- where the first datagrams stand

abbrev pub nowhere : DatagramSpan
nowhere = record { from = 0; to = 0 }

-- a datagram's spelling stands there
pub record StandsAt (payload : List ℕ) (s : DatagramSpan) (d : Datagram) : Type 0 where
  pub order : s.from < s.to
  pub within : s.to ≤ length payload
  pub is_datagram : IsDatagram d
  pub more : Bool
  pub spelled : slice_range payload s.from s.to ≡ spelling more d

-- a datagram stands there, or there is none and no place
abbrev pub StandsFor : List ℕ → DatagramSpan → Option Datagram → Type 0
StandsFor payload s None = s ≡ nowhere
StandsFor payload s (Some d) = StandsAt payload s d

-- a step of a cursor that has these datagrams ahead: the place of the first of them, or no place
abbrev pub StepsOn : List ℕ → Datagrams → DatagramSpan → List Datagram → Type 0
StepsOn payload new s [] = (s ≡ nowhere) × IsAhead payload new []
StepsOn payload new s (d ∷ ds) = StandsAt payload s d × IsAhead payload new ds

-- the next datagrams of two frames agree, and both cursors are past them; or the rest of the two doesn't agree
abbrev pub NextAre : ℕ → List ℕ → Datagrams → List ℕ → Datagrams → List Datagram → List Datagram → Bool → Type 0
NextAre n payload places sent sent_places [] es true = ⊥
NextAre n payload places sent sent_places (d ∷ ds) [] true = ⊥
NextAre n payload places sent sent_places (d ∷ ds) (e ∷ es) true = SameAt n d e × IsAhead payload places ds × IsAhead sent sent_places es
NextAre n payload places sent sent_places ds es false = 0 < length ds → SameFrom n ds es → ⊥

-- the places of a list's first four datagrams
abbrev pub FirstStand : List ℕ → List DatagramSpan → List Datagram → Type 0
FirstStand payload spans ds = (n : ℕ) → n < 4 → StandsFor payload (get_or spans n nowhere) (slice_get ds n)

-- the part that the data of a frame's first datagram names, if they are ten bytes
abbrev pub Names : Option Datagram → Option ℕ → Type 0
Names None r = r ≡ None
Names (Some d) None = length d.data_bytes ≢ 10
Names (Some d) (Some k) = (number : ℕ) × (k < 2 ^ 16) × (d.data_bytes ≡ name_bytes number k)

-- The payload's datagrams answer the frame of part k, which isn't kept yet: they name it, and all agree with it.
pub record AnswersPart (ds : List Datagram) (frames : List (List ℕ)) (kept : List (Option ReturnedPart)) (k : ℕ) : Type 0 where
  pub there : k < length frames
  pub not_kept : get_or kept k None ≡ None
  pub named : Names (slice_get ds 0) (Some k)
  pub same : (q : Payload) → IsFrame (get_or frames k []) q → SameFrom 0 ds q.datagrams

-- they answer that part, or none
abbrev pub Answered : List Datagram → List (List ℕ) → List (Option ReturnedPart) → Option ℕ → Type 0
Answered ds frames kept (Some k) = AnswersPart ds frames kept k
Answered ds frames kept None = (k : ℕ) → AnswersPart ds frames kept k → ⊥
