-- Laws over the definitions of Ethernet frames alone.
use Rattle.std.specs.Prelude.{◌≡◌, ◌≢◌, ℕ, ◌≤◌, List, ◌++◌, length, replicate}
use Rattle.ec_frame.specs.Frame.{IsFrame, Payload}
use Rattle.ec_card.specs.declared.ethernet.Sender.{Sender}
use Rattle.ec_card.specs.Ethernet.{HandsOn, framed, padding}

-- The other side is handed exactly the payload that one side sends, with its padding behind it.
pub record PayloadsComeThrough : Type 0 where
  pub come : (sender own : Sender) (payload : List ℕ) → sender ≢ own → HandsOn own (framed sender payload) (payload ++ padding payload)
  pub alone : (sender own : Sender) (payload handed : List ℕ) → HandsOn own (framed sender payload) handed → handed ≡ payload ++ padding payload

-- a frame is never handed on to the side that sent it
abbrev pub OwnFramesAreDropped : Type 0
OwnFramesAreDropped = (own : Sender) (payload handed : List ℕ) → HandsOn own (framed own payload) handed → ⊥

-- A frame of datagrams with zeros behind it is a frame of these datagrams: the zeros are bytes that no one touches.
abbrev pub PaddingIsRest : Type 0
PaddingIsRest = (payload : List ℕ) (p : Payload) (n : ℕ) → IsFrame payload p
    → IsFrame (payload ++ replicate n 0) (record p { rest = p.rest ++ replicate n 0 })

-- no frame is shorter than Ethernet allows
abbrev pub FramesAreLongEnough : Type 0
FramesAreLongEnough = (sender : Sender) (payload : List ℕ) → 60 ≤ length (framed sender payload)

-- a frame has at most one payload
abbrev pub PayloadsHaveOneReading : Type 0
PayloadsHaveOneReading = (one other : Sender) (frame payload handed : List ℕ) → HandsOn one frame payload → HandsOn other frame handed → handed ≡ payload
