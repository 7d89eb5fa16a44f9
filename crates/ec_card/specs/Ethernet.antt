-- Ethernet frames that carry EtherCAT (IEEE 802.3, with a type in place of a length; ETG.1000.4, "EtherCAT frame structure").
-- The check sequence behind a frame is the card's own.
use Rattle.std.specs.Prelude.{◌≡◌, ◌≢◌, ℕ, ◌-◌, List, [], ◌∷◌, ◌++◌, length, replicate}
use Rattle.ec_card.specs.declared.ethernet.Sender.{Sender}
use Rattle.ec_card.specs.declared.ethernet.Sender.TheVariants.{Master, Segment}

-- the destination that every station takes: the broadcast address
abbrev pub to_all : List ℕ
to_all = 0xFF ∷ 0xFF ∷ 0xFF ∷ 0xFF ∷ 0xFF ∷ 0xFF ∷ []

-- The source address of a sender. A slave sets bit 1 of its first byte, so all frames of a segment have it set.
abbrev pub source_of : Sender → List ℕ
source_of Master = 0 ∷ 0 ∷ 0 ∷ 0x45 ∷ 0x43 ∷ 1 ∷ []
source_of Segment = 2 ∷ 0 ∷ 0 ∷ 0x45 ∷ 0x43 ∷ 1 ∷ []

-- the type of EtherCAT, 0x88A4, whose high byte comes first
abbrev pub ether_type : List ℕ
ether_type = 0x88 ∷ 0xA4 ∷ []

-- the zeros behind a payload: an Ethernet frame has at least 60 bytes, 14 of them before the payload
abbrev pub padding : List ℕ → List ℕ
padding payload = replicate (46 - length payload) 0

-- the frame in which a side sends a payload
abbrev pub framed : Sender → List ℕ → List ℕ
framed sender payload = to_all ++ source_of sender ++ ether_type ++ payload ++ padding payload

-- A received frame is handed on: it has two addresses and the type of EtherCAT, and isn't one's own. The payload is all bytes behind
-- the type.
pub record HandsOn (own : Sender) (frame payload : List ℕ) : Type 0 where
  pub destination : List ℕ
  pub source : List ℕ
  pub six : length destination ≡ 6
  pub six_more : length source ≡ 6
  pub foreign : source ≢ source_of own
  pub parts : frame ≡ destination ++ source ++ ether_type ++ payload
