-- What is read of the first fourteen bytes of a frame.
use Rattle.std.specs.Prelude.{◌≡◌, ◌≢◌, ℕ, List, take, drop}
use Rattle.ec_card.specs.declared.ethernet.Sender.{Sender}
use Rattle.ec_card.specs.Ethernet.{ether_type, source_of}

-- its type is that of EtherCAT, and its source not one's own
abbrev pub IsHandedOn : Sender → List ℕ → Type 0
IsHandedOn own heading = (drop 12 heading ≡ ether_type) × (take 6 (drop 6 heading) ≢ source_of own)
