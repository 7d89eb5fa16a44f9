-- The bytes in a slot of a world that starts up.
use Rattle.std.specs.Prelude.{ℕ, ◌≡◌, List, [], ◌∷◌}
use Rattle.ec_frame.specs.Frame.{Payload, IsFrame}
use Rattle.ec_frame.specs.Names.{name_datagram}
use Rattle.ec_bringup.specs.Starting.{Carried}

-- they spell the two datagrams of a start-up's frame
pub record IsCarried (bytes : List ℕ) (c : Carried) : Type 0 where
  pub payload : Payload
  pub spelled : IsFrame bytes payload
  pub datagrams : payload.datagrams ≡ name_datagram c.number 0 ∷ c.datagram ∷ []
