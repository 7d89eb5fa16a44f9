-- Where a walk over datagrams stops.
use Rattle.std.specs.Prelude.{◌≡◌, ℕ, ◌<◌, List, ◌++◌, length}
use Rattle.std.specs.List.{AllByRecursion}
use Rattle.ec_frame.specs.Datagram.{Datagram, IsDatagram, opened}
use Rattle.ec_decode.specs.declared.located.Front.{Front}
use Rattle.ec_decode.specs.Standing.{IsNotOpened}

-- no datagram that says rightly that another follows begins what is left
pub record Stops (area : List ℕ) (f : Front) : Type 0 where
  pub datagrams : List Datagram
  pub rest : List ℕ
  pub each : AllByRecursion IsDatagram datagrams
  pub parts : area ≡ opened datagrams ++ rest
  pub whole : f.whole ≡ length datagrams
  pub len : f.len ≡ length (opened datagrams)
  pub last : IsNotOpened rest
  pub some : 0 < length area → 0 < length rest
