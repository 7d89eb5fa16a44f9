-- What a scan's frames can't do.
use Rattle.std.specs.Prelude.{ℕ}
use Rattle.ec_start.specs.declared.action.Action.{Action}
use Rattle.ec_start.specs.Actions.{datagram_of}
use Rattle.ec_start.specs.Doable.{IsDoable}
use Rattle.ec_scan.specs.Scanning.{IsHarmless, IsOfScan}

-- No action of a scan has a datagram that downloads, moves process data, or asks for a state above PREOP.
abbrev pub HarmlessActions : Type 0
HarmlessActions = (a : Action) (number : ℕ) → IsDoable a → IsOfScan a → IsHarmless (datagram_of a number)
