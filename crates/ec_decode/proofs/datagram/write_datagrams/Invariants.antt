use Rattle.std.proofs.Common.{◌≡◌, List, length, string_bytes}
use Rattle.ec_frame.specs.Datagram.{Datagram}
use Rattle.ec_decode.specs.Standing.{BeginsWith}
use Rattle.ec_decode.proofs.Walking.{Left}
use Rattle.ec_decode.proofs.datagram.write_datagrams.Given as goal

-- of the datagrams that stand at the front, those that are left stand at the front of what is left
abbrev pub invariant-loop-number : goal.invariant-loop-number
invariant-loop-number l =
    (ds : List Datagram) → BeginsWith l.bytes ds → l.count ≡ length ds → Left ds l.rest l.number (string_bytes l.initial.text) (string_bytes l.text)
