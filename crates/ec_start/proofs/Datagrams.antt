-- The datagrams of actions: their lengths, and what of them a number leaves alone.
use Rattle.std.proofs.Common.{◌≡◌, ℕ, ◌-◌, ◌≤◌, length, refl, arith, length-append}
use Rattle.std.proofs.lemmas.List.{length-replicate}
use Rattle.ec_bits.specs.Bits.{zeros}
use Rattle.ec_coe.specs.Messages.{message_bytes}
use Rattle.ec_start.specs.declared.action.SdoRequest.{SdoRequest}
use Rattle.ec_start.specs.Actions.{request_bytes, filled}

bytes_length : (before : ℕ) (r : SdoRequest) → length (request_bytes before r) ≡ 16
unfolding message_bytes
bytes_length before r = refl

pub filled_length : (size before : ℕ) (r : SdoRequest) → 16 ≤ size → size ≡ length (filled size (request_bytes before r))
filled_length size before r some =
    let b = bytes_length before r in
    let z : length (zeros (size - length (request_bytes before r))) ≡ size - length (request_bytes before r) = length-replicate {A = ℕ} _ 0 in
    omega (arith, some, b, z, length-append (request_bytes before r) (zeros (size - length (request_bytes before r))))
