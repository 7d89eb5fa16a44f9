-- The bytes of a message, as the numbers of the machine say them.
use Rattle.std.proofs.Common.{◌+◌, ◌*◌, ◌/◌, ◌%◌, ◌<◌, ◌≡◌, arith, [], ◌∷◌}
use Rattle.ec_coe.specs.declared.message.Message.{Message}
use Rattle.ec_coe.specs.Messages.{message_bytes, service_number, command_number}

pub spelled : (m : Message) → m.index < 65536 → m.value < 4294967296
    → (10 ∷ 0 ∷ 0 ∷ 0 ∷ 0 ∷ (3 + 16 * m.counter) ∷ 0 ∷ (16 * service_number m.service) ∷ command_number m.command
    ∷ (m.index % 256) ∷ (m.index / 256 % 256) ∷ m.subindex
    ∷ (m.value % 256) ∷ (m.value / 256 % 256) ∷ (m.value / 65536 % 256) ∷ (m.value / 16777216 % 256) ∷ []) ≡ message_bytes m
unfolding message_bytes
spelled m a b =
    let e : m.index / 256 % 256 ≡ m.index / 256 = omega arith in
    let f : m.value / 16777216 % 256 ≡ m.value / 16777216 = omega arith in
    rw (e, f)
