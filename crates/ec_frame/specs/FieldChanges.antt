-- A datagram with one field changed is one too: what an impl of `Handler` shows of what it makes.
use Rattle.std.specs.Prelude.{◌≡◌, ℕ, ◌^◌, ◌<◌, List, length}
use Rattle.std.proofs.Common.{sym, subst, arith}
use Rattle.ec_frame.specs.Datagram.{Datagram, IsDatagram}
use Rattle.ec_frame.specs.Fields.{with_address, with_adp, with_counter, with_data}

pub IsDatagram-with_address : (d : Datagram) (n : ℕ) → IsDatagram d → n < 2 ^ 32 → IsDatagram (with_address d n)
IsDatagram-with_address d n h fits = record { index = h.index; address = fits; reserved = h.reserved; irq = h.irq; data_bytes = h.data_bytes; counter = h.counter }

pub IsDatagram-with_adp : (d : Datagram) (n : ℕ) → IsDatagram d → n < 65536 → IsDatagram (with_adp d n)
IsDatagram-with_adp d n h fits =
    let address = h.address in
    record { index = h.index; address = omega arith; reserved = h.reserved; irq = h.irq; data_bytes = h.data_bytes; counter = h.counter }

pub IsDatagram-with_counter : (d : Datagram) (n : ℕ) → IsDatagram d → n < 65536 → IsDatagram (with_counter d n)
IsDatagram-with_counter d n h fits = record { index = h.index; address = h.address; reserved = h.reserved; irq = h.irq; data_bytes = h.data_bytes; counter = fits }

pub IsDatagram-with_data : (d : Datagram) (bytes : List ℕ) → IsDatagram d → length bytes ≡ length d.data_bytes → IsDatagram (with_data d bytes)
IsDatagram-with_data d bytes h same =
    let fits : length bytes < 2048 = subst (λ (n : ℕ). n < 2048) (sym same) h.data_bytes in
    record { index = h.index; address = h.address; reserved = h.reserved; irq = h.irq; data_bytes = fits; counter = h.counter }
