-- A datagram that met a slave is one, as long as it was.
use Rattle.std.specs.Prelude.{ℕ, ◌+◌, ◌*◌, ◌/◌, ◌^◌, ◌<◌, List, [], ◌∷◌, length, ◌≡◌, Bool, true, false, if◌then◌else◌, Option, refl, suc}
use Rattle.std.proofs.Common.{ap, arith, ◌∙◌}
use Rattle.ec_frame.specs.declared.command.Command.{Command}
use Rattle.ec_frame.specs.declared.command.Command.TheVariants.{Nop, Aprd, Apwr, Aprw, Fprd, Fpwr, Fprw, Brd, Bwr, Brw, Lrd, Lwr, Lrw, Armw, Frmw}
use Rattle.ec_frame.specs.Datagram.{Datagram, IsDatagram, adp_of}
use Rattle.ec_frame.specs.Walk.{KeepsLength}
use Rattle.ec_slave.specs.declared.role.Role.{Role}
use Rattle.ec_slave.specs.declared.role.Role.TheVariants.{Nothing, Read, Write, ReadWrite, OrRead, OrReadWrite}
use Rattle.ec_slave.specs.Roles.{role_of, adp_after}
use Rattle.ec_slave.specs.State.{SlaveState, station_of}
use Rattle.ec_slave.specs.Physical.{updated_from, Window, physical_met}
use Rattle.ec_bits.proofs.BitLaws.{length-overlay}
use Rattle.ec_slave.specs.Logical.{meets_logically}
use Rattle.ec_slave.specs.Meeting.{window_of, meets, meets_physically, meets_by, datagram_met}
use Rattle.ec_slave.specs.Column.{datagram_past}

pub length-updated : (k : ℕ) (xs : List ℕ) (f : ℕ → Option ℕ) → length (updated_from k xs f) ≡ length xs
length-updated k [] f = refl
length-updated k (x ∷ xs) f = ap (λ n. suc n) (length-updated (k + 1) xs f)

pub length-physical_met : (s : SlaveState) (role : Role) (w : Window) → length (physical_met s role w).bytes ≡ length w.bytes
unfolding physical_met
length-physical_met s Nothing w = refl
length-physical_met s Read w = length-updated 0 w.bytes _
length-physical_met s Write w = refl
length-physical_met s ReadWrite w = length-updated 0 w.bytes _
length-physical_met s OrRead w = length-updated 0 w.bytes _
length-physical_met s OrReadWrite w = length-updated 0 w.bytes _

pub adp_after-bound : (c : Command) (adp : ℕ) → adp < 65536 → adp_after c adp < 65536
adp_after-bound Nop adp h = h
adp_after-bound Aprd adp h = omega arith
adp_after-bound Apwr adp h = omega arith
adp_after-bound Aprw adp h = omega arith
adp_after-bound Fprd adp h = h
adp_after-bound Fpwr adp h = h
adp_after-bound Fprw adp h = h
adp_after-bound Brd adp h = omega arith
adp_after-bound Bwr adp h = omega arith
adp_after-bound Brw adp h = omega arith
adp_after-bound Lrd adp h = h
adp_after-bound Lwr adp h = h
adp_after-bound Lrw adp h = h
adp_after-bound Armw adp h = omega arith
adp_after-bound Frmw adp h = h

pub address-bound : (address adp : ℕ) → address < 2 ^ 32 → adp < 65536 → adp + 65536 * (address / 65536) < 2 ^ 32
address-bound address adp h k = omega arith

pub physically-keeps : (s : SlaveState) (d : Datagram) → IsDatagram d → IsDatagram (meets_physically s d).datagram × (length (meets_physically s d).datagram.data_bytes ≡ length d.data_bytes)
physically-keeps s d h =
    let role : Role = role_of d.command (adp_of d) (station_of s) in
    let e : length (physical_met s role (window_of d)).bytes ≡ length d.data_bytes = length-physical_met s role (window_of d) in
    let a : adp_after d.command (adp_of d) < 65536 = adp_after-bound d.command (adp_of d) (omega arith) in (
      record {
        index = h.index;
        address = address-bound d.address (adp_after d.command (adp_of d)) h.address a;
        reserved = h.reserved;
        irq = h.irq;
        data_bytes = omega (arith, e, h.data_bytes);
        counter = omega arith;
      },
      e,
    )

pub logically-keeps : (reading writing : Bool) (weight : ℕ) (s : SlaveState) (d : Datagram) → IsDatagram d → IsDatagram (meets_logically reading writing weight s d).datagram × (length (meets_logically reading writing weight s d).datagram.data_bytes ≡ length d.data_bytes)
unfolding meets_logically
logically-keeps reading writing weight s d h =
    let e = length-overlay d.data_bytes _ in
    (record { index = h.index; address = h.address; reserved = h.reserved; irq = h.irq; data_bytes = omega (arith, e, h.data_bytes); counter = omega arith }, e)

lrw-keeps : (b : Bool) (s : SlaveState) (d : Datagram) → IsDatagram d
    → IsDatagram (if b then meets_logically true true 2 s d else record { slave = s; datagram = d }).datagram × (length (if b then meets_logically true true 2 s d else record { slave = s; datagram = d }).datagram.data_bytes ≡ length d.data_bytes)
lrw-keeps true s d h = logically-keeps true true 2 s d h
lrw-keeps false s d h = (h, refl)

by-keeps : (c : Command) (s : SlaveState) (d : Datagram) → IsDatagram d → IsDatagram (meets_by c s d).datagram × (length (meets_by c s d).datagram.data_bytes ≡ length d.data_bytes)
by-keeps Nop s d h = (h, refl)
by-keeps Aprd s d h = physically-keeps s d h
by-keeps Apwr s d h = physically-keeps s d h
by-keeps Aprw s d h = physically-keeps s d h
by-keeps Fprd s d h = physically-keeps s d h
by-keeps Fpwr s d h = physically-keeps s d h
by-keeps Fprw s d h = physically-keeps s d h
by-keeps Brd s d h = physically-keeps s d h
by-keeps Bwr s d h = physically-keeps s d h
by-keeps Brw s d h = physically-keeps s d h
by-keeps Lrd s d h = logically-keeps true false 1 s d h
by-keeps Lwr s d h = logically-keeps false true 1 s d h
by-keeps Lrw s d h = lrw-keeps s.kind.lrw s d h
by-keeps Armw s d h = physically-keeps s d h
by-keeps Frmw s d h = physically-keeps s d h

-- what `Handler` asks of a slave
pub meets-keeps : KeepsLength datagram_met
unfolding meets
meets-keeps s d h = by-keeps d.command s d h

-- and of slaves that it passes one after the other
pub past-keeps : KeepsLength datagram_past
past-keeps [] d h = (h, refl)
past-keeps (s ∷ ss) d h =
    let one = meets-keeps s d h in
    let rest = past-keeps ss (datagram_met s d) one.0 in
    (rest.0, rest.1 ∙ one.1)
