-- What an encounter makes of a slave and a datagram is their meeting.
use Rattle.std.proofs.Common.{◌≡◌, Bool, true, false, if◌then◌else◌, refl, sym, ◌∙◌, ap}
use Rattle.ec_frame.specs.declared.command.Command.{Command}
use Rattle.ec_frame.specs.declared.command.Command.TheVariants.{Nop, Aprd, Apwr, Aprw, Fprd, Fpwr, Fprw, Brd, Bwr, Brw, Lrd, Lwr, Lrw, Armw, Frmw}
use Rattle.ec_frame.specs.Datagram.{Datagram, adp_of}
use Rattle.ec_slave.specs.declared.role.Role.{Role}
use Rattle.ec_slave.specs.declared.role.Role.TheVariants.{ReadWrite}
use Rattle.ec_slave.specs.declared.role.Encounter.{Encounter}
use Rattle.ec_slave.specs.declared.role.Encounter.TheVariants.{Passing, Logical}
use Rattle.ec_slave.specs.Roles.{role_of, adp_after, is_reading, is_writing}
use Rattle.ec_slave.specs.State.{SlaveState, station_of, with_answer}
use Rattle.ec_slave.specs.Meeting.{meets_physically, meets_by, meets}
use Rattle.ec_slave.specs.Encounters.{addressed_by, encounter_of, meets_addressed, met_by}
use Rattle.ec_slave.specs.Logical.{span_of, meets_logically, logical_after}
use Rattle.ec_slave.specs.Mapped.{mapped_met, meets_mapped}

pub meets_mapped-is : (role : Role) (s : SlaveState) (d : Datagram) → meets_mapped role s d ≡ record {
  slave = logical_after s (is_reading role) (is_writing role) (span_of d) d.data_bytes;
  datagram = with_answer d d.address (mapped_met s role (span_of d) d.data_bytes).bytes (mapped_met s role (span_of d) d.data_bytes).added;
}
unfolding meets_logically
meets_mapped-is role s d = refl

physical-is : (c : Command) (s : SlaveState) (d : Datagram) → c ≡ d.command → meets_physically s d ≡ met_by (addressed_by c (adp_of d) s) s d
physical-is c s d e = ap (λ (k : Command). meets_addressed (role_of k (adp_of d) (station_of s)) (adp_after k (adp_of d)) s d) (sym e)

exchange-is : (b : Bool) (s : SlaveState) (d : Datagram) → (if b then meets_mapped ReadWrite s d else record { slave = s; datagram = d }) ≡ met_by (if b then Logical ReadWrite else Passing) s d
exchange-is true s d = refl
exchange-is false s d = refl

by-command : (c : Command) (s : SlaveState) (d : Datagram) → c ≡ d.command → meets_by c s d ≡ met_by (encounter_of c (adp_of d) s) s d
by-command Nop s d e = refl
by-command Aprd s d e = physical-is Aprd s d e
by-command Apwr s d e = physical-is Apwr s d e
by-command Aprw s d e = physical-is Aprw s d e
by-command Fprd s d e = physical-is Fprd s d e
by-command Fpwr s d e = physical-is Fpwr s d e
by-command Fprw s d e = physical-is Fprw s d e
by-command Brd s d e = physical-is Brd s d e
by-command Bwr s d e = physical-is Bwr s d e
by-command Brw s d e = physical-is Brw s d e
by-command Lrd s d e = refl
by-command Lwr s d e = refl
by-command Lrw s d e = exchange-is s.kind.lrw s d
by-command Armw s d e = physical-is Armw s d e
by-command Frmw s d e = physical-is Frmw s d e

-- the same, by an encounter that was found
pub meets-is : (s : SlaveState) (d : Datagram) (met : Encounter) → met ≡ encounter_of d.command (adp_of d) s → met_by met s d ≡ meets s d
unfolding meets
meets-is s d met e = ap (λ (x : Encounter). met_by x s d) e ∙ sym (by-command d.command s d refl)
