-- How a datagram meets a slave, in the words of the code: the table of commands as one definition.
use Rattle.std.specs.Prelude.{ℕ, ◌+◌, ◌*◌, if◌then◌else◌}
use Rattle.ec_frame.specs.declared.command.Command.{Command}
use Rattle.ec_frame.specs.declared.command.Command.TheVariants.{Nop, Aprd, Apwr, Aprw, Fprd, Fpwr, Fprw, Brd, Bwr, Brw, Lrd, Lwr, Lrw, Armw, Frmw}
use Rattle.ec_frame.specs.Datagram.{Datagram, ado_of}
use Rattle.ec_slave.specs.declared.role.Encounter.{Encounter}
use Rattle.ec_slave.specs.declared.role.Encounter.TheVariants.{Passing, Physical, Logical}
use Rattle.ec_slave.specs.declared.role.Role.{Role}
use Rattle.ec_slave.specs.declared.role.Role.TheVariants.{Read, Write, ReadWrite}
use Rattle.ec_slave.specs.Roles.{role_of, adp_after}
use Rattle.ec_slave.specs.State.{SlaveState, Met, station_of, with_answer}
use Rattle.ec_slave.specs.Physical.{physical_met}
use Rattle.ec_slave.specs.Meeting.{window_of}
use Rattle.ec_slave.specs.Mapped.{meets_mapped}

-- by an address of the memory
abbrev pub addressed_by : Command → ℕ → SlaveState → Encounter
addressed_by c adp s = Physical (role_of c adp (station_of s)) (adp_after c adp)

-- by the command and the received ADP
abbrev pub encounter_of : Command → ℕ → SlaveState → Encounter
encounter_of Nop adp s = Passing
encounter_of Aprd adp s = addressed_by Aprd adp s
encounter_of Apwr adp s = addressed_by Apwr adp s
encounter_of Aprw adp s = addressed_by Aprw adp s
encounter_of Fprd adp s = addressed_by Fprd adp s
encounter_of Fpwr adp s = addressed_by Fpwr adp s
encounter_of Fprw adp s = addressed_by Fprw adp s
encounter_of Brd adp s = addressed_by Brd adp s
encounter_of Bwr adp s = addressed_by Bwr adp s
encounter_of Brw adp s = addressed_by Brw adp s
encounter_of Lrd adp s = Logical Read
encounter_of Lwr adp s = Logical Write
encounter_of Lrw adp s = if s.kind.lrw then Logical ReadWrite else Passing
encounter_of Armw adp s = addressed_by Armw adp s
encounter_of Frmw adp s = addressed_by Frmw adp s

-- a physical datagram by its role and the ADP with which it leaves
abbrev pub meets_addressed : Role → ℕ → SlaveState → Datagram → Met
meets_addressed role adp s d =
    let m = physical_met s role (window_of d) in
    record { slave = m.slave; datagram = with_answer d (adp + 65536 * ado_of d) m.bytes m.added }

-- what an encounter makes of both
abbrev pub met_by : Encounter → SlaveState → Datagram → Met
met_by Passing s d = record { slave = s; datagram = d }
met_by (Physical role adp) s d = meets_addressed role adp s d
met_by (Logical role) s d = meets_mapped role s d
