-- One slave and the datagrams of a frame (ETG.1000.4, "EtherCAT datagram", "Working counter").
use Rattle.std.specs.Prelude.{ℕ, ◌+◌, ◌*◌, ◌≡◌, List, [], ◌∷◌, true, false, if◌then◌else◌}
use Rattle.ec_frame.specs.declared.command.Command.{Command}
use Rattle.ec_frame.specs.declared.command.Command.TheVariants.{Nop, Aprd, Apwr, Aprw, Fprd, Fpwr, Fprw, Brd, Bwr, Brw, Lrd, Lwr, Lrw, Armw, Frmw}
use Rattle.ec_frame.specs.Datagram.{Datagram, adp_of, ado_of}
use Rattle.ec_frame.specs.Frame.{Payload, IsFrame, with_datagrams}
use Rattle.ec_slave.specs.Roles.{role_of, adp_after}
use Rattle.ec_slave.specs.State.{SlaveState, Met, station_of, with_answer}
use Rattle.ec_slave.specs.Physical.{Window, physical_met}
use Rattle.ec_slave.specs.Logical.{meets_logically}

abbrev pub window_of : Datagram → Window
window_of d = record { from = ado_of d; bytes = d.data_bytes }

-- A physical command. The role goes by the station address as it is when the datagram comes, so a station address that a
-- datagram writes counts for the next datagram.
abbrev pub meets_physically : SlaveState → Datagram → Met
meets_physically s d =
    let m = physical_met s (role_of d.command (adp_of d) (station_of s)) (window_of d) in
    record { slave = m.slave; datagram = with_answer d (adp_after d.command (adp_of d) + 65536 * ado_of d) m.bytes m.added }

abbrev pub meets_by : Command → SlaveState → Datagram → Met
meets_by Nop s d = record { slave = s; datagram = d }
meets_by Aprd s d = meets_physically s d
meets_by Apwr s d = meets_physically s d
meets_by Aprw s d = meets_physically s d
meets_by Fprd s d = meets_physically s d
meets_by Fpwr s d = meets_physically s d
meets_by Fprw s d = meets_physically s d
meets_by Brd s d = meets_physically s d
meets_by Bwr s d = meets_physically s d
meets_by Brw s d = meets_physically s d
meets_by Lrd s d = meets_logically true false 1 s d
meets_by Lwr s d = meets_logically false true 1 s d
meets_by Lrw s d = if s.kind.lrw then meets_logically true true 2 s d else record { slave = s; datagram = d }
meets_by Armw s d = meets_physically s d
meets_by Frmw s d = meets_physically s d

-- one slave and one datagram
unfoldable pub meets : SlaveState → Datagram → Met
meets s d = meets_by d.command s d

abbrev pub slave_met : SlaveState → Datagram → SlaveState
slave_met s d = (meets s d).slave

abbrev pub datagram_met : SlaveState → Datagram → Datagram
datagram_met s d = (meets s d).datagram

-- a slave and the datagrams of a frame after they met
pub record Passed : Type 0 where
  pub slave : SlaveState
  pub datagrams : List Datagram

-- the datagrams of a frame act in order
abbrev pub passes : SlaveState → List Datagram → Passed
passes s [] = record { slave = s; datagrams = [] }
passes s (d ∷ ds) = record {
  slave = (passes (slave_met s d) ds).slave;
  datagrams = datagram_met s d ∷ (passes (slave_met s d) ds).datagrams;
}

-- a slave and a frame before and after the frame passed it
pub record IsPassed (old : SlaveState) (before : List ℕ) (new : SlaveState) (after : List ℕ) : Type 0 where
  pub slave : (p : Payload) → IsFrame before p → new ≡ (passes old p.datagrams).slave
  pub frame : (p : Payload) → IsFrame before p → IsFrame after (with_datagrams p (passes old p.datagrams).datagrams)
