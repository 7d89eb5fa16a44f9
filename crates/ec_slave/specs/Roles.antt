-- What a slave does with a datagram of each command (ETG.1000.4, "EtherCAT commands"; ETG.1000.3, the data link services).
use Rattle.std.specs.Prelude.{ℕ, ◌+◌, ◌%◌, ◌==◌, Bool, true, false, if◌then◌else◌}
use Rattle.ec_frame.specs.declared.command.Command.{Command}
use Rattle.ec_frame.specs.declared.command.Command.TheVariants.{Nop, Aprd, Apwr, Aprw, Fprd, Fpwr, Fprw, Brd, Bwr, Brw, Lrd, Lwr, Lrw, Armw, Frmw}
use Rattle.ec_slave.specs.declared.role.Role.{Role}
use Rattle.ec_slave.specs.declared.role.Role.TheVariants.{Nothing, Read, Write, ReadWrite, OrRead, OrReadWrite}

-- The role of a slave of a station address that receives an ADP. Auto increment commands mean the slave that receives 0,
-- configured address commands the slave whose station address is the ADP, broadcasts every slave. In the multiple write
-- commands the slave that is meant reads, and every other one writes. Logical commands go by the FMMUs and have no role.
abbrev pub role_of : Command → ℕ → ℕ → Role
role_of Nop adp station = Nothing
role_of Aprd adp station = if adp == 0 then Read else Nothing
role_of Apwr adp station = if adp == 0 then Write else Nothing
role_of Aprw adp station = if adp == 0 then ReadWrite else Nothing
role_of Fprd adp station = if adp == station then Read else Nothing
role_of Fpwr adp station = if adp == station then Write else Nothing
role_of Fprw adp station = if adp == station then ReadWrite else Nothing
role_of Brd adp station = OrRead
role_of Bwr adp station = Write
role_of Brw adp station = OrReadWrite
role_of Lrd adp station = Nothing
role_of Lwr adp station = Nothing
role_of Lrw adp station = Nothing
role_of Armw adp station = if adp == 0 then Read else Write
role_of Frmw adp station = if adp == station then Read else Write

-- the ADP that leaves a slave: auto increment commands and broadcasts add 1, modulo 65536
abbrev pub adp_after : Command → ℕ → ℕ
adp_after Nop adp = adp
adp_after Aprd adp = (adp + 1) % 65536
adp_after Apwr adp = (adp + 1) % 65536
adp_after Aprw adp = (adp + 1) % 65536
adp_after Fprd adp = adp
adp_after Fpwr adp = adp
adp_after Fprw adp = adp
adp_after Brd adp = (adp + 1) % 65536
adp_after Bwr adp = (adp + 1) % 65536
adp_after Brw adp = (adp + 1) % 65536
adp_after Lrd adp = adp
adp_after Lwr adp = adp
adp_after Lrw adp = adp
adp_after Armw adp = (adp + 1) % 65536
adp_after Frmw adp = adp

abbrev pub is_reading : Role → Bool
is_reading Nothing = false
is_reading Read = true
is_reading Write = false
is_reading ReadWrite = true
is_reading OrRead = true
is_reading OrReadWrite = true

abbrev pub is_writing : Role → Bool
is_writing Nothing = false
is_writing Read = false
is_writing Write = true
is_writing ReadWrite = true
is_writing OrRead = false
is_writing OrReadWrite = true

-- the memory is joined to the data by OR
abbrev pub is_joining : Role → Bool
is_joining Nothing = false
is_joining Read = false
is_joining Write = false
is_joining ReadWrite = false
is_joining OrRead = true
is_joining OrReadWrite = true
