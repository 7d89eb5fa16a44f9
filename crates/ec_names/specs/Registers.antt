-- The registers of a slave, by the standard's names (ETG.1000.4, "Register description"): where each begins, and how many
-- bytes it has. Sixteen FMMUs and sixteen sync managers have a place; the simulated slaves have four of each.
use Rattle.std.specs.Prelude.{ℕ, ◌+◌, ◌-◌, ◌&&◌, nat_le, nat_lt, Bool, List, [], ◌∷◌, filter, Option, slice_range}
use Rattle.std.specs.List.{find}
use Rattle.ec_regs.specs.Memory.{number_of_fmmus, number_of_sync_managers, ram_size, station_address, al_control, al_status, al_status_code, sii_control, sii_address, sii_data, fmmu_start, manager_start}
use Rattle.ec_names.specs.declared.register.Register.{Register}
use Rattle.ec_names.specs.declared.register.Register.TheVariants.{ControllerType, Revision, Build, FmmuCount, ManagerCount, RamSize, PortDescriptors, Features, StationAddress, StationAlias, DlControl, DlStatus, AlControl, AlStatus, AlStatusCode, PdiControl, EventMask, AlEventMask, EventRequest, AlEventRequest, ReceiveErrors, LostLinks, WatchdogDivider, PdiWatchdog, ProcessWatchdog, WatchdogStatus, SiiConfiguration, SiiPdiAccess, SiiControl, SiiAddress, SiiData, Fmmu, Manager, SystemTime, SystemTimeOffset, SystemTimeDelay}

-- the address of its first byte
abbrev pub address_of : Register → ℕ
address_of ControllerType = 0x0000
address_of Revision = 0x0001
address_of Build = 0x0002
address_of FmmuCount = number_of_fmmus
address_of ManagerCount = number_of_sync_managers
address_of RamSize = ram_size
address_of PortDescriptors = 0x0007
address_of Features = 0x0008
address_of StationAddress = station_address
address_of StationAlias = 0x0012
address_of DlControl = 0x0100
address_of DlStatus = 0x0110
address_of AlControl = al_control
address_of AlStatus = al_status
address_of AlStatusCode = al_status_code
address_of PdiControl = 0x0140
address_of EventMask = 0x0200
address_of AlEventMask = 0x0204
address_of EventRequest = 0x0210
address_of AlEventRequest = 0x0220
address_of ReceiveErrors = 0x0300
address_of LostLinks = 0x0310
address_of WatchdogDivider = 0x0400
address_of PdiWatchdog = 0x0410
address_of ProcessWatchdog = 0x0420
address_of WatchdogStatus = 0x0440
address_of SiiConfiguration = 0x0500
address_of SiiPdiAccess = 0x0501
address_of SiiControl = sii_control
address_of SiiAddress = sii_address
address_of SiiData = sii_data
address_of (Fmmu n) = fmmu_start n
address_of (Manager n) = manager_start n
address_of SystemTime = 0x0910
address_of SystemTimeOffset = 0x0920
address_of SystemTimeDelay = 0x0928

-- how many bytes it has
abbrev pub size_of : Register → ℕ
size_of ControllerType = 1
size_of Revision = 1
size_of Build = 2
size_of FmmuCount = 1
size_of ManagerCount = 1
size_of RamSize = 1
size_of PortDescriptors = 1
size_of Features = 2
size_of StationAddress = 2
size_of StationAlias = 2
size_of DlControl = 4
size_of DlStatus = 2
size_of AlControl = 2
size_of AlStatus = 2
size_of AlStatusCode = 2
size_of PdiControl = 1
size_of EventMask = 2
size_of AlEventMask = 4
size_of EventRequest = 2
size_of AlEventRequest = 4
size_of ReceiveErrors = 8
size_of LostLinks = 4
size_of WatchdogDivider = 2
size_of PdiWatchdog = 2
size_of ProcessWatchdog = 2
size_of WatchdogStatus = 2
size_of SiiConfiguration = 1
size_of SiiPdiAccess = 1
size_of SiiControl = 2
size_of SiiAddress = 4
size_of SiiData = 4
size_of (Fmmu n) = 16
size_of (Manager n) = 8
size_of SystemTime = 8
size_of SystemTimeOffset = 8
size_of SystemTimeDelay = 4

-- the registers that have a name, in the order of their addresses
abbrev pub registers : List Register
registers =
    ControllerType ∷ Revision ∷ Build ∷ FmmuCount ∷ ManagerCount ∷ RamSize ∷ PortDescriptors ∷ Features ∷ StationAddress ∷ StationAlias
    ∷ DlControl ∷ DlStatus ∷ AlControl ∷ AlStatus ∷ AlStatusCode ∷ PdiControl ∷ EventMask ∷ AlEventMask ∷ EventRequest ∷ AlEventRequest
    ∷ ReceiveErrors ∷ LostLinks ∷ WatchdogDivider ∷ PdiWatchdog ∷ ProcessWatchdog ∷ WatchdogStatus
    ∷ SiiConfiguration ∷ SiiPdiAccess ∷ SiiControl ∷ SiiAddress ∷ SiiData
    ∷ Fmmu 0 ∷ Fmmu 1 ∷ Fmmu 2 ∷ Fmmu 3 ∷ Fmmu 4 ∷ Fmmu 5 ∷ Fmmu 6 ∷ Fmmu 7 ∷ Fmmu 8 ∷ Fmmu 9 ∷ Fmmu 10 ∷ Fmmu 11 ∷ Fmmu 12 ∷ Fmmu 13 ∷ Fmmu 14 ∷ Fmmu 15
    ∷ Manager 0 ∷ Manager 1 ∷ Manager 2 ∷ Manager 3 ∷ Manager 4 ∷ Manager 5 ∷ Manager 6 ∷ Manager 7 ∷ Manager 8 ∷ Manager 9 ∷ Manager 10 ∷ Manager 11 ∷ Manager 12 ∷ Manager 13 ∷ Manager 14 ∷ Manager 15
    ∷ SystemTime ∷ SystemTimeOffset ∷ SystemTimeDelay ∷ []

-- ---- registers and the data of a datagram

-- all its bytes are among the n bytes that begin at an address
abbrev pub lies_within : (from n : ℕ) → Register → Bool
lies_within from n r = nat_le from (address_of r) && nat_le (address_of r + size_of r) (from + n)

-- the registers of which a datagram has all bytes
abbrev pub registers_within : (from n : ℕ) → List Register
registers_within from n = filter (lies_within from n) registers

-- one of its bytes has the address
abbrev pub has_address : ℕ → Register → Bool
has_address a r = nat_le (address_of r) a && nat_lt a (address_of r + size_of r)

-- the register at an address; no address has two
abbrev pub register_of : ℕ → Option Register
register_of a = find (has_address a) registers

-- its bytes, in data that begin at an address
abbrev pub bytes_in : ℕ → List ℕ → Register → List ℕ
bytes_in from bytes r = slice_range bytes (address_of r - from) (address_of r - from + size_of r)
