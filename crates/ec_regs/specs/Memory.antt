-- The memory of a slave: registers from 0 on, then the RAM (ETG.1000.4, "Physical memory" and "Register description", and
-- the profile of the simulated slaves).
use Rattle.std.specs.Prelude.{ℕ, ◌+◌, ◌*◌, ◌%◌, ◌==◌, ◌≡◌, ◌&&◌, ◌||◌, not, Bool, true, false, if◌then◌else◌, nat_lt, List, [], ◌∷◌}
use Rattle.ec_bits.specs.Bits.{within}

-- ---- where the registers stand, by the standard's names

abbrev pub number_of_fmmus : ℕ
number_of_fmmus = 0x0004

abbrev pub number_of_sync_managers : ℕ
number_of_sync_managers = 0x0005

abbrev pub ram_size : ℕ
ram_size = 0x0006

abbrev pub station_address : ℕ
station_address = 0x0010

abbrev pub al_control : ℕ
al_control = 0x0120

abbrev pub al_status : ℕ
al_status = 0x0130

abbrev pub al_status_code : ℕ
al_status_code = 0x0134

-- who has the SII; a simulated slave doesn't have the register
abbrev pub sii_configuration : ℕ
sii_configuration = 0x0500

abbrev pub sii_control : ℕ
sii_control = 0x0502

abbrev pub sii_address : ℕ
sii_address = 0x0504

abbrev pub sii_data : ℕ
sii_data = 0x0508

-- four FMMUs of sixteen bytes
abbrev pub fmmus : ℕ
fmmus = 0x0600

abbrev pub fmmu_start : ℕ → ℕ
fmmu_start number = fmmus + 16 * number

-- four sync managers of eight bytes
abbrev pub sync_managers : ℕ
sync_managers = 0x0800

abbrev pub manager_start : ℕ → ℕ
manager_start number = sync_managers + 8 * number

-- ---- the RAM: from `ram_start` on, below `ram_end`, 8 KiB

abbrev pub ram_start : ℕ
ram_start = 0x1000

abbrev pub ram_end : ℕ
ram_end = 0x3000

-- ---- which registers a datagram writes

-- Whether a datagram that writes the register byte is stored as it is: station address, AL control, the FMMUs,
-- and of each sync manager's eight bytes the settings. The SII port is apart: it refuses while it is busy.
abbrev pub is_stored : ℕ → Bool
is_stored a = within station_address 2 a || (within al_control 2 a || (within fmmus 64 a || (within sync_managers 32 a && (nat_lt (a % 8) 5 || (a % 8 == 6)))))

-- whether a datagram that writes the register byte takes effect, while the SII is busy or not
abbrev pub takes_writes : Bool → ℕ → Bool
takes_writes busy a = is_stored a || (within sii_control 6 a && not busy)

-- how a datagram's write meets a register byte
pub data Access : Type 0 where
  -- it has no effect
  Fixed : Access
  -- the byte becomes what the datagram says
  Stored : Access
  -- it is a byte of the SII port, which takes writes only while it isn't busy
  SiiPort : Access

-- The same as a table: a row says how a datagram's write meets the `length` bytes from `first` on.
pub record Row : Type 0 where
  pub first : ℕ
  pub length : ℕ
  pub access : Access

abbrev pub row : ℕ → ℕ → Access → Row
row first length access = record { first = first; length = length; access = access }

-- the registers by address
abbrev pub register_rows : List Row
register_rows =
    row number_of_fmmus 1 Fixed ∷ row number_of_sync_managers 1 Fixed ∷ row ram_size 1 Fixed ∷ row station_address 2 Stored
    ∷ row al_control 2 Stored ∷ row al_status 2 Fixed ∷ row al_status_code 2 Fixed ∷ row sii_control 2 SiiPort
    ∷ row sii_address 4 SiiPort ∷ row sii_data 4 Fixed ∷ row fmmus 64 Stored ∷ []

-- the eight bytes of a sync manager: start and length, control, status, activate, the slave's side
abbrev pub manager_rows : List Row
manager_rows = row 0 4 Stored ∷ row 4 1 Stored ∷ row 5 1 Fixed ∷ row 6 1 Stored ∷ row 7 1 Fixed ∷ []

-- what the first row that has the byte says; a byte without a name is fixed
abbrev pub access_in : List Row → ℕ → Access
access_in [] a = Fixed
access_in (r ∷ rs) a = if within r.first r.length a then r.access else access_in rs a

-- how a datagram's write meets the register byte
unfoldable pub access_of : ℕ → Access
access_of a = if within sync_managers 32 a then access_in manager_rows (a % 8) else access_in register_rows a

abbrev pub is_stored_access : Access → Bool
is_stored_access Stored = true
is_stored_access Fixed = false
is_stored_access SiiPort = false

abbrev pub takes_effect : Bool → Access → Bool
takes_effect busy Stored = true
takes_effect busy Fixed = false
takes_effect busy SiiPort = not busy

-- the tests say what the table says
pub record AccessIsTheTable : Type 0 where
  pub stored : (a : ℕ) → is_stored a ≡ is_stored_access (access_of a)
  pub taken : (a : ℕ) (busy : Bool) → takes_writes busy a ≡ takes_effect busy (access_of a)
