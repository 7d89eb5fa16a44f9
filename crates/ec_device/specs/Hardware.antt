-- What a type says of real devices, and of simulated slaves that behave like them (a link table with `hardware`). A type of any
-- other table says nothing of them: `None` is the slave of this profile, and each definition says what that has.
use Rattle.std.specs.Prelude.{ℕ, ◌+◌, ◌-◌, ◌%◌, ◌<◌, ◌≤◌, ◌==◌, ◌≡◌, ◌≢◌, ◌&&◌, ◌||◌, not, Bool, true, false, nat_le, nat_lt, if◌then◌else◌, IsTrue, Option, None, Some, is_some}
use Rattle.std.specs.Option.{ForSome}
use Rattle.ec_device.specs.declared.hardware.ProcessManager.{ProcessManager}
use Rattle.ec_device.specs.declared.hardware.Hardware.{Hardware}
use Rattle.ec_device.specs.declared.slave_type.Mailbox.{Mailbox}

-- ---- limits

-- beside a mailbox: it has managers 0 and 1, and firmware that serves it
pub record IsBesideMailbox (h : Hardware) : Type 0 where
  pub outputs : 2 ≤ h.out_manager.number
  pub inputs : 2 ≤ h.in_manager.number
  pub firmware : IsTrue h.has_firmware

-- Two of the four managers hold the process data, one for each direction. Bits 0 to 3 of their control bytes say that they are
-- buffered, and that the master writes the outputs and reads the inputs (ETG.1000.4, "Sync manager").
pub record IsHardware (m : Option Mailbox) (h : Hardware) : Type 0 where
  pub out_number : h.out_manager.number ≤ 3
  pub in_number : h.in_manager.number ≤ 3
  pub apart : h.out_manager.number ≢ h.in_manager.number
  pub out_mode : h.out_manager.control % 16 ≡ 4
  pub in_mode : h.in_manager.control % 16 ≡ 0
  pub out_byte : h.out_manager.control ≤ 255
  pub in_byte : h.in_manager.control ≤ 255
  pub mailbox : ForSome m (λ b. IsBesideMailbox h)
  -- only a mailbox can say which PDOs a device assigns
  pub fixed : IsTrue h.is_fixed → IsTrue (is_some m)
  pub slow : h.slow ≤ 100
  pub some_fmmus : 2 ≤ h.fmmus
  pub few_fmmus : h.fmmus ≤ 4

-- ---- sync managers
-- Inside a slave and a plan the four managers stand in the order of their roles: place 0 is the mailbox that the master writes,
-- 1 the mailbox that it reads, 2 the outputs, 3 the inputs. Only the registers go by numbers. Without hardware the two are the same.

-- the managers of the process data of a type that doesn't say which
abbrev pub usual_outputs : ProcessManager
usual_outputs = record { number = 2; control = 0x24 }

abbrev pub usual_inputs : ProcessManager
usual_inputs = record { number = 3; control = 0x20 }

abbrev pub out_manager : Option Hardware → ProcessManager
out_manager None = usual_outputs
out_manager (Some h) = h.out_manager

abbrev pub in_manager : Option Hardware → ProcessManager
in_manager None = usual_inputs
in_manager (Some h) = h.in_manager

-- a direction has this number
abbrev pub is_taken : Hardware → ℕ → Bool
is_taken h n = (n == h.out_manager.number) || (n == h.in_manager.number)

-- the lowest number from n on that no direction has
abbrev pub free_from : Hardware → ℕ → ℕ
free_from h n = if is_taken h n then (if is_taken h (n + 1) then n + 2 else n + 1) else n

-- the number of the manager at a place: each direction has its own, and the mailboxes have the lowest that are left
abbrev pub number_at : Hardware → ℕ → ℕ
number_at h place =
    if place == 2 then h.out_manager.number
    else (if place == 3 then h.in_manager.number
    else (if place == 0 then free_from h 0 else free_from h (free_from h 0 + 1)))

-- the place of the manager with a number
abbrev pub place_at : Hardware → ℕ → ℕ
place_at h n =
    if n == h.out_manager.number then 2
    else (if n == h.in_manager.number then 3
    else (if n == free_from h 0 then 0 else 1))

abbrev pub manager_number : Option Hardware → ℕ → ℕ
manager_number None place = place
manager_number (Some h) place = number_at h place

abbrev pub manager_place : Option Hardware → ℕ → ℕ
manager_place None n = n
manager_place (Some h) n = place_at h n

-- numbers and places belong together, one by one
pub record AreNumbered (o : Option Hardware) : Type 0 where
  pub few : (place : ℕ) → place < 4 → manager_number o place < 4
  pub places : (n : ℕ) → n < 4 → manager_place o n < 4
  pub back : (place : ℕ) → place < 4 → manager_place o (manager_number o place) ≡ place
  pub forth : (n : ℕ) → n < 4 → manager_number o (manager_place o n) ≡ n

abbrev pub PlacesAreNumbered : Type 0
PlacesAreNumbered = (mailbox : Option Mailbox) (o : Option Hardware) → ForSome o (IsHardware mailbox) → AreNumbered o

-- ---- addresses
-- The outputs of a digital terminal may be a register, 0x0F00 to 0x0F03. Inside a slave they lie in the last 16 bytes of its RAM,
-- and these bytes have the register's addresses in return. Only the start addresses in the registers of sync managers and
-- FMMUs are meant; a datagram's own address goes to no pins.

-- the register of the pins, and where the slave has it; 16 bytes, for three buffers of at most four
abbrev pub pins : ℕ
pins = 0x0F00

abbrev pub pins_inside : ℕ
pins_inside = 0x2FF0

-- the outputs begin in the register
abbrev pub are_pins : ℕ → Bool
are_pins start = nat_le pins start && nat_lt start (pins + 4)

abbrev pub swapped : ℕ → ℕ
swapped a =
    if nat_le pins a && nat_lt a (pins + 16) then a + (pins_inside - pins)
    else (if nat_le pins_inside a && nat_lt a (pins_inside + 16) then a - (pins_inside - pins)
    else a)

-- the address in a register that names an address inside the slave, and as well the address inside the slave that a register names
abbrev pub other_name : Option Hardware → ℕ → ℕ
other_name None a = a
other_name (Some h) a = if h.has_pins then swapped a else a

-- each name has its other one
abbrev pub NamesGoBack : Type 0
NamesGoBack = (o : Option Hardware) (a : ℕ) → other_name o (other_name o a) ≡ a

-- ---- the rest

-- whether the AL state machine is the slave's own; without firmware its AL status is a copy of its AL control
abbrev pub has_firmware : Option Hardware → Bool
has_firmware None = true
has_firmware (Some h) = h.has_firmware

-- whether its assignment of PDOs can't be written: the device assigns all PDOs of the type, in order
abbrev pub is_fixed : Option Hardware → Bool
is_fixed None = false
is_fixed (Some h) = h.is_fixed

-- Whether the master says which PDOs a slave assigns (ETG.1000.6, "Sync manager PDO assignment"): that takes a mailbox, and an
-- assignment that isn't fixed. A slave of any other type assigns all of them, in order.
abbrev pub is_assignable : Option Mailbox → Option Hardware → Bool
is_assignable m o = is_some m && not (is_fixed o)

-- how many firmware steps later than another a simulated slave decides a request to its AL control
abbrev pub slow : Option Hardware → ℕ
slow None = 0
slow (Some h) = h.slow

-- whether a simulated slave sends an emergency as it enters PREOP from INIT
abbrev pub has_emergency : Option Hardware → Bool
has_emergency None = false
has_emergency (Some h) = h.has_emergency

-- how many FMMUs a slave has: those from number 0 on
abbrev pub fmmu_count : Option Hardware → ℕ
fmmu_count None = 4
fmmu_count (Some h) = h.fmmus

-- whether a device of any revision is one of the type
abbrev pub takes_any_revision : Option Hardware → Bool
takes_any_revision None = false
takes_any_revision (Some h) = h.any_revision
