-- Parameters: SDO downloads that bring a device into the shape that its type states, in PREOP, one after another (ETG.1000.6, "SDO
-- download expedited").
use Rattle.std.specs.Prelude.{ℕ, ◌*◌, ◌^◌, ◌<◌, ◌≤◌, ◌==◌, ◌≡◌, ◌&&◌, List, [], length, reverse, find, position, Bool, Option, None, option_map, All}
use Rattle.ec_device.specs.declared.slave_type.Mailbox.{Mailbox}
use Rattle.ec_device.specs.declared.parameter.Parameter.{Parameter}
use Rattle.ec_device.specs.declared.parameter.ParameterSize.{ParameterSize}
use Rattle.ec_device.specs.declared.parameter.ParameterSize.TheVariants.{One, Two, Four}

-- how many bytes it has
abbrev pub byte_count : ParameterSize → ℕ
byte_count One = 1
byte_count Two = 2
byte_count Four = 4

-- how many bits
abbrev pub bit_count : ParameterSize → ℕ
bit_count size = 8 * byte_count size

-- ---- limits

-- its value has its bits: a number below 0 is in two's complement (ETG.1000.6, "Integer types")
pub record IsParameter (q : Parameter) : Type 0 where
  pub index : q.index < 65536
  pub subindex : q.subindex < 256
  pub value : q.value < 2 ^ bit_count q.size

-- of a slave: those of its type, at most 64, and behind them its own, as many again; each by its mailbox
pub record AreParameters (m : Option Mailbox) (qs : List Parameter) : Type 0 where
  pub few : length qs ≤ 128
  pub each : All IsParameter qs
  pub mailbox : m ≡ None → qs ≡ []

-- ---- objects

-- it is a download to this object
abbrev pub is_of : (index subindex : ℕ) → Parameter → Bool
is_of index subindex q = (q.index == index) && (q.subindex == subindex)

-- Parameters may name an object more than once. The first of them says how many bytes the object has; its place is the object's.
abbrev pub parameter_at : List Parameter → (index subindex : ℕ) → Option ℕ
parameter_at qs index subindex = position (is_of index subindex) qs

-- the last of them says which value the object has in the end
abbrev pub last_value : List Parameter → (index subindex : ℕ) → Option ℕ
last_value qs index subindex = option_map (λ (q : Parameter). q.value) (find (is_of index subindex) (reverse qs))
