-- An input variable as the plant sets it: the bytes that the applications of slaves write (this project's profile).
use Rattle.std.specs.Prelude.{ℕ, zero, suc, ◌+◌, ◌-◌, ◌^◌, ◌==◌, ◌&&◌, not, List, [], ◌∷◌, ◌++◌, length, nat_le, nat_lt, slice_get, Bool, false, if◌then◌else◌, Option, Some, None}
use Rattle.std.specs.Int.{to_le_bytes, w64}
use Rattle.std.specs.List.{list_any}
use Rattle.ec_bits.specs.Bits.{bytes_of_bits, copied}
use Rattle.ec_regs.specs.Memory.{ram_end}
use Rattle.ec_link.specs.declared.image.Variable.{Variable}
use Rattle.ec_link.specs.declared.plan.Link.{Link}
use Rattle.ec_link.specs.Meaning.{slave_at}
use Rattle.ec_link.specs.LinkRuns.{is_out}
use Rattle.ec_slave.specs.Physical.{byte_at}
use Rattle.ec_world.specs.declared.event.Event.{Event}
use Rattle.ec_world.specs.declared.event.Event.TheVariants.{AppPut}
use Rattle.ec_world.specs.World.{WorldState, is_slave, slave_of}

-- ---- a value in bits

-- a number has at most this many bits
abbrev pub is_short : ℕ → ℕ → Bool
is_short bits x = nat_lt x (2 ^ bits)

-- a variable of the inputs that holds the value
abbrev pub is_input_of : ℕ → Option Variable → Bool
is_input_of x None = false
is_input_of x (Some v) = not (is_out v.direction) && is_short v.bits x

-- its bits, the lowest first
abbrev pub value_bytes : ℕ → List ℕ
value_bytes x = to_le_bytes w64 x

-- the link's bits of the image are bits of the variable
abbrev pub is_of : Variable → Link → Bool
is_of v l = nat_le v.from l.image && nat_le (l.image + l.count) (v.from + v.bits)

-- ---- the bytes of a slave's inputs

-- the byte at an address of slave s; 0 if there is none
abbrev pub slave_byte : WorldState → ℕ → ℕ → ℕ
slave_byte w s a = if is_slave w s && nat_lt a ram_end then byte_at (slave_of w s) a else 0

unfoldable pub bytes_from : WorldState → ℕ → ℕ → ℕ → List ℕ
bytes_from w s a zero = []
bytes_from w s a (suc n) = slave_byte w s a ∷ bytes_from w s (a + 1) n

-- the input bytes of a slave as it published them last, which their addresses read
abbrev pub inputs_read : WorldState → ℕ → List ℕ
inputs_read w s = bytes_from w s (slave_at w.plan s).kind.in_start (bytes_of_bits (slave_at w.plan s).share.ins)

-- a link of the variable to slave s brings it bits of the value
abbrev pub is_to : Variable → ℕ → Link → Bool
is_to v s l = (l.slave == s) && is_of v l

abbrev pub with_link : Variable → ℕ → ℕ → Link → List ℕ → List ℕ
with_link v x s l bytes = if is_to v s l then copied bytes l.object_bit (value_bytes x) (l.image - v.from) l.count else bytes

unfoldable pub with_links : Variable → ℕ → ℕ → List Link → List ℕ → List ℕ
with_links v x s [] bytes = bytes
with_links v x s (l ∷ ls) bytes = with_links v x s ls (with_link v x s l bytes)

-- ---- the events

-- the application of slave s writes these bytes, the first of them byte i
unfoldable pub puts : ℕ → ℕ → List ℕ → List Event
puts s i [] = []
puts s i (b ∷ bs) = AppPut s i b ∷ puts s (i + 1) bs

-- all its input bytes: those that it published, with the variable's bits changed
abbrev pub slave_puts : WorldState → Variable → ℕ → ℕ → List Event
slave_puts w v x s = if list_any (is_to v s) w.plan.in_links then puts s 0 (with_links v x s w.plan.in_links (inputs_read w s)) else []

-- n slaves, the first of which is s
unfoldable pub puts_from : WorldState → Variable → ℕ → ℕ → ℕ → List Event
puts_from w v x s zero = []
puts_from w v x s (suc n) = slave_puts w v x s ++ puts_from w v x (s + 1) n

abbrev pub input_puts : WorldState → ℕ → Option Variable → List Event
input_puts w x None = []
input_puts w x (Some v) = puts_from w v x 0 (length w.plan.slaves)

-- each slave with bits of the variable, one after another
abbrev pub input_events : WorldState → ℕ → ℕ → List Event
input_events w v x = input_puts w x (slice_get w.plan.variables v)
