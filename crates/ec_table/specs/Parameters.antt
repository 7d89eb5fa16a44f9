-- Downloads that a table states: `[index, subindex, bits, value]`, with a value that may be negative.
use Rattle.std.specs.Prelude.{ℕ, ◌+◌, ◌-◌, ◌^◌, ◌==◌, ◌||◌, ℤ, pos, negsuc, Bool, not, nat_lt, if◌then◌else◌, List, length, Option, Some, None, is_some, option_and_then, Result, Ok}
use Rattle.std.specs.Option.{ok_or}
use Rattle.toml.specs.Data.{Data, at, as_integer}
use Rattle.ec_device.specs.declared.slave_type.Mailbox.{Mailbox}
use Rattle.ec_device.specs.declared.parameter.Parameter.{Parameter}
use Rattle.ec_device.specs.declared.parameter.ParameterSize.{ParameterSize}
use Rattle.ec_device.specs.declared.parameter.ParameterSize.TheVariants as sizes
use Rattle.ec_device.specs.Parameters.{bit_count}
use Rattle.ec_table.specs.declared.fault.Fault.{Fault}
use Rattle.ec_table.specs.declared.fault.Fault.TheVariants.{BadValue}
use Rattle.ec_table.specs.declared.fault.Position.{Position}
use Rattle.ec_table.specs.Fields.{◌>>=◌, must, number_in}
use Rattle.ec_table.specs.Pdos.{array_in}

-- 8, 16 or 32 bits
abbrev pub size_of : ℕ → Option ParameterSize
size_of bits = if bits == 8 then Some sizes.One else (if bits == 16 then Some sizes.Two else (if bits == 32 then Some sizes.Four else None))

unfoldable pub size_in : Position → Option Data → Result ParameterSize Fault
size_in p written = do
  bits ← number_in p 8 32 written
  ok_or (size_of bits) (BadValue p)

-- So many bits hold a number that isn't negative up to their highest value, and a negative one in two's complement: down to half of
-- their values (ETG.1000.6, "Integer types").
abbrev pub held : (bits : ℕ) → ℤ → Option ℕ
held bits (pos n) = if nat_lt n (2 ^ bits) then Some n else None
held bits (negsuc n) = if nat_lt n (2 ^ (bits - 1)) then Some (2 ^ bits - (n + 1)) else None

unfoldable pub value_in : Position → ParameterSize → Option Data → Result ℕ Fault
value_in p size written = ok_or (option_and_then (held (bit_count size)) (option_and_then as_integer written)) (BadValue p)

-- [index, subindex, bits, value]
unfoldable pub parameter_of : Position → Data → Result Parameter Fault
parameter_of p d = do
  index ← number_in p 0 65535 (at 0 d)
  subindex ← number_in p 0 255 (at 1 d)
  size ← size_in p (at 2 d)
  value ← value_in p size (at 3 d)
  _ ← must (not (is_some (at 4 d))) (BadValue p)
  Ok (record { index = index; subindex = subindex; size = size; value = value })

abbrev pub parameter_row : Position → ℕ → Data → List Parameter → Result Parameter Fault
parameter_row p n d found = parameter_of p d

-- at most 64, none if they are left out
abbrev pub parameters_in : Position → Option Data → Result (List Parameter) Fault
parameters_in p written = array_in (parameter_row p) p 64 written

-- whether a device can take them: they come by its mailbox
abbrev pub are_taken : Option Mailbox → List Parameter → Bool
are_taken mailbox qs = is_some mailbox || (length qs == 0)
