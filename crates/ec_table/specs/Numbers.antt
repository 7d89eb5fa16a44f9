-- The number that a value is for people: values of a signed variable are two's complement (ETG.1000.6, "Integer types").
use Rattle.std.specs.Prelude.{ℕ, ◌-◌, ◌*◌, ◌^◌, min, ℤ, pos, ◌-ℤ◌, Bool, nat_le, ◌&&◌, if◌then◌else◌, slice_get}
use Rattle.std.specs.Option.{option_map_or}
use Rattle.ec_table.specs.declared.rows.VariableRow.{VariableRow}
use Rattle.ec_table.specs.Contents.{Contents}

-- half of all values of so many bits, 1 to 64
abbrev pub half : ℕ → ℕ
half bits = 2 ^ min (bits - 1) 63

-- The upper half of the values of so many bits stands for the numbers below 0.
abbrev pub number_in : (signed : Bool) → ℕ → ℕ → ℤ
number_in signed bits x = if signed && nat_le (half bits) x then pos x -ℤ pos (2 * half bits) else pos x

-- of the n-th variable; where no variable is, it is the value
abbrev pub number_at : Contents → ℕ → ℕ → ℤ
number_at t n x = option_map_or (λ (w : VariableRow). number_in w.signed w.bits x) (slice_get t.variables n) (pos x)
