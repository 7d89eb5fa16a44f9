-- Laws of the registers.
use Rattle.std.specs.Prelude.{◌≡◌, ◌+◌, ◌&&◌, nat_le, ℕ, Bool, true, List, [], ◌∷◌}
use Rattle.std.specs.List.{list_all}
use Rattle.ec_regs.specs.Memory.{ram_start}
use Rattle.ec_names.specs.declared.register.Register.{Register}
use Rattle.ec_names.specs.Registers.{address_of, registers, size_of}

-- each begins where the one before it ends, or behind that
abbrev pub follow : ℕ → List Register → Bool
follow from [] = true
follow from (r ∷ rs) = nat_le from (address_of r) && follow (address_of r + size_of r) rs

abbrev pub RegistersFollowEachOther : Type 0
RegistersFollowEachOther = follow 0 registers ≡ true

abbrev pub RegistersLieBeforeTheRam : Type 0
RegistersLieBeforeTheRam = list_all (λ r. nat_le (address_of r + size_of r) ram_start) registers ≡ true
