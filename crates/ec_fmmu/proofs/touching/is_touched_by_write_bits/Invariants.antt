use Rattle.std.proofs.Common.{◌≡◌, ◌+◌, ◌*◌, false, is_some}
use Rattle.ec_bits.specs.Bits.{any_below}
use Rattle.ec_fmmu.specs.Applied.{data_bit_for}
use Rattle.ec_fmmu.proofs.touching.is_touched_by_write_bits.Given as goal

abbrev pub invariant-loop-bit : goal.invariant-loop-bit
invariant-loop-bit l = any_below l.bit (λ j. is_some (data_bit_for l.fmmus (record { from = l.from; bits = l.bits }) (8 * l.address + j))) ≡ false
