use Rattle.ec_device.specs.Types.{first_input_index}
use Rattle.ec_device.proofs.Limits.{few_bits}
use Rattle.ec_coe.proofs.dictionary.Dictionary.input_bits.Goals as goal

pub bits-requires : goal.bits-requires
bits-requires c = few_bits first_input_index _ c.inputs.ensures.limits
