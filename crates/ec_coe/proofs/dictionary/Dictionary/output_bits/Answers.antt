use Rattle.ec_device.specs.Types.{first_output_index}
use Rattle.ec_device.proofs.Limits.{few_bits}
use Rattle.ec_coe.proofs.dictionary.Dictionary.output_bits.Goals as goal

pub bits-requires : goal.bits-requires
bits-requires c = few_bits first_output_index _ c.outputs.ensures.limits
