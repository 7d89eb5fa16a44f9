use Rattle.ec_device.specs.Types.{first_output_index}
use Rattle.ec_device.proofs.Limits.{few_bits}
use Rattle.ec_device.proofs.slave_type.SlaveType.output_bits.Goals as goal

pub bits_of-requires-clause-small : goal.bits_of-requires-clause-small
bits_of-requires-clause-small c = few_bits first_output_index _ c.outputs.ensures.limits
