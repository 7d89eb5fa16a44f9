use Rattle.std.proofs.Common.{rules}
use Rattle.ec_fmmu.specs.Pairs.{mapped}
use Rattle.ec_fmmu.proofs.mapping.Fmmu.map.Goals as goal

pub returns-then-is_ram_bit-clause-value : goal.returns-then-is_ram_bit-clause-value
unfolding mapped
returns-then-is_ram_bit-clause-value c = search rules

pub returns-else-is_ram_bit-clause-value : goal.returns-else-is_ram_bit-clause-value
unfolding mapped
returns-else-is_ram_bit-clause-value c = search rules
