-- Why there is no plan: memory ran out, or the table has a fault.
use Rattle.ec_table.specs.declared.or_memory.OrMemory.{OrMemory}
use Rattle.ec_link.specs.declared.fault.LinkFault.{LinkFault}

abbrev pub LinkError : Type 0
LinkError = OrMemory LinkFault
