use Rattle.std.proofs.Common.{rules}
use Rattle.ec_cycle.proofs.closing.take_input.Goals as goal

pub copy_input-requires-clause-there : goal.copy_input-requires-clause-there
copy_input-requires-clause-there c = search rules

pub copy_input-requires-clause-fits : goal.copy_input-requires-clause-fits
copy_input-requires-clause-fits c = search rules

pub returns-else-taken-from-clause-copied : goal.returns-else-taken-from-clause-copied
returns-else-taken-from-clause-copied c = search rules
