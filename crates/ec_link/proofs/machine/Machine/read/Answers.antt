use Rattle.std.proofs.Common.{rules}
use Rattle.ec_link.proofs.machine.Machine.read.Goals as goal

pub returns-in_err-table-clause-refused : goal.returns-in_err-table-clause-refused
returns-in_err-table-clause-refused c = search rules

pub returns-in_err-new-clause-refused : goal.returns-in_err-new-clause-refused
returns-in_err-new-clause-refused c = search rules

pub returns-clause-machine : goal.returns-clause-machine
returns-clause-machine c = search rules
