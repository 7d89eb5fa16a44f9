use Rattle.ec_slave.proofs.Memory.RegisterLaws.{ram_governed, managers_accessed, accesses_leave, whole_values}
use Rattle.ec_slave.proofs.laws.ram_is_governed.Goals as goal

pub returns-clause-governed : goal.returns-clause-governed
returns-clause-governed c = ram_governed

pub returns-clause-managers : goal.returns-clause-managers
returns-clause-managers c = managers_accessed

pub returns-clause-whole : goal.returns-clause-whole
returns-clause-whole c = whole_values

pub returns-clause-leaves : goal.returns-clause-leaves
returns-clause-leaves c = accesses_leave
