use Rattle.std.proofs.Common.{rules}
use Rattle.ec_link.specs.Faults.{link_fault}
use Rattle.ec_link.proofs.faults.link_fault.Goals as goal

pub returns-in-Some : goal.returns-in-Some
unfolding link_fault
returns-in-Some c = search rules

pub returns-in-Some-first_no_entry : goal.returns-in-Some-first_no_entry
unfolding link_fault
returns-in-Some-first_no_entry c = search rules

pub returns : goal.returns
unfolding link_fault
returns c = search rules
