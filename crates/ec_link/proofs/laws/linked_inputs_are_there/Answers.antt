use Rattle.ec_link.proofs.laws.linked_inputs_are_there.Goals as goal
use Rattle.ec_link.proofs.LinkLaws.{linked_inputs}

pub returns : goal.returns
returns c = linked_inputs
