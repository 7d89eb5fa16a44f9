use Rattle.ec_link.proofs.laws.linked_bits_are_there.Goals as goal
use Rattle.ec_link.proofs.VariablesArePlaced.{linked_bits_are_there}

pub returns : goal.returns
returns c = linked_bits_are_there
