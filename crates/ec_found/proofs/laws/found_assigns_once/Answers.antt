use Rattle.ec_found.proofs.FullTypes.{found_assigns_once}
use Rattle.ec_found.proofs.laws.found_assigns_once.Goals as goal

pub returns : goal.returns
returns c = found_assigns_once
