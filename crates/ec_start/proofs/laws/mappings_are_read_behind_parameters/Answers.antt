use Rattle.ec_start.proofs.LawLemmas.{mappings_are_read}
use Rattle.ec_start.proofs.laws.mappings_are_read_behind_parameters.Goals as goal

pub returns : goal.returns
returns c = mappings_are_read
