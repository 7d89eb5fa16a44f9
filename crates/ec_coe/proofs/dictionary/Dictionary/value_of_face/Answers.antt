use Rattle.std.proofs.Common.{rules}
use Rattle.ec_coe.proofs.dictionary.Dictionary.value_of_face.Goals as goal

pub returns-in-None : goal.returns-in-None
returns-in-None c = search rules
