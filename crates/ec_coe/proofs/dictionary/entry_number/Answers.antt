use Rattle.std.proofs.Common.{rules}
use Rattle.ec_coe.proofs.dictionary.entry_number.Goals as goal

pub returns : goal.returns
returns c = search rules
