use Rattle.std.proofs.Common.{rules}
use Rattle.ec_dl.proofs.data_link.DataLink.new.Goals as goal

pub returns-in-None : goal.returns-in-None
returns-in-None c = search rules
