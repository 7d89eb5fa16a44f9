use Rattle.std.proofs.Common.{rules}
use Rattle.ec_dl.specs.DataLink.{dl_written, dl_takes}
use Rattle.ec_dl.proofs.data_link.DataLink.write.Goals as goal

pub returns-clause-some : goal.returns-clause-some
unfolding dl_written dl_takes
returns-clause-some c = search rules
