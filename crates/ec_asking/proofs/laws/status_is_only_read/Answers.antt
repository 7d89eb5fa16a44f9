use Rattle.ec_asking.proofs.Reading.{status_is_only_read}
use Rattle.ec_asking.proofs.laws.status_is_only_read.Goals as goal

pub returns : goal.returns
returns c = status_is_only_read
