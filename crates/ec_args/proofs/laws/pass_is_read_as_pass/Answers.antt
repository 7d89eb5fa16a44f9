use Rattle.ec_args.proofs.RequestLemmas.{pass_is_read}
use Rattle.ec_args.proofs.laws.pass_is_read_as_pass.Goals as goal

pub returns : goal.returns
returns c = pass_is_read
