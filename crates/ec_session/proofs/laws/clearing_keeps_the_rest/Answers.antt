use Rattle.ec_session.proofs.Asked.{clearing_keeps_the_rest}
use Rattle.ec_session.proofs.laws.clearing_keeps_the_rest.Goals as goal

pub returns : goal.returns
returns c = clearing_keeps_the_rest
