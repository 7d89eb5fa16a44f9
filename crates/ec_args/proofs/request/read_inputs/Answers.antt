use Rattle.clap.specs.Matches.{found_of}
use Rattle.ec_args.proofs.RequestLemmas.{finds_inputs}
use Rattle.ec_args.proofs.request.read_inputs.Goals as goal

pub returns : goal.returns
returns c = finds_inputs (found_of c.args.given.now) _ _ _ c.get_str.ensures c.get_str-2.ensures c.named.ensures c.named-2.ensures
