use Rattle.std.proofs.Common.{codes}
use Rattle.clap.specs.Matches.{found_of}
use Rattle.ec_args.proofs.RequestLemmas.{finds_flag}
use Rattle.ec_args.proofs.request.read_arguments.Goals as goal

pub returns-in-Some-clause-some : goal.returns-in-Some-clause-some
returns-in-Some-clause-some c = record {
  asks = c.in-Some.ensures.some;
  inputs = c.read_inputs.ensures;
  terse = finds_flag (found_of c.args.given.now) (codes "terse") c.get_flag.result c.get_flag.ensures.value c.get_flag.ensures.other;
}
