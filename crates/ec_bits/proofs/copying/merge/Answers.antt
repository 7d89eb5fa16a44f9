use Rattle.ec_bits.proofs.Shifts.{merge_is}
use Rattle.ec_bits.proofs.copying.merge.Goals as goal

pub returns : goal.returns
returns c = λ j l. merge_is c.args.byte c.args.value c.args.shift c.args.count j c.requires.some c.requires.inside l
