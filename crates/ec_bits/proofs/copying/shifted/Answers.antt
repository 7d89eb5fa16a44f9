use Rattle.ec_bits.proofs.Copies.{shifted_is}
use Rattle.ec_bits.proofs.copying.shifted.Goals as goal

pub returns : goal.returns
returns c = λ j l. shifted_is c.args.low c.args.high c.args.shift j c.ranges.low.fits c.requires.some c.requires.inside l
