use Rattle.ec_bits.proofs.Words.{shifted_word_is}
use Rattle.ec_bits.proofs.by_words.shifted_word.Goals as goal

pub returns : goal.returns
returns c = λ i l. shifted_word_is c.args.low c.args.high c.args.shift i c.ranges.low.fits c.requires.some c.requires.inside c.requires.apart l
