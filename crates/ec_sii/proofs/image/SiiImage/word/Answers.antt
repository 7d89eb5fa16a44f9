use Rattle.std.proofs.Common.{rules}
use Rattle.ec_sii.specs.SiiImage.{word_at}
use Rattle.ec_sii.proofs.image.SiiImage.word.Goals as goal

pub returns-in_default : goal.returns-in_default
unfolding word_at
returns-in_default c = search rules
