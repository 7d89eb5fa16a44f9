use Rattle.std.proofs.Common.{arith}
use Rattle.std.proofs.lemmas.Grind.{common_steps}
use Rattle.ec_sii.proofs.Lengths.{words_more}
use Rattle.ec_sii.proofs.categories.push_bytes.Goals as goal

pub loop-k-preserved : goal.loop-k-preserved
loop-k-preserved c = grind (arith, common_steps, words_more c.args.bytes.now c.loop-k.k)
