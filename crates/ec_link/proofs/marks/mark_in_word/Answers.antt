use Rattle.ec_link.proofs.MarkWords.{marks_word_test}
use Rattle.ec_link.proofs.marks.mark_in_word.Goals as goal

pub returns : goal.returns
returns c = marks_word_test c.args.marks.now c.args.from c.args.count c.mask_of-mask.result c.requires.some c.requires.one_word c.requires.there c.mask_of-mask.type_inv c.mask_of-mask.ensures
