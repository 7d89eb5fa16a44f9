use Rattle.ec_scan.proofs.FoundWords.{words_law}
use Rattle.ec_scan.proofs.laws.reads_find_words.Goals as goal

pub returns : goal.returns
returns c = words_law c.reads_show_words.ensures
