use Rattle.std.proofs.Common.{◌∙◌}
use Rattle.ec_regs.proofs.Flagged.{al_flag_16}
use Rattle.ec_regs.proofs.words.AlWord.has_error.Goals as goal

pub returns : goal.returns
returns c = c.contains.ensures tt ∙ al_flag_16 c.args.self.0
