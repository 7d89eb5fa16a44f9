use Rattle.std.proofs.Common.{◌∙◌}
use Rattle.ec_regs.proofs.Flagged.{sii_flag_8192}
use Rattle.ec_regs.proofs.words.SiiControl.has_error.Goals as goal

pub returns : goal.returns
returns c = c.contains.ensures tt ∙ sii_flag_8192 c.args.self.0
