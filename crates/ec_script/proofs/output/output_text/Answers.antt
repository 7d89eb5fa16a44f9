use Rattle.std.proofs.Common.{rules}
use Rattle.ec_script.proofs.output.output_text.Goals as goal

pub returns : goal.returns
returns c = search rules
