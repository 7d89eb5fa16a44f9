use Rattle.ec_script.proofs.Comments.{trimmed}
use Rattle.ec_script.proofs.read.without_end_blanks.Goals as goal

pub returns : goal.returns
returns c = trimmed c.args.text.now c.trim_end_matches.result.now c.trim_end_matches.ensures.matches
