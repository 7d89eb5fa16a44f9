use Rattle.ec_script.proofs.Indents.{trimmed_start}
use Rattle.ec_script.proofs.draft.without_start_blanks.Goals as goal

pub returns : goal.returns
returns c = trimmed_start c.args.text.now c.trim_start_matches.result.now c.trim_start_matches.ensures.matches
