use Rattle.ec_script.proofs.Small.{bounded_drafts}
use Rattle.ec_script.proofs.laws.drafts_are_bounded.Goals as goal

pub returns : goal.returns
returns c = bounded_drafts
