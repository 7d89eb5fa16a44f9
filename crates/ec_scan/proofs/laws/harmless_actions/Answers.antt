use Rattle.ec_scan.proofs.Harmless.{harmless_actions}
use Rattle.ec_scan.proofs.laws.harmless_actions.Goals as goal

pub returns : goal.returns
returns c = harmless_actions
