use Rattle.ec_cycle.proofs.BegunFrames.{unlinked_go_out_as_zero}
use Rattle.ec_cycle.proofs.laws.unlinked_go_out_as_zero.Goals as goal

pub returns : goal.returns
returns c = unlinked_go_out_as_zero
