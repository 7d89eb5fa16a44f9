use Rattle.ec_bringup.proofs.OneFrame.FrameLaw.{pass-law}
use Rattle.ec_bringup.proofs.laws.frame.Goals as goal

pub returns : goal.returns
returns c = pass-law
