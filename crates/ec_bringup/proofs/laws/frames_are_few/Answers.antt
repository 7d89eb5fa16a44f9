use Rattle.ec_bringup.proofs.StartUp.FewFrames.{frames-few}
use Rattle.ec_bringup.proofs.laws.frames_are_few.Goals as goal

pub returns : goal.returns
returns c = frames-few
