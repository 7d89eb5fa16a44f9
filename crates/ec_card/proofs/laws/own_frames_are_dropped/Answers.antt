use Rattle.ec_card.proofs.PayloadsComeThrough.{own_dropped}
use Rattle.ec_card.proofs.laws.own_frames_are_dropped.Goals as goal

pub returns : goal.returns
returns c = own_dropped
