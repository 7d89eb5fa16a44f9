use Rattle.ec_frame.proofs.Numbers.{circulating_flag}
use Rattle.ec_frame.proofs.field.is_circulating.Goals as goal

pub returns : goal.returns
returns c = circulating_flag c.args.flags
