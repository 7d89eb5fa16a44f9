use Rattle.std.proofs.Common.{ap}
use Rattle.ec_script.specs.Blocks.{layers, unrolled}
use Rattle.ec_script.proofs.script.Script.new.Goals as goal

pub returns : goal.returns
unfolding layers
returns c = ap unrolled c.new.ensures.items
