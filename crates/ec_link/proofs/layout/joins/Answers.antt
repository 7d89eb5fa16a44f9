use Rattle.std.proofs.Common.{rules}
use Rattle.ec_link.specs.Layout.{joins, with_slave}
use Rattle.ec_link.proofs.layout.joins.Goals as goal

pub returns-then-part-size : goal.returns-then-part-size
unfolding joins with_slave
returns-then-part-size c = search rules
