use Rattle.std.proofs.Common.{◌+◌, ℕ, ap}
use Rattle.ec_link.proofs.Images.{image_at}
use Rattle.ec_link.proofs.plan.link_of.Goals as goal

pub returns : goal.returns
returns c =
    ap (λ (n : ℕ). record { image = n + c.args.link_run.now.variable_bit; slave = c.args.link_run.now.slave; object_bit = c.args.link_run.now.object_bit; count = c.args.link_run.now.count })
    (image_at c.args.table.now.variables c.args.variables.now c.args.link_run.now.variable _ c.requires.variables c.requires.there.there)
