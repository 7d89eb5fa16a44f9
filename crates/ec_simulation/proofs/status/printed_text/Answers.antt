use Rattle.std.proofs.Common.{◌∙◌}
use Rattle.ec_simulation.proofs.Statuses.{printed_as}
use Rattle.ec_simulation.proofs.status.printed_text.Goals as goal

pub returns : goal.returns
returns c =
    printed_as c.output_text.result c.args.table.now c.args.number c.view_of.result _ c.args.world.now _ c.args.output c.view_of.ensures (c.deref.ensures.value ∙ c.in_ok-states.ensures) c.output_text.ensures
