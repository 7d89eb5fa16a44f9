use Rattle.std.proofs.Common.{rules, arith}
use Rattle.std.proofs.lemmas.Grind.{common_steps}
use Rattle.ec_link.proofs.PlanLists.{kind_read}
use Rattle.ec_link.proofs.SlavesMade.{settings_made}
use Rattle.ec_link.proofs.plan.settings_at.Goals as goal

pub returns : goal.returns
returns c =
    settings_made c.args.table.now c.args.parts.now c.args.seats.now c.args.slave c.args.row.now c.in_ok-kind.kind c.in_ok-outputs.outputs c.in_ok-outputs.inputs c.args.size.outs c.args.size.ins c.args.size.bits _ _
    c.slave_plan.result c.slave_plan.ensures (kind_read c.args.table.now c.args.slave c.in_ok-kind.kind c.in_ok-kind.ensures) c.in_ok-outputs.ensures.outputs c.in_ok-outputs.ensures.inputs
    c.requires.outs c.requires.ins c.requires.bits (first_of (search rules, grind (arith, common_steps))) (first_of (search rules, grind (arith, common_steps)))
