use Rattle.std.proofs.Common.{◌<◌, ◌++◌, ◌∙◌, List, [], ◌∷◌, ap, subst, length, get_or}
use Rattle.ec_table.specs.declared.rows.SlaveRow.{SlaveRow}
use Rattle.ec_link.specs.declared.sizes.SlaveSize.{SlaveSize}
use Rattle.ec_link.specs.Sizes.{size_of, table_sizes}
use Rattle.ec_link.proofs.EachFrom.{each_more}
use Rattle.ec_link.proofs.compiling.sizes_of.Goals as goal

pub loop-slave-preserved : goal.loop-slave-preserved
loop-slave-preserved c =
    let lt : c.loop-slave.slave < length c.args.table.now.slaves = subst (λ (rs : List SlaveRow). c.loop-slave.slave < length rs) c.slaves-row-items.ensures.value c.loop-slave-test.true in
    each_more (size_of c.args.table.now) c.args.table.now.slaves c.loop-slave.found c.push.new.self (table_sizes c.args.table.now) c.loop-slave.slave c.row-item.result lt
    (c.row-item.is ∙ ap (λ (rs : List SlaveRow). get_or rs c.loop-slave.slave c.row-item.result) c.slaves-row-items.ensures.value)
    (c.in_ok-push.ensures.ok ∙ ap (λ (z : SlaveSize). c.loop-slave.found ++ z ∷ []) c.size_of.ensures) c.loop-slave.invariant
