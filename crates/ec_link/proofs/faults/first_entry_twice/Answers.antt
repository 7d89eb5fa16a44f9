use Rattle.std.proofs.Common.{◌∙◌, sym}
use Rattle.ec_table.specs.declared.rows.SlaveRow.{SlaveRow}
use Rattle.ec_link.specs.Faults.{entry_twice}
use Rattle.ec_link.proofs.FaultTests.{first_next}
use Rattle.ec_link.proofs.faults.first_entry_twice.Goals as goal

pub loop-slave-preserved : goal.loop-slave-preserved
loop-slave-preserved c =
    first_next (λ n (r : SlaveRow). entry_twice c.args.table.now n) c.args.table.now.slaves c.slaves-row-items.result.now c.loop-slave.slave c._row-item.result _ c.slaves-row-items.ensures.value c.loop-slave-test.true
    (sym c.is_entry_twice.ensures ∙ c.if-is_entry_twice.false) c.loop-slave.invariant
