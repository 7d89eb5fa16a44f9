use Rattle.std.proofs.Common.{◌<◌, ◌∙◌, List, length, sym, ap, subst, option_and_then}
use Rattle.ec_table.specs.declared.rows.SlaveRow.{SlaveRow}
use Rattle.ec_table.specs.declared.rows.TypeRow.{TypeRow}
use Rattle.ec_link.proofs.FaultTests.{overlap_more, outside_more}
use Rattle.ec_link.proofs.faults.memory_fault.Goals as goal

pub loop-slave-preserved : goal.loop-slave-preserved
loop-slave-preserved c =
    let lt : c.loop-slave.slave < length c.args.table.now.slaves = subst (λ (rs : List SlaveRow). c.loop-slave.slave < length rs) c.slaves-row-items.ensures.value c.loop-slave-test.true in
    record {
      no_overlap = overlap_more c.args.table.now c.loop-slave.slave c.managers_at-managers.result _ lt c.managers_at-managers.ensures (sym c.some_meet.ensures ∙ c.if-some_meet.false) c.loop-slave.invariant.no_overlap;
      first_outside = outside_more c.args.table.now c.loop-slave.slave c.type_of.result.now.hardware c.managers_at-managers.result _ c.loop-slave.outside _ _ lt
          (sym (ap (option_and_then (λ (r : TypeRow). r.hardware)) c.type_of.ensures.value)) c.managers_at-managers.ensures c.is_outside-is_outside.ensures c.first_outside-outside.ensures c.loop-slave.invariant.first_outside;
    }
