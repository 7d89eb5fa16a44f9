use Rattle.ec_link.proofs.ObjectLists.{objects_more}
use Rattle.ec_link.proofs.objects.objects_of.Goals as goal

pub loop-slave-preserved : goal.loop-slave-preserved
loop-slave-preserved c = record {
  found = objects_more c.args.table.now c.loop-slave.slave c.loop-slave.found c.push.new.self (record { outputs = c.in_ok-assigned_at.field-0; inputs = c.in_ok-assigned_at-2.field-0 }) c.loop-slave.invariant.found
      (record { outputs = c.in_ok-assigned_at.ensures.entries; inputs = c.in_ok-assigned_at-2.ensures.entries }) c.in_ok-push.ensures.ok;
  outputs = c.in_ok-assigned_at.ensures.new;
  inputs = c.in_ok-assigned_at-2.ensures.new;
}
