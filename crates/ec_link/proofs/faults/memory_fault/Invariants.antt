use Rattle.std.proofs.Common.{◌≡◌, drop}
use Rattle.ec_table.specs.declared.rows.SlaveRow.{SlaveRow}
use Rattle.ec_link.specs.Faults.{◌orelse◌, first_at, areas_overlap, outside_ram}
use Rattle.ec_link.proofs.faults.memory_fault.Given as goal

abbrev pub invariant-loop-slave : goal.invariant-loop-slave
invariant-loop-slave l = record {
  no_overlap : first_at (λ n (r : SlaveRow). areas_overlap l.table n) l.slave (drop l.slave l.table.slaves) ≡ first_at (λ n (r : SlaveRow). areas_overlap l.table n) 0 l.table.slaves;
  first_outside : l.outside orelse first_at (λ n (r : SlaveRow). outside_ram l.table n) l.slave (drop l.slave l.table.slaves)
      ≡ first_at (λ n (r : SlaveRow). outside_ram l.table n) 0 l.table.slaves;
}
