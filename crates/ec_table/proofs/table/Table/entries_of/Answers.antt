use Rattle.std.proofs.Common.{◌≡◌, Some, slice_get}
use Rattle.ec_table.specs.Objects.{entries_of}
use Rattle.ec_table.proofs.ObjectLemmas.{ObjectBounds, row_at, entries_are, object_bounds}
use Rattle.ec_table.proofs.table.Table.entries_of.Goals as goal

row : (c : goal.After-assigned_entries) → slice_get c.args.self.now.slaves c.args.slave ≡ Some c.index-slaves-slave.result
row c = row_at c.slaves.result.now c.args.self.now.slaves c.args.slave c.index-slaves-slave.result c.slaves.ensures.value c.requires c.index-slaves-slave.is

bounds : (c : goal.After-assigned_entries) → ObjectBounds (entries_of c.args.self.now c.args.slave c.args.direction)
bounds c = object_bounds c.args.self.now c.args.slave c.args.direction c.index-slaves-slave.result c.type_of-slave_type.result.now c.slaves.ensures.sound (row c) c.type_of-slave_type.ensures.value c.type_of-slave_type.ensures.sound

pub returns-clause-value : goal.returns-clause-value
returns-clause-value c = rw (entries_are c.args.self.now c.args.slave c.args.direction c.index-slaves-slave.result c.type_of-slave_type.result.now (row c) c.type_of-slave_type.ensures.value, ← c.pdos.ensures, ← c.assigned.ensures) c.assigned_entries.ensures

pub returns-clause-each : goal.returns-clause-each
returns-clause-each c = (bounds c).each

pub returns-clause-few : goal.returns-clause-few
returns-clause-few c = (bounds c).few

pub returns-clause-bits : goal.returns-clause-bits
returns-clause-bits c = (bounds c).bits
