use Rattle.std.proofs.Common.{◌≡◌, ◌++◌, Some, slice_get, sym, ◌∙◌}
use Rattle.ec_device.specs.Parameters.{AreParameters}
use Rattle.ec_table.specs.Objects.{own_init}
use Rattle.ec_table.proofs.InitJoined.{joined_as, joined_limits, kept, own_is}
use Rattle.ec_table.proofs.ObjectLemmas.{row_at}
use Rattle.ec_table.proofs.table.Table.init_of.Goals as goal

row : (c : goal.After-joined) → slice_get c.args.self.now.slaves c.args.slave ≡ Some c.index-slaves-slave.result
row c = row_at c.slaves.result.now c.args.self.now.slaves c.args.slave c.index-slaves-slave.result c.slaves.ensures.value c.requires.place c.index-slaves-slave.is

pub returns-clause-value : goal.returns-clause-value
returns-clause-value c =
    joined_as c.joined.result c.as_slice.result.now c.as_slice-2.result.now c.args.row.now.init (own_init c.args.self.now c.args.slave) c.joined.ensures c.as_slice.ensures
    (c.as_slice-2.ensures ∙ sym (own_is c.args.self.now c.args.slave c.index-slaves-slave.result (row c)))

pub returns-clause-limits : goal.returns-clause-limits
returns-clause-limits c =
    let fits : AreParameters c.args.row.now.mailbox (c.args.row.now.init ++ c.index-slaves-slave.result.init)
    = joined_limits c.args.self.now c.args.slave c.index-slaves-slave.result c.args.row.now c.slaves.ensures.sound (row c) c.requires.row c.requires.sound in
    kept c.args.row.now.mailbox c.joined.result (c.args.row.now.init ++ c.index-slaves-slave.result.init)
    (joined_as c.joined.result c.as_slice.result.now c.as_slice-2.result.now c.args.row.now.init c.index-slaves-slave.result.init c.joined.ensures c.as_slice.ensures c.as_slice-2.ensures) fits
