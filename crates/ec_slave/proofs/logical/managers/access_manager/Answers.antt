use Rattle.std.proofs.Common.{◌*◌, length, sym, ◌∙◌}
use Rattle.std.proofs.lemmas.Bool.{and_left, and_right}
use Rattle.ec_bits.proofs.AnyLaws.{if_false}
use Rattle.ec_fmmu.specs.Applied.{LogicalSpan, touched_by_reading, touched_by_writing}
use Rattle.ec_slave.specs.Managers.{is_ungoverned}
use Rattle.ec_slave.specs.Logical.{logical_value}
use Rattle.ec_slave.proofs.LogicalAccess.ManagerRead.{manager-read}
use Rattle.ec_slave.proofs.logical.managers.access_manager.Goals as goal
use Rattle.ec_slave.proofs.logical.managers.access_manager.Goals.{else-writing-via-then-writing+else-write_bits, else-writing-via-else-writing}

pub returns-then-reading-clause-after : goal.returns-then-reading-clause-after
returns-then-reading-clause-after c =
    let p : LogicalSpan = record { from = c.args.from; bits = 8 * length c.args.bytes.now } in
    let rt = touched_by_reading c.args.fmmus.now p in
    let wt = touched_by_writing c.args.fmmus.now p in
    let value = logical_value c.args.lower.now c.args.fmmus.now p c.args.bytes.now in
    elim c.else-writing.branch [
      | else-writing-via-then-writing+else-write_bits w ↦
          manager-read c.args.reading c.args.writing rt wt (is_ungoverned c.args.lower.now) value c.args.manager.now _ _ c.if-reading.true
          (and_right _ _ (sym w.write_bits.ensures.written ∙ w.if-write_bits.false))
          (w.manager-is ∙ (w.write_bits.ensures.after ∙ if_false _ _ _ (sym w.write_bits.ensures.written ∙ w.if-write_bits.false))) c.read_manager.ensures
      | else-writing-via-else-writing w ↦
          manager-read c.args.reading c.args.writing rt wt (is_ungoverned c.args.lower.now) value c.args.manager.now _ _ c.if-reading.true
          (and_left _ _ w.if-writing.false) w.manager-is c.read_manager.ensures
    ]

pub returns-then-reading-clause-written : goal.returns-then-reading-clause-written
returns-then-reading-clause-written c =
    elim c.else-writing.branch [
      | else-writing-via-then-writing+else-write_bits w ↦ sym (and_right _ _ (sym w.write_bits.ensures.written ∙ w.if-write_bits.false))
      | else-writing-via-else-writing w ↦ sym (and_left _ _ w.if-writing.false)
    ]
