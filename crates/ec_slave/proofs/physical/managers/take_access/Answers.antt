use Rattle.std.proofs.Common.{◌≡◌, ◌∙◌, true, sym}
use Rattle.std.proofs.lemmas.Bool.{and_from}
use Rattle.ec_bits.proofs.AnyLaws.{if_true}
use Rattle.ec_slave.specs.Managers.{is_ungoverned, is_written_by}
use Rattle.ec_slave.specs.Physical.{Window, touches}
use Rattle.ec_slave.proofs.physical.managers.take_access.Goals as goal

pub returns-then-write_manager : goal.returns-then-write_manager
returns-then-write_manager c =
    let w : Window = record { from = c.args.from; bytes = c.args.bytes.now } in
    let written : is_written_by (touches w) (is_ungoverned c.args.lower.now) c.args.manager.now ≡ true = sym c.if-write_manager.ensures.written in
    c.write_manager.ensures.after ∙ (if_true _ _ _ written ∙ sym (if_true _ _ _ (and_from c.args.writes _ c.if-writes.true written)))
