use Rattle.std.proofs.Common.{ℕ, ◌≡◌, ◌*◌, ◌<◌, ◌∙◌, ◌&&◌, List, length, nat_lt, true, ap, sym, arith}
use Rattle.std.proofs.lemmas.Bool.{and_from, lt-ltb}
use Rattle.ec_bits.proofs.AnyLaws.{if_true, if_false}
use Rattle.ec_fmmu.specs.Applied.{LogicalSpan}
use Rattle.ec_fmmu.specs.Areas.{area}
use Rattle.ec_sync.specs.SyncManager.{may_write}
use Rattle.ec_exchange.specs.Values.{with_published}
use Rattle.ec_exchange.proofs.CopiedBits.{outputs_are}
use Rattle.ec_exchange.proofs.copies.take_outputs.Goals as goal

pub returns : goal.returns
returns c =
    let m = c.args.manager.now in
    let bytes : List ℕ = c.args.bytes.now in
    let outs : ℕ = c.args.mapped.now.outs in
    let start : ℕ = c.args.mapped.now.out_start in
    let place : LogicalSpan = record { from = c.args.from; bits = 8 * length bytes } in
    let some : 0 < outs = let z = c.if-mapped-eq0.false in omega arith in
    let buffer = c.requires.buffer some in
    let taken : (nat_lt 0 outs && may_write m) ≡ true
    = and_from (nat_lt 0 outs) (may_write m) (lt-ltb 0 outs some) (sym c.if-not-may_write.ensures.value) in
    record {
      taken = sym taken;
      after = c.store.ensures
          ∙ (if_false _ _ _ buffer.no_mailbox
          ∙ (ap (with_published m) (outputs_are (area c.args.mapped.now) place bytes m.settings.start m.settings.length buffer.start_is buffer.length_is c.requires.first) ∙ sym (if_true _ _ _ taken)));
    }
