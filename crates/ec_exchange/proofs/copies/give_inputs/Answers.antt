use Rattle.std.proofs.Common.{ℕ, ◌≡◌, ◌-◌, ◌*◌, ◌<◌, ◌∙◌, ◌&&◌, List, length, nat_lt, true, ap, sym, arith}
use Rattle.std.proofs.lemmas.Bool.{and_from, lt-ltb}
use Rattle.ec_bits.proofs.AnyLaws.{if_true}
use Rattle.ec_bits.specs.Bits.{copied}
use Rattle.ec_fmmu.specs.Applied.{LogicalSpan}
use Rattle.ec_fmmu.specs.Areas.{area}
use Rattle.ec_sync.specs.SyncManager.{may_read}
use Rattle.ec_sync.proofs.Lengths.{buffer_length_set}
use Rattle.ec_exchange.proofs.CopiedBits.{copied_into}
use Rattle.ec_exchange.proofs.copies.give_inputs.Goals as goal

pub copy_by_words-requires-clause-there : goal.copy_by_words-requires-clause-there
copy_by_words-requires-clause-there c =
    let m = c.args.manager.now in
    let some : 0 < c.args.mapped.now.ins = let z = c.if-mapped-eq0.false in omega arith in
    let buffer = c.requires.buffer some in
    let set = c.if-not-may_read.ensures.set in
    let long = c.published.ensures.long ∙ buffer_length_set m.settings set buffer.no_mailbox in
    let whole = buffer.length_is in
    let same = ap length c.published.ensures.value in
    omega (arith, long, whole, same)

pub returns : goal.returns
returns c =
    let m = c.args.manager.now in
    let place : LogicalSpan = record { from = c.args.from; bits = 8 * length c.args.bytes.now } in
    let some : 0 < c.args.mapped.now.ins = let z = c.if-mapped-eq0.false in omega arith in
    let given : (nat_lt 0 c.args.mapped.now.ins && may_read m) ≡ true
    = and_from (nat_lt 0 c.args.mapped.now.ins) (may_read m) (lt-ltb 0 c.args.mapped.now.ins some) (sym c.if-not-may_read.ensures.value) in
    record {
      given = sym given;
      bytes = c.copy_by_words.ensures
          ∙ (ap (λ (xs : List ℕ). copied c.args.bytes.now (c.args.mapped.now.in_at - c.args.from) xs 0 c.args.mapped.now.ins) c.published.ensures.value
          ∙ (copied_into (area c.args.mapped.now) place m.buffer.published c.args.bytes.now c.requires.first ∙ sym (if_true _ _ _ given)));
    }
