use Rattle.std.proofs.Common.{ℕ, Bool, ◌≡◌, ◌<◌, ◌∙◌, ◌&&◌, List, length, Option, Some, refl, sym, ap, subst}
use Rattle.std.specs.Option.{IfSome}
use Rattle.std.proofs.lemmas.Bool.{OnTrue_from}
use Rattle.ec_bits.specs.Bits.{within}
use Rattle.ec_sync.specs.SyncManager.{SyncManager, may_read}
use Rattle.ec_sync.specs.Governing.{covers, in_first_buffer}
use Rattle.ec_slave.specs.State.{manager_at}
use Rattle.ec_slave.proofs.AppAccess.Bytes.{indexed}
use Rattle.ec_slave.proofs.Memory.WindowBytes.{read-governed}
use Rattle.ec_slave.proofs.physical.bytes.reads_byte.Goals as goal

pub returns-in-Some : goal.returns-in-Some
returns-in-Some c =
    let ms : List SyncManager = c.args.managers.now in
    let a : ℕ = c.args.address in
    let n : ℕ = c.in-Some.index in
    let t : ℕ → Bool = within c.args.from c.args.len in
    let x : SyncManager = c.index-managers-index.result in
    let there : n < length ms = subst (λ (o : Option ℕ). IfSome o (λ k. k < length ms)) c.in-Some.is c.requires.within in
    let own : x ≡ manager_at ms n = indexed ms ms n x there c.index-managers-index.is refl in
    record {
      value = ap (λ (b : Bool). b && (c.is_covered.result && c.may_read.result)) c.in_first_buffer.ensures
          ∙ (ap (λ (b : Bool). in_first_buffer x a && (b && c.may_read.result)) c.is_covered.ensures
          ∙ (ap (λ (b : Bool). in_first_buffer x a && (covers t x && b)) c.may_read.ensures.value
          ∙ (ap (λ (m : SyncManager). in_first_buffer m a && (covers t m && may_read m)) own
          ∙ sym (read-governed ms t a (Some n) c.if-address-lt-RAM_START.false c.if-address-ge-RAM_END.false (sym (c.requires.owner c.if-address-lt-RAM_START.false) ∙ c.in-Some.is)))));
      inside = OnTrue_from _ _ (λ _. c.if-address-ge-RAM_END.false);
    }
