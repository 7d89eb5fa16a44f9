use Rattle.std.proofs.Common.{ℕ, ◌≡◌, ◌+◌, ◌*◌, ◌<◌, ◌∙◌, Some, List, length, ap, subst, sym, arith, is_some, true}
use Rattle.ec_bits.specs.Bits.{bit}
use Rattle.ec_bits.proofs.AnyLaws.{if_true}
use Rattle.ec_regs.specs.declared.manager.SyncManagerSettings.{SyncManagerSettings}
use Rattle.ec_sync.specs.SyncManager.{SyncManager, ring_written}
use Rattle.ec_fmmu.specs.Applied.{LogicalSpan, touched_by_writing}
use Rattle.ec_slave.specs.Managers.{is_ungoverned, is_written_by}
use Rattle.ec_slave.specs.Logical.{plain_bit}
use Rattle.ec_slave.proofs.LogicalAccess.WrittenFrom.{wholly-written, wholly-copied}
use Rattle.ec_slave.proofs.logical.managers.write_bits.Goals as goal

pub returns-in-Some : goal.returns-in-Some
returns-in-Some c =
    let access = c.args.access.now in
    let lower = access.lower.now in
    let fs = access.fmmus.now in
    let bytes : List ℕ = access.bytes.now in
    let p : LogicalSpan = record { from = access.from; bits = 8 * length bytes } in
    let m : SyncManager = c.args.manager.now in
    let at : ℕ = c.in-Some.at in
    let all = λ (a b : SyncManagerSettings). (k : ℕ) → k < 8 * b.length → plain_bit lower fs p bytes (8 * a.start + k) ≡ Some (bit bytes (at + k)) in
    let first : all m.settings c.settings-len.result = subst (λ (a : SyncManagerSettings). all a c.settings-len.result) c.settings-start.ensures c.in-Some.ensures.bits in
    let here : all m.settings m.settings = subst (λ (b : SyncManagerSettings). all m.settings b) c.settings-len.ensures first in
    let may = c.if-not-may_write.ensures in
    let inside = may.inside in
    let written : is_written_by (touched_by_writing fs p) (is_ungoverned lower) m ≡ true
    = wholly-written lower fs p bytes m (sym may.value) (omega arith) (λ k l. ap is_some (here k l)) in
    record {
      written = sym written;
      after = c.take_value.ensures
          ∙ (ap (ring_written m) (wholly-copied lower fs p bytes m.settings.start m.settings.length at here) ∙ sym (if_true _ _ _ written));
    }
