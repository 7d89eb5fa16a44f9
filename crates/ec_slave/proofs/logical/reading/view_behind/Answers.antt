use Rattle.std.proofs.Common.{ℕ, ◌≡◌, ◌*◌, ◌-◌, ◌%◌, Some, [], ◌∷◌, sym, ◌∙◌, ap}
use Rattle.std.proofs.lemmas.Bool.{and_from}
use Rattle.ec_bits.specs.Bits.{bit}
use Rattle.ec_bits.proofs.AnyLaws.{if_true}
use Rattle.ec_sync.specs.SyncManager.{SyncManager, visible}
use Rattle.ec_slave.proofs.LogicalAccess.ReadViews.{bit-byte}
use Rattle.ec_slave.proofs.logical.reading.view_behind.Goals as goal

pub returns-then-is_readable : goal.returns-then-is_readable
returns-then-is_readable c =
    let m : SyncManager = c.args.manager.now in
    let q : ℕ = c.args.physical in
    let b : c.get.result ≡ bit (visible m) (q - 8 * m.settings.start)
    = c.get.ensures ∙ (ap (λ x. bit (x ∷ []) (q % 8)) c.visible_byte-byte.ensures ∙ bit-byte (visible m) (m.settings.start) q c.requires) in
    ap (λ x. Some x) b ∙ sym (if_true _ _ _ (and_from _ _ (sym c.in_first_buffer.ensures ∙ c.if-in_first_buffer.true) c.if-is_readable.true))
