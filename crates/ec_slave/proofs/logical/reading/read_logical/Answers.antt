use Rattle.std.proofs.Common.{ℕ, ◌≡◌, ◌<◌, ◌*◌, ◌&&◌, Bool, List, [], ◌∷◌, length, get_or, ◌∙◌, ap, arith}
use Rattle.std.proofs.lemmas.List.{get_or_default}
use Rattle.ec_regs.specs.declared.fmmu.FmmuSettings.{FmmuSettings}
use Rattle.ec_sync.specs.SyncManager.{SyncManager, no_manager, may_read}
use Rattle.ec_sync.specs.Governing.{covers}
use Rattle.ec_fmmu.specs.Applied.{LogicalSpan, touched_by_reading}
use Rattle.ec_slave.specs.State.{manager_at}
use Rattle.ec_slave.proofs.LogicalAccess.ReadViews.{Readable, four, overlay-read, any-read}
use Rattle.ec_slave.proofs.logical.reading.read_logical.Goals as goal

-- the truth value that was found for a manager
same : (ms : List SyncManager) (fs : List FmmuSettings) (p : LogicalSpan) (n : ℕ) (m : SyncManager) (b : Bool) → n < length ms → m ≡ get_or ms n m
    → b ≡ (covers (touched_by_reading fs p) m && may_read m) → b ≡ (covers (touched_by_reading fs p) (manager_at ms n) && may_read (manager_at ms n))
same ms fs p n m b l e h = h ∙ ap (λ x. covers (touched_by_reading fs p) x && may_read x) (e ∙ get_or_default ms n m no_manager l)

pub returns : goal.returns
returns c =
    let ms = c.args.managers.now in
    let fs = c.args.fmmus.now in
    let p : LogicalSpan = record { from = c.args.from; bits = 8 * length c.args.bytes.now } in
    let r : Readable ms fs p (c.is_readable.result ∷ c.is_readable-2.result ∷ c.is_readable-3.result ∷ c.is_readable-4.result ∷ [])
    = four ms fs p _ _ _ _ c.requires.four
    (same ms fs p 0 (c.index-managers-0.result) _ (omega arith) c.index-managers-0.is c.is_readable.ensures)
    (same ms fs p 1 (c.index-managers-1.result) _ (omega arith) c.index-managers-1.is c.is_readable-2.ensures)
    (same ms fs p 2 (c.index-managers-2.result) _ (omega arith) c.index-managers-2.is c.is_readable-3.ensures)
    (same ms fs p 3 (c.index-managers-3.result) _ (omega arith) c.index-managers-3.is c.is_readable-4.ensures) in
    record {
      bits = c.apply_read.ensures.bits ∙ overlay-read c.args.bytes.now c.args.memory.now ms _ fs p r;
      any = c.apply_read.ensures.any ∙ any-read c.args.memory.now ms _ fs p r;
    }
