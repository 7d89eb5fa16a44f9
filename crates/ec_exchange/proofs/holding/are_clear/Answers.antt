use Rattle.std.proofs.Common.{ℕ, suc, ◌+◌, ◌≡◌, ◌<◌, ◌∙◌, List, false, length, take, refl, ap, sym, arith}
use Rattle.ec_sync.specs.SyncManager.{SyncManager}
use Rattle.ec_sync.specs.Governing.{governor, governs}
use Rattle.ec_exchange.specs.Values.{manager_at}
use Rattle.ec_exchange.proofs.Managers.{indexed}
use Rattle.ec_exchange.proofs.Managers.{position_from-more}
use Rattle.ec_exchange.proofs.holding.are_clear.Goals as goal

pub loop-manager-preserved : goal.loop-manager-preserved
loop-manager-preserved c = λ a lo hi.
    let ms : List SyncManager = c.args.managers.now in
    let n : ℕ = c.loop-manager.manager-index in
    let l : n < length ms = c.loop-manager-test.true in
    let own : c.manager-item.result ≡ manager_at ms n = indexed ms ms n c.manager-item.result l c.manager-item.is refl in
    let clear : governs (manager_at ms n) a ≡ false = ap (λ (m : SyncManager). governs m a) (sym own) ∙ c.if-not-is_clear.ensures a lo hi in
    let next : n + 1 ≡ suc n = omega arith in
    ap (λ (i : ℕ). governor (take i ms) a) next ∙ position_from-more (λ (m : SyncManager). governs m a) 0 n ms l (c.loop-manager.invariant a lo hi) clear
