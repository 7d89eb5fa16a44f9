use Rattle.std.proofs.Common.{ℕ, suc, ◌+◌, ◌≡◌, ◌<◌, ◌∙◌, List, true, false, Some, length, take, refl, ap, sym, arith}
use Rattle.ec_sync.specs.SyncManager.{SyncManager}
use Rattle.ec_sync.specs.Governing.{governor, governs}
use Rattle.ec_exchange.specs.Values.{manager_at}
use Rattle.ec_exchange.proofs.Managers.{indexed}
use Rattle.ec_exchange.proofs.Managers.{position_from-first, position_from-more}
use Rattle.ec_exchange.proofs.reach.governor.Goals as goal

pub returns-then-governs-clause-value : goal.returns-then-governs-clause-value
returns-then-governs-clause-value c =
    let ms : List SyncManager = c.args.managers.now in
    let a : ℕ = c.args.address in
    let n : ℕ = c.loop-place.place in
    let l : n < length ms = c.loop-place-test.true in
    let own : c.index-managers-place.result ≡ manager_at ms n = indexed ms ms n c.index-managers-place.result l c.index-managers-place.is refl in
    let here : governs (manager_at ms n) a ≡ true = ap (λ (m : SyncManager). governs m a) (sym own) ∙ (sym c.governs.ensures ∙ c.if-governs.true) in
    let first : 0 + n ≡ n = omega arith in
    sym (position_from-first (λ (m : SyncManager). governs m a) 0 n ms l c.loop-place.invariant here ∙ ap (λ (i : ℕ). Some i) first)

pub loop-place-preserved : goal.loop-place-preserved
loop-place-preserved c =
    let ms : List SyncManager = c.args.managers.now in
    let a : ℕ = c.args.address in
    let n : ℕ = c.loop-place.place in
    let l : n < length ms = c.loop-place-test.true in
    let own : c.index-managers-place.result ≡ manager_at ms n = indexed ms ms n c.index-managers-place.result l c.index-managers-place.is refl in
    let clear : governs (manager_at ms n) a ≡ false = ap (λ (m : SyncManager). governs m a) (sym own) ∙ (sym c.governs.ensures ∙ c.if-governs.false) in
    let next : n + 1 ≡ suc n = omega arith in
    ap (λ (i : ℕ). governor (take i ms) a) next ∙ position_from-more (λ (m : SyncManager). governs m a) 0 n ms l c.loop-place.invariant clear
