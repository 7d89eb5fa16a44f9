use Rattle.std.proofs.Common.{ℕ, ◌≡◌, ◌≤◌, ◌+◌, ◌⊎◌, ap, subst, arith, inl, inr}
use Rattle.ec_sync.specs.Bounds.{span_end_of}
use Rattle.ec_sync.specs.declared.bounds.Bounds.{Bounds}
use Rattle.ec_sync.specs.SyncManager.{SyncManager}
use Rattle.ec_slave.proofs.Memory.GovernorRuns.{governs_cut, front_cut}
use Rattle.ec_slave.proofs.runs.cut_at_borders.Goals as goal

-- a border that a longer run lies on one side of
shorter : (start stop longer border : ℕ) → stop ≤ longer → (longer ≤ border) ⊎ (border ≤ start) → (stop ≤ border) ⊎ (border ≤ start)
shorter start stop longer border less h = elim h [ inl x ↦ inl (omega arith) | inr x ↦ inr x ]

pub returns-clause-governs : goal.returns-clause-governs
returns-clause-governs c = λ a lo hi.
    let m : SyncManager = c.args.manager.now in
    let b = c.bounds-bounds.ensures in
    let first : c.bounds-bounds.result.first ≡ m.settings.start = ap (λ (x : Bounds). x.first) b in
    let span_end : c.bounds-bounds.result.span_end ≡ span_end_of m.settings = ap (λ (x : Bounds). x.span_end) b in
    let low = subst (λ (n : ℕ). (c.cut-before.result ≤ n) ⊎ (n ≤ c.args.start)) first c.cut-before.ensures.aside in
    let high = subst (λ (n : ℕ). (c.cut.result ≤ n) ⊎ (n ≤ c.args.start)) span_end c.cut.ensures.aside in
    let x = c.cut-inside.ensures.inside.1 in
    let y = c.cut.ensures.inside.1 in
    governs_cut m c.args.start c.cut.result a (shorter c.args.start c.cut.result c.cut-before.result m.settings.start (omega (arith, x, y)) low) high lo hi

pub returns-clause-front : goal.returns-clause-front
returns-clause-front c = λ here a lo hi.
    let m : SyncManager = c.args.manager.now in
    let b = c.bounds-bounds.ensures in
    let value_end : c.bounds-bounds.result.value_end ≡ m.settings.start + m.settings.length = ap (λ (x : Bounds). x.value_end) b in
    let side = subst (λ (n : ℕ). (c.cut-inside.result ≤ n) ⊎ (n ≤ c.args.start)) value_end c.cut-inside.ensures.aside in
    let y = c.cut.ensures.inside.1 in
    front_cut m c.args.start c.cut.result a (shorter c.args.start c.cut.result c.cut-inside.result (m.settings.start + m.settings.length) y side) lo hi
