-- What an access leaves of a manager, as the code finds it.
use Rattle.std.proofs.Common.{ℕ, ◌≡◌, ◌&&◌, Bool, true, false, List, sym, ◌∙◌, ap, if◌then◌else◌}
use Rattle.ec_bits.proofs.AnyLaws.{if_false}
use Rattle.ec_sync.specs.SyncManager.{SyncManager, ring_read}
use Rattle.ec_slave.specs.Managers.{is_read_by, is_written_by, manager_after}

-- one that isn't written is read
pub manager-read : (reads writes : Bool) (rt wt own : ℕ → Bool) (value : ℕ → ℕ → List ℕ) (m x y : SyncManager) → reads ≡ true
    → (writes && is_written_by wt own m) ≡ false → x ≡ m → y ≡ (if is_read_by rt own x then ring_read x else x)
    → y ≡ manager_after reads writes rt wt own value m
manager-read reads writes rt wt own value m x y r f e h =
    h ∙ (ap (λ (k : SyncManager). if is_read_by rt own k then ring_read k else k) e
    ∙ (ap (λ (b : Bool). if b && is_read_by rt own m then ring_read m else m) (sym r) ∙ sym (if_false _ _ _ f)))
