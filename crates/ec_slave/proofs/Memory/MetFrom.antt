-- The managers meet a datagram from the last to the first.
use Rattle.std.proofs.Common.{ℕ, ◌+◌, ◌-◌, ◌<◌, ◌≡◌, List, [], ◌∷◌, ◌++◌, length, take, drop, get_or, set, Bool, refl, sym, ◌∙◌, ap, arith, Option}
use Rattle.std.proofs.lemmas.List.{take_more, drop_more, length-take-le, append_assoc}
use Rattle.ec_device.specs.declared.hardware.Hardware.{Hardware}
use Rattle.ec_sync.specs.SyncManager.{SyncManager}
use Rattle.ec_slave.specs.Physical.{Window, physical_manager, physical_managers}
use Rattle.ec_slave.proofs.LogicalAccess.ExchangedFrom.{take_front, drop_front}

-- those from number p on have met it
abbrev pub met_from : Option Hardware → List SyncManager → Bool → Bool → Window → ℕ → List SyncManager
met_from o ms reads writes w p = take p ms ++ physical_managers o (take p ms) reads writes w p (drop p ms)

pub met_from-end : (o : Option Hardware) (ms : List SyncManager) (reads writes : Bool) (w : Window) → length ms ≡ 4 → ms ≡ met_from o ms reads writes w (4 - 0)
met_from-end o [] reads writes w e = absurd (omega arith)
met_from-end o (a ∷ []) reads writes w e = absurd (omega arith)
met_from-end o (a ∷ b ∷ []) reads writes w e = absurd (omega arith)
met_from-end o (a ∷ b ∷ c ∷ []) reads writes w e = absurd (omega arith)
met_from-end o (a ∷ b ∷ c ∷ d ∷ []) reads writes w e = refl
met_from-end o (a ∷ b ∷ c ∷ d ∷ x ∷ xs) reads writes w e = absurd (omega arith)

pub met_from-start : (o : Option Hardware) (ms : List SyncManager) (reads writes : Bool) (w : Window) → met_from o ms reads writes w 0 ≡ physical_managers o [] reads writes w 0 ms
met_from-start o ms reads writes w = refl

-- one more, number p
pub met_from-step : (o : Option Hardware) (ms before after : List SyncManager) (reads writes : Bool) (w : Window) (p : ℕ) (d : SyncManager) (x : SyncManager)
    → p < length ms → before ≡ met_from o ms reads writes w (p + 1)
    → x ≡ physical_manager o (take p before) reads writes w p (get_or (drop p before) 0 d)
    → after ≡ take p before ++ set (drop p before) 0 x
    → after ≡ met_from o ms reads writes w p
met_from-step o ms before after reads writes w p d x l b n a =
    let A : List SyncManager = take p ms in
    let m : SyncManager = get_or ms p d in
    let R : List SyncManager = physical_managers o (A ++ m ∷ []) reads writes w (p + 1) (drop (p + 1) ms) in
    let eA : length A ≡ p = length-take-le p ms (omega arith) in
    let eT : take (p + 1) ms ≡ A ++ m ∷ [] = take_more ms p d l in
    let eD : drop p ms ≡ m ∷ drop (p + 1) ms = drop_more ms p d l in
    let eB : before ≡ A ++ m ∷ R = b ∙ (ap (λ t. t ++ physical_managers o t reads writes w (p + 1) (drop (p + 1) ms)) eT ∙ append_assoc A (m ∷ []) R) in
    let tB : take p before ≡ A = ap (take p) eB ∙ take_front A (m ∷ R) p eA in
    let dB : drop p before ≡ m ∷ R = ap (drop p) eB ∙ drop_front A (m ∷ R) p eA in
    let nx : x ≡ physical_manager o A reads writes w p m = n ∙ (ap (λ t. physical_manager o t reads writes w p (get_or (drop p before) 0 d)) tB ∙ ap (λ t. physical_manager o A reads writes w p (get_or t 0 d)) dB) in
    a ∙ (ap (λ t. t ++ set (drop p before) 0 x) tB ∙ (ap (λ t. A ++ set t 0 x) dB ∙ (ap (λ y. A ++ y ∷ R) nx
    ∙ ap (λ t. A ++ physical_managers o A reads writes w p t) (sym eD))))
