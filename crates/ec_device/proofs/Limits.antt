-- What the limits of a type say of its PDOs.
use Rattle.std.proofs.Common.{◌≡◌, ◌≢◌, ℕ, ◌+◌, ◌-◌, ◌<◌, ◌≤◌, List, length, All, AllPairs, get_or, slice_index_or, drop, arith, ap, sym, ◌∙◌, below_more, length-drop}
use Rattle.std.proofs.lemmas.List.{get_or-drop, get_or_default}
use Rattle.std.proofs.lemmas.List.Sums.{sum_by-le}
use Rattle.ec_device.specs.declared.slave_type.Pdo.{Pdo}
use Rattle.ec_device.specs.Types.{IsPdo, ArePdos, pdo_bits}

-- each PDO has at most 64 entries, and so at most 4096 bits
pub few_bits : (first : ℕ) (ps : List Pdo) → ArePdos first ps → All (λ p. (length p.entries ≤ 64) × (pdo_bits p ≤ 4096)) ps
few_bits first ps h k d lt =
    let one : IsPdo first (slice_index_or ps k d) = h.each k d lt in (
      one.few,
      omega (arith, sum_by-le (λ e. e.bits) 64 (slice_index_or ps k d).entries (λ i e below. (one.entries i e below).few), one.few),
    )

-- no PDO after place i has the index n: said of later places
pub free_after : (ps : List Pdo) (i j n : ℕ) (d : Pdo) → All (λ p. p.index ≢ n) (drop (i + 1) ps) → i < j → j < length ps → (get_or ps j d).index ≢ n
free_after ps i j n d free above below =
    let k : ℕ = j - (i + 1) in
    let same : (i + 1) + k ≡ j = omega arith in
    let inside : k < length (drop (i + 1) ps) = rw (length-drop (i + 1) ps) (omega arith) in
    rw (get_or-drop (i + 1) ps k d, same) at (free k d inside)

-- the places before i have indices of their own, and no PDO after place i has that of place i
pub own_more : (ps : List Pdo) (i : ℕ) (p : Pdo) → i < length ps → p ≡ get_or ps i p → All (λ q. q.index ≢ p.index) (drop (i + 1) ps) → ((a b : ℕ) (d : Pdo) → a < i → a < b → b < length ps → (get_or ps a d).index ≢ (get_or ps b d).index) → (a b : ℕ) (d : Pdo) → a < i + 1 → a < b → b < length ps → (get_or ps a d).index ≢ (get_or ps b d).index
own_more ps i p inside is free before a b d small above below =
    below_more (λ k. (m : ℕ) (e : Pdo) → k < m → m < length ps → (get_or ps k e).index ≢ (get_or ps m e).index) i
    (λ k lt m e. before k m e lt)
    (λ m e after here same. free_after ps i m p.index e free after here
    (sym same ∙ ap (λ q. q.index) (get_or_default ps i e p inside ∙ sym is)))
    a small b d above below

-- where all have indices of their own, no PDO after place i has that of place i
pub free_from_own : (ps : List Pdo) (i : ℕ) (p : Pdo) → i < length ps → p ≡ get_or ps i p → AllPairs (λ q r. q.index ≢ r.index) ps → All (λ q. q.index ≢ p.index) (drop (i + 1) ps)
free_from_own ps i p inside is own k d below same =
    let room : (i + 1) + k < length ps = omega (arith, length-drop (i + 1) ps) in
    own i ((i + 1) + k) d (omega arith) room
    (ap (λ q. q.index) (get_or_default ps i d p inside ∙ sym is) ∙ sym same ∙ ap (λ q. q.index) (get_or-drop (i + 1) ps k d))
