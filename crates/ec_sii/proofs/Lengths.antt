-- Bytes in words, and how many words categories have.
use Rattle.std.proofs.Common.{ℕ, zero, suc, ◌+◌, ◌*◌, ◌<◌, ◌≤◌, ◌^◌, ◌≡◌, List, [], ◌∷◌, ◌++◌, length, take, get_or, slice_index_or, All, Option, Some, None, refl, ap, arith}
use Rattle.std.specs.List.{flat_map}
use Rattle.std.proofs.lemmas.List.Concat.{length-flat_map}
use Rattle.std.proofs.lemmas.List.Sums.{sum_by-le}
use Rattle.ec_device.specs.declared.slave_type.Pdo.{Pdo}
use Rattle.ec_device.specs.declared.slave_type.Mailbox.{Mailbox}
use Rattle.ec_device.specs.Types.{SlaveKind, IsPdo, ArePdos}
use Rattle.ec_sii.specs.Categories.{pair, words_of, strings_words, entry_words, pdo_words, mailbox_managers, data_managers, manager_words, managers_words}

-- ---- bytes

double : ℕ → ℕ
double zero = zero
double (suc k) = suc (suc (double k))

double-is : (k : ℕ) → double k ≡ 2 * k
unfolding double
double-is zero = refl
double-is (suc k) = omega (arith, double-is k)

more : (xs : List ℕ) (k : ℕ) → double k < length xs → words_of (take (suc (suc (double k))) xs) ≡ words_of (take (double k) xs) ++ pair (get_or xs (double k) 0) (get_or xs (suc (double k)) 0) ∷ []
unfolding double
more [] k h = absurd (omega arith)
more (x ∷ []) zero h = refl
more (x ∷ y ∷ xs) zero h = refl
more (x ∷ []) (suc k) h = absurd (omega arith)
more (x ∷ y ∷ xs) (suc k) h = ap (λ (ws : List ℕ). pair x y ∷ ws) (more xs k (omega arith))

-- two bytes more are a word more
pub words_more : (xs : List ℕ) (k : ℕ) → 2 * k < length xs → words_of (take (2 * (k + 1)) xs) ≡ words_of (take (2 * k) xs) ++ pair (get_or xs (2 * k) 0) (get_or xs (2 * k + 1) 0) ∷ []
words_more xs k h =
    let e : double k ≡ 2 * k = double-is k in
    let s : suc (suc (double k)) ≡ 2 * (k + 1) = omega (arith, e) in
    let t : suc (double k) ≡ 2 * k + 1 = omega (arith, e) in
    rw (← s, ← t, ← e) (more xs k (omega (arith, e)))

-- ---- lengths

pub words_few : (xs : List ℕ) → length (words_of xs) ≤ length xs
words_few [] = omega arith
words_few (x ∷ []) = omega arith
words_few (x ∷ y ∷ xs) = omega (arith, words_few xs)

pub strings_few : (name : List ℕ) → length name ≤ 32 → length (strings_words name) < 2 ^ 16
strings_few name h = omega (arith, words_few name)

managers_many : (o : Option Mailbox) (kind : SlaveKind) → length (flat_map manager_words (mailbox_managers o ++ data_managers kind)) ≡ 16
managers_many None kind = refl
managers_many (Some m) kind = refl

pub managers_few : (kind : SlaveKind) → length (managers_words kind) < 2 ^ 16
managers_few kind = let e : length (managers_words kind) ≡ 16 = managers_many kind.mailbox kind in omega (arith, e)

pub pdos_few : (manager : ℕ) (ps : List Pdo) → length ps ≤ 16 → All (λ p. length p.entries ≤ 64) ps → length (flat_map (pdo_words manager) ps) < 2 ^ 16
pdos_few manager ps few short =
    let each : All (λ p. length (pdo_words manager p) ≤ 260) ps = λ k d below.
    let p : Pdo = slice_index_or ps k d in
    let entries : length (flat_map entry_words p.entries) ≤ length p.entries * 4 = rw (length-flat_map entry_words p.entries) (sum_by-le (λ e. length (entry_words e)) 4 p.entries (λ i e inside. omega arith)) in
    omega (arith, entries, short k d below) in
    rw (length-flat_map (pdo_words manager) ps) (omega (arith, sum_by-le (λ p. length (pdo_words manager p)) 260 ps each, few))

pub short_entries : (first : ℕ) (ps : List Pdo) → ArePdos first ps → All (λ p. length p.entries ≤ 64) ps
short_entries first ps h k d below = let one : IsPdo first (slice_index_or ps k d) = h.each k d below in one.few
