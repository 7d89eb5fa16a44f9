-- The managers meet a logical datagram from the last to the first, and are searched from the first on.
use Rattle.std.proofs.Common.{ℕ, ◌+◌, ◌<◌, ◌≡◌, ◌&&◌, ◌||◌, List, [], ◌∷◌, ◌++◌, length, take, drop, get_or, set, Bool, refl, sym, ◌∙◌, ap, arith, append_assoc}
use Rattle.std.proofs.lemmas.List.{take_more, drop_more, length-take-le}
use Rattle.std.proofs.Math.Seq.{take-append_seam, drop-append_seam}
use Rattle.ec_regs.specs.declared.fmmu.FmmuSettings.{FmmuSettings}
use Rattle.ec_sync.specs.SyncManager.{SyncManager, may_write}
use Rattle.ec_sync.specs.Governing.{covers}
use Rattle.ec_fmmu.specs.Applied.{LogicalSpan, touched_by_reading, touched_by_writing}
use Rattle.ec_slave.specs.Managers.{is_ungoverned, manager_after}
use Rattle.ec_slave.specs.Logical.{logical_value, logical_managers}
use Rattle.ec_slave.specs.Written.{some_brought, some_manager_written}

-- one of them
abbrev pub one_exchanged : List SyncManager → Bool → Bool → List FmmuSettings → LogicalSpan → List ℕ → SyncManager → SyncManager
one_exchanged lower reading writing fs p bytes m =
    manager_after reading writing (touched_by_reading fs p) (touched_by_writing fs p) (is_ungoverned lower) (logical_value lower fs p bytes) m

-- those from number n on have met it
abbrev pub exchanged_from : List SyncManager → Bool → Bool → List FmmuSettings → LogicalSpan → List ℕ → ℕ → List SyncManager
exchanged_from ms reading writing fs p bytes n = take n ms ++ logical_managers (take n ms) reading writing fs p bytes (drop n ms)

pub exchanged_from-end : (ms : List SyncManager) (reading writing : Bool) (fs : List FmmuSettings) (p : LogicalSpan) (bytes : List ℕ) → length ms ≡ 4
    → ms ≡ exchanged_from ms reading writing fs p bytes 4
exchanged_from-end [] reading writing fs p bytes e = absurd (omega arith)
exchanged_from-end (a ∷ []) reading writing fs p bytes e = absurd (omega arith)
exchanged_from-end (a ∷ b ∷ []) reading writing fs p bytes e = absurd (omega arith)
exchanged_from-end (a ∷ b ∷ c ∷ []) reading writing fs p bytes e = absurd (omega arith)
exchanged_from-end (a ∷ b ∷ c ∷ d ∷ []) reading writing fs p bytes e = refl
exchanged_from-end (a ∷ b ∷ c ∷ d ∷ x ∷ xs) reading writing fs p bytes e = absurd (omega arith)

-- the front of what was joined, and what comes after it
pub take_front : {X : Type 0} (xs ys : List X) (n : ℕ) → length xs ≡ n → take n (xs ++ ys) ≡ xs
take_front xs ys n e = ap (λ m. take m (xs ++ ys)) (sym e) ∙ take-append_seam xs ys

pub drop_front : {X : Type 0} (xs ys : List X) (n : ℕ) → length xs ≡ n → drop n (xs ++ ys) ≡ ys
drop_front xs ys n e = ap (λ m. drop m (xs ++ ys)) (sym e) ∙ drop-append_seam xs ys

-- one more, number n
pub exchanged_from-step : (ms before after : List SyncManager) (reading writing : Bool) (fs : List FmmuSettings) (p : LogicalSpan) (bytes : List ℕ) (n : ℕ) (d : SyncManager) (x : SyncManager)
    → n < length ms → before ≡ exchanged_from ms reading writing fs p bytes (n + 1)
    → x ≡ one_exchanged (take n before) reading writing fs p bytes (get_or (drop n before) 0 d)
    → after ≡ take n before ++ set (drop n before) 0 x
    → after ≡ exchanged_from ms reading writing fs p bytes n
exchanged_from-step ms before after reading writing fs p bytes n d x l b h a =
    let A : List SyncManager = take n ms in
    let m : SyncManager = get_or ms n d in
    let R : List SyncManager = logical_managers (A ++ m ∷ []) reading writing fs p bytes (drop (n + 1) ms) in
    let eA : length A ≡ n = length-take-le n ms (omega arith) in
    let eT : take (n + 1) ms ≡ A ++ m ∷ [] = take_more ms n d l in
    let eD : drop n ms ≡ m ∷ drop (n + 1) ms = drop_more ms n d l in
    let eB : before ≡ A ++ m ∷ R = b ∙ (ap (λ t. t ++ logical_managers t reading writing fs p bytes (drop (n + 1) ms)) eT ∙ append_assoc A (m ∷ []) R) in
    let tB : take n before ≡ A = ap (take n) eB ∙ take_front A (m ∷ R) n eA in
    let dB : drop n before ≡ m ∷ R = ap (drop n) eB ∙ drop_front A (m ∷ R) n eA in
    let nx : x ≡ one_exchanged A reading writing fs p bytes m
    = h ∙ (ap (λ t. one_exchanged t reading writing fs p bytes (get_or (drop n before) 0 d)) tB ∙ ap (λ t. one_exchanged A reading writing fs p bytes (get_or t 0 d)) dB) in
    a ∙ (ap (λ t. t ++ set (drop n before) 0 x) tB ∙ (ap (λ t. A ++ set t 0 x) dB ∙ (ap (λ y. A ++ y ∷ R) nx
    ∙ ap (λ t. A ++ logical_managers A reading writing fs p bytes t) (sym eD))))

-- ---- the search

abbrev pub one_written : List SyncManager → List FmmuSettings → LogicalSpan → List ℕ → SyncManager → Bool
one_written lower fs p bytes m =
    covers (touched_by_writing fs p) m && (may_write m && some_brought lower fs p bytes m.settings.start m.settings.length)

-- whether one from number n on is written
abbrev pub written_from : List SyncManager → List FmmuSettings → LogicalSpan → List ℕ → ℕ → Bool
written_from ms fs p bytes n = some_manager_written (take n ms) fs p bytes (drop n ms)

pub written_from-next : (ms : List SyncManager) (fs : List FmmuSettings) (p : LogicalSpan) (bytes : List ℕ) (n : ℕ) (d : SyncManager) → n < length ms
    → written_from ms fs p bytes n ≡ (one_written (take n ms) fs p bytes (get_or ms n d) || written_from ms fs p bytes (n + 1))
written_from-next ms fs p bytes n d l =
    ap (some_manager_written (take n ms) fs p bytes) (drop_more ms n d l)
    ∙ ap (λ t. one_written (take n ms) fs p bytes (get_or ms n d) || some_manager_written t fs p bytes (drop (n + 1) ms)) (sym (take_more ms n d l))
