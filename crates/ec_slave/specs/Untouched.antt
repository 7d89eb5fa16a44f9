-- Bytes that an access doesn't touch stay 0 in a value that it writes: lemmas for the impls of `Writing`, no definitions.
use Rattle.std.proofs.Common.{ℕ, zero, suc, ◌+◌, ◌*◌, ◌/◌, ◌%◌, ◌<◌, ◌≡◌, ◌≢◌, Bool, true, false, if◌then◌else◌, Option, Some, None, is_some, is_none, option_map, List, length, get_or, slice_index, inl, inr, refl, sym, ◌∙◌, ap, arith, get_or-set_other}
use Rattle.std.proofs.lemmas.Bool.{cases_lt, false≢true}
use Rattle.std.proofs.lemmas.List.{get_or-replicate}
use Rattle.ec_bits.specs.Bits.{bit, overlay, overlay_below, put, overwrite, any_below, zeros}
use Rattle.ec_regs.specs.declared.fmmu.FmmuSettings.{FmmuSettings}
use Rattle.ec_sync.specs.SyncManager.{SyncManager}
use Rattle.ec_sync.specs.Governing.{governor}
use Rattle.ec_fmmu.specs.Applied.{LogicalSpan, touched_by_writing, data_bit_for}
use Rattle.ec_slave.specs.Logical.{plain_bit, logical_value}

set-told : (ys : List ℕ) (n a : ℕ) (o : Option Bool) → ((b : Bool) → o ≡ Some b → a ≢ n / 8) → get_or (overwrite ys n o) a 0 ≡ get_or ys a 0
unfolding put
set-told ys n a None h = refl
set-told ys n a (Some b) h = get_or-set_other ys (n / 8) a _ 0 (h b refl)

byte-below : (n : ℕ) (xs : List ℕ) (f : ℕ → Option Bool) (a : ℕ) → ((i : ℕ) → i / 8 ≡ a → f i ≡ None) → get_or (overlay_below n xs f) a 0 ≡ get_or xs a 0
unfolding overlay_below
byte-below zero xs f a h = refl
byte-below (suc n) xs f a h =
    set-told (overlay_below n xs f) n a (f n) (λ b e q. let z : None ≡ Some b = sym (h n (sym q)) ∙ e in cc) ∙ byte-below n xs f a h

-- a byte without a bit that is replaced
pub byte-overlay : (xs : List ℕ) (f : ℕ → Option Bool) (a : ℕ) → ((i : ℕ) → i / 8 ≡ a → f i ≡ None) → slice_index (overlay xs f) a ≡ slice_index xs a
unfolding overlay
byte-overlay xs f a h = byte-below (8 * length xs) xs f a h

both_fail : (b r : Bool) → (if b then true else r) ≡ false → (b ≡ false) × (r ≡ false)
both_fail true r h = absurd (false≢true (sym h))
both_fail false r h = (refl, h)

-- if none of n passes a test, the j-th fails it
none_passes : (n : ℕ) (p : ℕ → Bool) (j : ℕ) → any_below n p ≡ false → j < n → p j ≡ false
unfolding any_below
none_passes zero p j h lt = absurd (omega arith)
none_passes (suc n) p j h lt =
    let parts = both_fail (p n) (any_below n p) h in
    elim (cases_lt j n) [
      | inl small ↦ none_passes n p j parts.1 small
      | inr high ↦ let same : j ≡ n = omega (arith, lt, high) in ap p same ∙ parts.0
    ]

-- a bit that nothing is brought to is not replaced
none-brought : (b : Bool) (o : Option ℕ) (bytes : List ℕ) → is_some o ≡ false → (if b then option_map (bit bytes) o else None) ≡ None
none-brought true None bytes h = refl
none-brought true (Some x) bytes h = absurd (let e : true ≡ false = h in cc)
none-brought false o bytes h = refl

no-bit : (lower : List SyncManager) (fs : List FmmuSettings) (p : LogicalSpan) (bytes : List ℕ) (start k b : ℕ) → touched_by_writing fs p (start + k) ≡ false → b / 8 ≡ k → plain_bit lower fs p bytes (8 * start + b) ≡ None
no-bit lower fs p bytes start k b untouched at =
    let place : 8 * (start + k) + b % 8 ≡ 8 * start + b = omega (arith, at) in
    let few : b % 8 < 8 = omega arith in
    let none : is_some (data_bit_for fs p (8 * start + b)) ≡ false
    = ap (λ q. is_some (data_bit_for fs p q)) (sym place) ∙ none_passes 8 (λ j. is_some (data_bit_for fs p (8 * (start + k) + j))) (b % 8) untouched few in
    none-brought (is_none (governor lower ((8 * start + b) / 8))) (data_bit_for fs p (8 * start + b)) bytes none

pub untouched-zero : (lower : List SyncManager) (fs : List FmmuSettings) (p : LogicalSpan) (bytes : List ℕ) (start len k : ℕ) → k < len → touched_by_writing fs p (start + k) ≡ false → slice_index (logical_value lower fs p bytes start len) k ≡ 0
untouched-zero lower fs p bytes start len k inside untouched =
    byte-overlay (zeros len) (λ b. plain_bit lower fs p bytes (8 * start + b)) k (λ b at. no-bit lower fs p bytes start k b untouched at) ∙ get_or-replicate len k 0 0 inside
