-- Numbers and places of managers, and the two names of an address.
use Rattle.std.proofs.Common.{◌≡◌, ◌≢◌, ◌<◌, ◌≤◌, ℕ, zero, suc, None, Some, Bool, true, false, if◌then◌else◌, refl, arith, lit<}
use Rattle.std.proofs.lemmas.Bool.Decides.{nat_tests}
use Rattle.ec_device.specs.declared.hardware.Hardware.{Hardware}
use Rattle.ec_device.specs.Hardware.{PlacesAreNumbered, NamesGoBack, number_at, place_at, swapped}

-- what holds of 0, 1, 2 and 3 holds below 4
each_of_four : (P : ℕ → Type 0) → P 0 → P 1 → P 2 → P 3 → (n : ℕ) → n < 4 → P n
each_of_four P a b c d zero lt = a
each_of_four P a b c d (suc zero) lt = b
each_of_four P a b c d (suc (suc zero)) lt = c
each_of_four P a b c d (suc (suc (suc zero))) lt = d
each_of_four P a b c d (suc (suc (suc (suc n)))) lt = absurd (omega (arith, lt))

-- the directions have these two numbers, the outputs first
abbrev with_numbers : Hardware → ℕ → ℕ → Hardware
with_numbers h o i = record h { out_manager = record h.out_manager { number = o }; in_manager = record h.in_manager { number = i } }

-- all that is asked, place by place
abbrev Numbered : Hardware → Type 0
Numbered h =
    ((place : ℕ) → place < 4 → number_at h place < 4) × ((n : ℕ) → n < 4 → place_at h n < 4)
    × ((place : ℕ) → place < 4 → place_at h (number_at h place) ≡ place) × ((n : ℕ) → n < 4 → number_at h (place_at h n) ≡ n)

numbered : (h : Hardware) (o i : ℕ) → o ≤ 3 → i ≤ 3 → o ≢ i → Numbered (with_numbers h o i)
numbered h zero zero a b apart = absurd (apart refl)
numbered h zero (suc zero) a b apart = (
  each_of_four (λ p. number_at (with_numbers h 0 1) p < 4) (lit< tt) (lit< tt) (lit< tt) (lit< tt),
  each_of_four (λ n. place_at (with_numbers h 0 1) n < 4) (lit< tt) (lit< tt) (lit< tt) (lit< tt),
  each_of_four (λ p. place_at (with_numbers h 0 1) (number_at (with_numbers h 0 1) p) ≡ p) refl refl refl refl,
  each_of_four (λ n. number_at (with_numbers h 0 1) (place_at (with_numbers h 0 1) n) ≡ n) refl refl refl refl,
)
numbered h zero (suc (suc zero)) a b apart = (
  each_of_four (λ p. number_at (with_numbers h 0 2) p < 4) (lit< tt) (lit< tt) (lit< tt) (lit< tt),
  each_of_four (λ n. place_at (with_numbers h 0 2) n < 4) (lit< tt) (lit< tt) (lit< tt) (lit< tt),
  each_of_four (λ p. place_at (with_numbers h 0 2) (number_at (with_numbers h 0 2) p) ≡ p) refl refl refl refl,
  each_of_four (λ n. number_at (with_numbers h 0 2) (place_at (with_numbers h 0 2) n) ≡ n) refl refl refl refl,
)
numbered h zero (suc (suc (suc zero))) a b apart = (
  each_of_four (λ p. number_at (with_numbers h 0 3) p < 4) (lit< tt) (lit< tt) (lit< tt) (lit< tt),
  each_of_four (λ n. place_at (with_numbers h 0 3) n < 4) (lit< tt) (lit< tt) (lit< tt) (lit< tt),
  each_of_four (λ p. place_at (with_numbers h 0 3) (number_at (with_numbers h 0 3) p) ≡ p) refl refl refl refl,
  each_of_four (λ n. number_at (with_numbers h 0 3) (place_at (with_numbers h 0 3) n) ≡ n) refl refl refl refl,
)
numbered h (suc zero) zero a b apart = (
  each_of_four (λ p. number_at (with_numbers h 1 0) p < 4) (lit< tt) (lit< tt) (lit< tt) (lit< tt),
  each_of_four (λ n. place_at (with_numbers h 1 0) n < 4) (lit< tt) (lit< tt) (lit< tt) (lit< tt),
  each_of_four (λ p. place_at (with_numbers h 1 0) (number_at (with_numbers h 1 0) p) ≡ p) refl refl refl refl,
  each_of_four (λ n. number_at (with_numbers h 1 0) (place_at (with_numbers h 1 0) n) ≡ n) refl refl refl refl,
)
numbered h (suc zero) (suc zero) a b apart = absurd (apart refl)
numbered h (suc zero) (suc (suc zero)) a b apart = (
  each_of_four (λ p. number_at (with_numbers h 1 2) p < 4) (lit< tt) (lit< tt) (lit< tt) (lit< tt),
  each_of_four (λ n. place_at (with_numbers h 1 2) n < 4) (lit< tt) (lit< tt) (lit< tt) (lit< tt),
  each_of_four (λ p. place_at (with_numbers h 1 2) (number_at (with_numbers h 1 2) p) ≡ p) refl refl refl refl,
  each_of_four (λ n. number_at (with_numbers h 1 2) (place_at (with_numbers h 1 2) n) ≡ n) refl refl refl refl,
)
numbered h (suc zero) (suc (suc (suc zero))) a b apart = (
  each_of_four (λ p. number_at (with_numbers h 1 3) p < 4) (lit< tt) (lit< tt) (lit< tt) (lit< tt),
  each_of_four (λ n. place_at (with_numbers h 1 3) n < 4) (lit< tt) (lit< tt) (lit< tt) (lit< tt),
  each_of_four (λ p. place_at (with_numbers h 1 3) (number_at (with_numbers h 1 3) p) ≡ p) refl refl refl refl,
  each_of_four (λ n. number_at (with_numbers h 1 3) (place_at (with_numbers h 1 3) n) ≡ n) refl refl refl refl,
)
numbered h (suc (suc zero)) zero a b apart = (
  each_of_four (λ p. number_at (with_numbers h 2 0) p < 4) (lit< tt) (lit< tt) (lit< tt) (lit< tt),
  each_of_four (λ n. place_at (with_numbers h 2 0) n < 4) (lit< tt) (lit< tt) (lit< tt) (lit< tt),
  each_of_four (λ p. place_at (with_numbers h 2 0) (number_at (with_numbers h 2 0) p) ≡ p) refl refl refl refl,
  each_of_four (λ n. number_at (with_numbers h 2 0) (place_at (with_numbers h 2 0) n) ≡ n) refl refl refl refl,
)
numbered h (suc (suc zero)) (suc zero) a b apart = (
  each_of_four (λ p. number_at (with_numbers h 2 1) p < 4) (lit< tt) (lit< tt) (lit< tt) (lit< tt),
  each_of_four (λ n. place_at (with_numbers h 2 1) n < 4) (lit< tt) (lit< tt) (lit< tt) (lit< tt),
  each_of_four (λ p. place_at (with_numbers h 2 1) (number_at (with_numbers h 2 1) p) ≡ p) refl refl refl refl,
  each_of_four (λ n. number_at (with_numbers h 2 1) (place_at (with_numbers h 2 1) n) ≡ n) refl refl refl refl,
)
numbered h (suc (suc zero)) (suc (suc zero)) a b apart = absurd (apart refl)
numbered h (suc (suc zero)) (suc (suc (suc zero))) a b apart = (
  each_of_four (λ p. number_at (with_numbers h 2 3) p < 4) (lit< tt) (lit< tt) (lit< tt) (lit< tt),
  each_of_four (λ n. place_at (with_numbers h 2 3) n < 4) (lit< tt) (lit< tt) (lit< tt) (lit< tt),
  each_of_four (λ p. place_at (with_numbers h 2 3) (number_at (with_numbers h 2 3) p) ≡ p) refl refl refl refl,
  each_of_four (λ n. number_at (with_numbers h 2 3) (place_at (with_numbers h 2 3) n) ≡ n) refl refl refl refl,
)
numbered h (suc (suc (suc zero))) zero a b apart = (
  each_of_four (λ p. number_at (with_numbers h 3 0) p < 4) (lit< tt) (lit< tt) (lit< tt) (lit< tt),
  each_of_four (λ n. place_at (with_numbers h 3 0) n < 4) (lit< tt) (lit< tt) (lit< tt) (lit< tt),
  each_of_four (λ p. place_at (with_numbers h 3 0) (number_at (with_numbers h 3 0) p) ≡ p) refl refl refl refl,
  each_of_four (λ n. number_at (with_numbers h 3 0) (place_at (with_numbers h 3 0) n) ≡ n) refl refl refl refl,
)
numbered h (suc (suc (suc zero))) (suc zero) a b apart = (
  each_of_four (λ p. number_at (with_numbers h 3 1) p < 4) (lit< tt) (lit< tt) (lit< tt) (lit< tt),
  each_of_four (λ n. place_at (with_numbers h 3 1) n < 4) (lit< tt) (lit< tt) (lit< tt) (lit< tt),
  each_of_four (λ p. place_at (with_numbers h 3 1) (number_at (with_numbers h 3 1) p) ≡ p) refl refl refl refl,
  each_of_four (λ n. number_at (with_numbers h 3 1) (place_at (with_numbers h 3 1) n) ≡ n) refl refl refl refl,
)
numbered h (suc (suc (suc zero))) (suc (suc zero)) a b apart = (
  each_of_four (λ p. number_at (with_numbers h 3 2) p < 4) (lit< tt) (lit< tt) (lit< tt) (lit< tt),
  each_of_four (λ n. place_at (with_numbers h 3 2) n < 4) (lit< tt) (lit< tt) (lit< tt) (lit< tt),
  each_of_four (λ p. place_at (with_numbers h 3 2) (number_at (with_numbers h 3 2) p) ≡ p) refl refl refl refl,
  each_of_four (λ n. number_at (with_numbers h 3 2) (place_at (with_numbers h 3 2) n) ≡ n) refl refl refl refl,
)
numbered h (suc (suc (suc zero))) (suc (suc (suc zero))) a b apart = absurd (apart refl)
numbered h (suc (suc (suc (suc o)))) i a b apart = absurd (omega (arith, a))
numbered h o (suc (suc (suc (suc i)))) a b apart = absurd (omega (arith, b))

pub numbered_law : PlacesAreNumbered
numbered_law mailbox None h = record { few = λ p lt. lt; places = λ n lt. lt; back = λ p lt. refl; forth = λ n lt. refl }
numbered_law mailbox (Some x) h =
    let is = h x refl in
    let all : Numbered x = numbered x x.out_manager.number x.in_manager.number is.out_number is.in_number is.apart in
    record { few = all.0; places = all.1; back = all.2; forth = all.3 }

swapped_back : (a : ℕ) → swapped (swapped a) ≡ a
swapped_back a = grind (arith, nat_tests)

named_back : (b : Bool) (a : ℕ) → (if b then swapped (if b then swapped a else a) else (if b then swapped a else a)) ≡ a
named_back true a = swapped_back a
named_back false a = refl

pub names_law : NamesGoBack
names_law None a = refl
names_law (Some h) a = named_back h.has_pins a
