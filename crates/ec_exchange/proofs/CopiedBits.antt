-- Copies of bits, as updates bit by bit.
use Rattle.std.proofs.Common.{ℕ, ◌+◌, ◌-◌, ◌*◌, ◌<◌, ◌≤◌, ◌≡◌, Bool, true, false, Option, Some, None, is_some, unwrap_or, if◌then◌else◌, nat_lt, List, All, length, slice_index, refl, sym, ◌∙◌, ap, subst, arith, inl, inr}
use Rattle.std.proofs.lemmas.Bool.{both_ways, cases_lt, cases_Bool, false≢true, lt-ltb, le-ltb}
use Rattle.std.proofs.lemmas.List.{get_or_default, get_or-replicate, get_or_past, length-replicate}
use Rattle.ec_bits.specs.Bits.{bit, copied, overlay, run_updates, within, zeros, bytes_of_bits}
use Rattle.ec_bits.proofs.Algebra.{same_bits, overlay_keeps_bytes}
use Rattle.ec_bits.proofs.AnyLaws.{if_true, if_false, within_true, within_above, within_parts}
use Rattle.ec_bits.proofs.BitLaws.{bit-overlay, length-overlay, overlay_alike}
use Rattle.ec_fmmu.specs.Areas.{Area}
use Rattle.ec_fmmu.specs.Applied.{LogicalSpan}
use Rattle.ec_exchange.specs.Bits.{bits_from}
use Rattle.ec_exchange.specs.Values.{inputs_into, outputs_from}

either-told : (o : Option Bool) (a b : Bool) → is_some o ≡ true → unwrap_or o a ≡ unwrap_or o b
either-told None a b h = absurd (false≢true h)
either-told (Some x) a b h = refl

small-all : (xs : List ℕ) → ((k : ℕ) → slice_index xs k < 256) → All (λ x. x < 256) xs
small-all xs h = λ k d l. subst (λ (n : ℕ). n < 256) (get_or_default xs k 0 d l) (h k)

pub told_wholly : (xs ys : List ℕ) (f : ℕ → Option Bool) → length xs ≡ length ys → ((k : ℕ) → slice_index xs k < 256) → ((k : ℕ) → slice_index ys k < 256)
    → ((i : ℕ) → i < 8 * length xs → is_some (f i) ≡ true) → overlay xs f ≡ overlay ys f
told_wholly xs ys f e a b h =
    let lx = length-overlay xs f in
    let ly = length-overlay ys f in
    same_bits (overlay xs f) (overlay ys f) (lx ∙ (e ∙ sym ly)) (overlay_keeps_bytes xs f (small-all xs a)) (overlay_keeps_bytes ys f (small-all ys b))
    (λ i l.
    let inside : i < 8 * length xs = omega (arith, l, lx) in
    let inside_2 : i < 8 * length ys = omega (arith, l, lx, e) in
    bit-overlay xs f i inside ∙ (either-told (f i) (bit xs i) (bit ys i) (h i inside) ∙ sym (bit-overlay ys f i inside_2)))

pub small-zeros : (n k : ℕ) → slice_index (zeros n) k < 256
small-zeros n k = elim (cases_lt k n) [
  | inl l ↦ let z : slice_index (zeros n) k ≡ 0 = get_or-replicate n k 0 0 l in omega (arith, z)
  | inr g ↦ let z : slice_index (zeros n) k ≡ 0 = get_or_past (zeros n) k 0 (let e = length-replicate {A = ℕ} n 0 in omega (arith, e, g)) in omega (arith, z)
]

-- a copy of the first `n` of the bits that are left has their updates, where no more are left in the value
alike : (bytes : List ℕ) (at count skipped n k : ℕ) → (k < n → skipped + k < count) → (n ≤ k → count ≤ skipped + k)
    → run_updates 0 bytes (at + skipped) n k ≡ (if nat_lt (skipped + k) count then Some (bit bytes (at + (skipped + k))) else None)
alike bytes at count skipped n k inside outside = elim (cases_lt k n) [
  | inl l ↦
      let e : at + skipped + (k - 0) ≡ at + (skipped + k) = omega arith in
      if_true (within 0 n k) (Some (bit bytes (at + skipped + (k - 0)))) None (within_true 0 n k (omega arith) (omega (arith, l)))
      ∙ (ap (λ (i : ℕ). Some (bit bytes i)) e ∙ sym (if_true (nat_lt (skipped + k) count) (Some (bit bytes (at + (skipped + k)))) None (lt-ltb (skipped + k) count (inside l))))
  | inr l ↦
      if_false (within 0 n k) (Some (bit bytes (at + skipped + (k - 0)))) None (within_above 0 n k (omega (arith, l)))
      ∙ sym (if_false (nat_lt (skipped + k) count) (Some (bit bytes (at + (skipped + k)))) None (le-ltb (skipped + k) count (outside l)))
]

-- into zeros
pub copied_from : (bytes : List ℕ) (at count skipped len n : ℕ) → n ≡ count - skipped → skipped ≤ count
    → copied (zeros len) 0 bytes (at + skipped) n ≡ bits_from bytes at count skipped len
copied_from bytes at count skipped len n e l =
    overlay_alike (zeros len) (run_updates 0 bytes (at + skipped) n) _ (λ k i.
    ap (λ (x : Option Bool). unwrap_or x (bit (zeros len) k)) (alike bytes at count skipped n k (λ h. omega (arith, h, e)) (λ h. omega (arith, h, e, l))))

-- over anything, where each bit is copied
pub wholly_from : (bytes xs : List ℕ) (at count skipped : ℕ) → ((k : ℕ) → slice_index xs k < 256) → skipped + 8 * length xs ≤ count
    → copied xs 0 bytes (at + skipped) (8 * length xs) ≡ bits_from bytes at count skipped (length xs)
wholly_from bytes xs at count skipped small l =
    let n : ℕ = length xs in
    let zs : List ℕ = zeros n in
    let long : length zs ≡ n = length-replicate n 0 in
    told_wholly xs zs (run_updates 0 bytes (at + skipped) (8 * n)) (sym long) small (small-zeros n)
    (λ k i. ap is_some (if_true (within 0 (8 * n) k) (Some (bit bytes (at + skipped + (k - 0)))) None (within_true 0 (8 * n) k (omega arith) (omega (arith, i)))))
    ∙ overlay_alike zs (run_updates 0 bytes (at + skipped) (8 * n)) _ (λ k i.
    ap (λ (x : Option Bool). unwrap_or x (bit zs k)) (alike bytes at count skipped (8 * n) k (λ h. omega (arith, h, l)) (λ h. absurd (omega (arith, h, i, long)))))

-- the bits of a run, counted from a datagram's first
pub within_moved : (at n from i : ℕ) → from ≤ at → within at n (from + i) ≡ within (at - from) n i
within_moved at n from i l = elim (cases_Bool (within at n (from + i))) [
  | inl t ↦
      let b = within_parts at n (from + i) t in
      t ∙ sym (within_true (at - from) n i (let x = b.0 in omega (arith, x, l)) (let x = b.1 in omega (arith, x, l)))
  | inr f ↦ f ∙ sym (elim (cases_Bool (within (at - from) n i)) as (λ _. within (at - from) n i ≡ false) [
    | inl t ↦
        let b = within_parts (at - from) n i t in
        absurd (both_ways (within at n (from + i)) f (within_true at n (from + i) (let x = b.0 in omega (arith, x, l)) (let x = b.1 in omega (arith, x, l))))
    | inr g ↦ g
  ])
]

-- the inputs of an area, as one copy
pub copied_into : (a : Area) (p : LogicalSpan) (inputs bytes : List ℕ) → p.from ≤ a.in_at → copied bytes (a.in_at - p.from) inputs 0 a.ins ≡ inputs_into a p inputs bytes
copied_into a p inputs bytes l =
    overlay_alike bytes (run_updates (a.in_at - p.from) inputs 0 a.ins) _ (λ i k.
    ap (λ (x : Option Bool). unwrap_or x (bit bytes i)) (same i))
  where
    same : (i : ℕ) → run_updates (a.in_at - p.from) inputs 0 a.ins i ≡ (if within a.in_at a.ins (p.from + i) then Some (bit inputs (p.from + i - a.in_at)) else None)
    same i =
        let moved = within_moved a.in_at a.ins p.from i l in
        let e : 0 + (i - (a.in_at - p.from)) ≡ p.from + i - a.in_at = omega (arith, l) in
        ap (λ (b : Bool). if b then Some (bit inputs (0 + (i - (a.in_at - p.from)))) else None) (sym moved)
        ∙ ap (λ (k : ℕ). if within a.in_at a.ins (p.from + i) then Some (bit inputs k) else None) e

-- the outputs of an area, as the bits of a value that begins where they do
pub outputs_are : (a : Area) (p : LogicalSpan) (bytes : List ℕ) (start len : ℕ) → start ≡ a.out_start → len ≡ bytes_of_bits a.outs → p.from ≤ a.out_at
    → bits_from bytes (a.out_at - p.from) a.outs (8 * (start - a.out_start)) len ≡ outputs_from a p bytes
outputs_are a p bytes start len s n l =
    let zero : 8 * (start - a.out_start) ≡ 0 = omega (arith, s) in
    ap (λ (k : ℕ). bits_from bytes (a.out_at - p.from) a.outs k len) zero
    ∙ (ap (bits_from bytes (a.out_at - p.from) a.outs 0) n
    ∙ overlay_alike (zeros (bytes_of_bits a.outs)) _ _ (λ k i.
    let first : 0 + k ≡ k = omega arith in
    let at : a.out_at - p.from + (0 + k) ≡ a.out_at + k - p.from = omega (arith, l) in
    ap (λ (x : Option Bool). unwrap_or x (bit (zeros (bytes_of_bits a.outs)) k))
    (ap (λ (j : ℕ). if nat_lt j a.outs then Some (bit bytes (a.out_at - p.from + (0 + k))) else None) first
    ∙ ap (λ (j : ℕ). if nat_lt k a.outs then Some (bit bytes j) else None) at)))
