-- The areas of a plan: each inside its part, and those of two slaves apart.
use Rattle.std.proofs.Common.{◌≡◌, ◌≢◌, ℕ, zero, suc, ◌+◌, ◌*◌, ◌<◌, ◌≤◌, ◌⊎◌, List, [], ◌∷◌, length, refl, ap, arith, inl, inr}
use Rattle.std.proofs.lemmas.List.{get_or_past}
use Rattle.std.proofs.lemmas.Bool.{cases_lt, cases_eq}
use Rattle.ec_bits.specs.Bits.{bytes_of_bits}
use Rattle.ec_link.specs.declared.sizes.SlaveSize.{SlaveSize}
use Rattle.ec_link.specs.declared.layout.Part.{Part}
use Rattle.ec_link.specs.declared.plan.PartPlan.{PartPlan}
use Rattle.ec_link.specs.Layout.{area, part_so_far, seat_at, LayoutState}
use Rattle.ec_link.specs.Plan.{addressed, part_at, logical_from, no_part}
use Rattle.ec_link.proofs.LayoutsApart.{size_at, IsSoFar}
use Rattle.ec_link.proofs.PlanLists.{before, part_at-addressed, length-addressed}

before_none : (ps : List Part) → before ps 0 ≡ 0
before_none [] = refl
before_none (p ∷ ps) = refl

pub before_next : (ps : List Part) (k : ℕ) → k < length ps → before ps (suc k) ≡ before ps k + bytes_of_bits (part_so_far ps k).bits
before_next [] k h = absurd (omega arith)
before_next (p ∷ ps) zero h = omega (arith, before_none ps)
before_next (p ∷ ps) (suc k) h = omega (arith, before_next ps k (omega arith))

pub before_rises : (ps : List Part) (a b : ℕ) → a ≤ b → before ps a ≤ before ps b
before_rises [] a b h = omega arith
before_rises (p ∷ ps) zero b h = omega arith
before_rises (p ∷ ps) (suc a) zero h = absurd (omega arith)
before_rises (p ∷ ps) (suc a) (suc b) h = omega (arith, before_rises ps a b (omega arith))

in_bytes : (n : ℕ) → n ≤ 8 * bytes_of_bits n
in_bytes n = omega arith

-- where a part begins and ends, in bits
pub record PartAt (a : ℕ) (ps : List Part) (k : ℕ) : Type 0 where
  pub address : (part_at (addressed a ps) k).address ≡ a + before ps k
  pub bytes : (part_at (addressed a ps) k).bytes ≡ bytes_of_bits (part_so_far ps k).bits
  pub next : a + before ps (suc k) ≡ (part_at (addressed a ps) k).address + (part_at (addressed a ps) k).bytes

pub part_is : (a : ℕ) (ps : List Part) (k : ℕ) → k < length ps → PartAt a ps k
part_is a ps k h =
    let e = part_at-addressed a ps k h in
    let at : (part_at (addressed a ps) k).address ≡ a + before ps k = ap (λ (x : PartPlan). x.address) e in
    let by : (part_at (addressed a ps) k).bytes ≡ bytes_of_bits (part_so_far ps k).bits = ap (λ (x : PartPlan). x.bytes) e in
    record { address = at; bytes = by; next = omega (arith, at, by, before_next ps k h) }

-- two parts: the one with the lower number ends before the other begins
pub parts_in_order : (a : ℕ) (ps : List Part) (k l : ℕ) → k < l → l < length ps → (part_at (addressed a ps) k).address + (part_at (addressed a ps) k).bytes ≤ (part_at (addressed a ps) l).address
parts_in_order a ps k l lt h =
    omega (arith, (part_is a ps k (omega arith)).next, (part_is a ps l h).address, before_rises ps (suc k) l (omega arith))

no_bytes : (a : ℕ) (ps : List Part) (k : ℕ) → length ps ≤ k → (part_at (addressed a ps) k).bytes ≡ 0
no_bytes a ps k h = ap (λ (x : PartPlan). x.bytes) (get_or_past (addressed a ps) k no_part (omega (arith, length-addressed a ps)))

pub parts_share_none : (a : ℕ) (ps : List Part) (k l i j : ℕ) → k ≢ l → i < 8 * (part_at (addressed a ps) k).bytes → j < 8 * (part_at (addressed a ps) l).bytes
    → 8 * (part_at (addressed a ps) k).address + i ≢ 8 * (part_at (addressed a ps) l).address + j
parts_share_none a ps k l i j ne x y same =
    elim (cases_lt k (length ps)) [
      | inr far ↦ omega (arith, no_bytes a ps k far)
      | inl lk ↦ elim (cases_lt l (length ps)) [
        | inr far ↦ omega (arith, no_bytes a ps l far)
        | inl ll ↦ elim (cases_lt k l) [
          | inl lt ↦ omega (arith, parts_in_order a ps k l lt ll)
          | inr ge ↦ omega (arith, parts_in_order a ps l k (omega (arith, ne)) lk)
        ]
      ]
    ]

-- ---- areas

module _ (zs : List SlaveSize) (a : ℕ) (l : LayoutState) (h : IsSoFar zs (λ t. t < length zs) l) where
  -- the first logical bit of a slave's area
  abbrev pub at : ℕ → ℕ
  at s = logical_from (addressed a l.parts) (seat_at l.seats s)

  pub begins : (s : ℕ) → s < length zs → 8 * (part_at (addressed a l.parts) (seat_at l.seats s).part).address ≤ at s
  begins s lt = omega arith

  pub ends : (s : ℕ) → s < length zs → at s + area (size_at zs s) ≤ 8 * (part_at (addressed a l.parts) (seat_at l.seats s).part).address + 8 * (part_at (addressed a l.parts) (seat_at l.seats s).part).bytes
  ends s lt =
      omega (arith, (part_is a l.parts (seat_at l.seats s).part (h.there s lt)).bytes, h.inside s lt, in_bytes (part_so_far l.parts (seat_at l.seats s).part).bits)

  pub areas_apart : (s t : ℕ) → s ≢ t → s < length zs → t < length zs → (at s + area (size_at zs s) ≤ at t) ⊎ (at t + area (size_at zs t) ≤ at s)
  areas_apart s t ne ls lt =
      elim (cases_eq (seat_at l.seats s).part (seat_at l.seats t).part) [
        | inl same ↦
            let e : (part_at (addressed a l.parts) (seat_at l.seats s).part).address ≡ (part_at (addressed a l.parts) (seat_at l.seats t).part).address = ap (λ k. (part_at (addressed a l.parts) k).address) same in
            elim (h.apart s t ls lt ne same) [ inl x ↦ inl (omega (arith, x, e)) | inr x ↦ inr (omega (arith, x, e)) ]
        | inr other ↦ elim (cases_lt (seat_at l.seats s).part (seat_at l.seats t).part) [
          | inl less ↦ inl (omega (arith, ends s ls, begins t lt, parts_in_order a l.parts (seat_at l.seats s).part (seat_at l.seats t).part less (h.there t lt)))
          | inr more ↦ inr (omega (arith, ends t lt, begins s ls, parts_in_order a l.parts (seat_at l.seats t).part (seat_at l.seats s).part (omega (arith, other)) (h.there s ls)))
        ]
      ]
