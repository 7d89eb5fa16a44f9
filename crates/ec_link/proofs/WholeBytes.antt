-- A layout of areas of whole bytes begins each of them at a byte.
use Rattle.std.proofs.Common.{◌≡◌, ℕ, zero, suc, ◌+◌, ◌<◌, ◌≤◌, ◌%◌, eqb, List, [], ◌∷◌, length, set, refl, sym, ap, ◌∙◌, subst, arith, inl, inr, map, get_or-set_same, get_or-set_other, length-set}
use Rattle.std.proofs.lemmas.List.{get_or_past}
use Rattle.std.proofs.lemmas.Bool.{cases_Bool, cases_lt, cases_eq}
use Rattle.ec_link.specs.declared.sizes.SlaveSize.{SlaveSize}
use Rattle.ec_link.specs.declared.layout.Part.{Part}
use Rattle.ec_link.specs.declared.layout.Seat.{Seat}
use Rattle.ec_link.specs.Layout.{area, empty_part, with_slave, LayoutState, part_so_far, last_index, no_seat, seat_at, joined, opened, can_join, seated, unit_seated, units_seated, units, no_layout, some_part, layout}
use Rattle.ec_link.proofs.Seats.{each_set, each_push, can_join-some}

-- every part ends, and every seat begins, at a byte
pub record Whole (l : LayoutState) : Type 0 where
  pub parts : (k : ℕ) → (part_so_far l.parts k).bits % 8 ≡ 0
  pub seats : (s : ℕ) → (seat_at l.seats s).from % 8 ≡ 0

abbrev pub AreWhole : List SlaveSize → Type 0
AreWhole [] = Unit {0}
AreWhole (z ∷ zs) = (area z % 8 ≡ 0) × AreWhole zs

-- a seat more, wherever it stands
each_seat : (qs : List Seat) (s : ℕ) (q : Seat) → ((k : ℕ) → (seat_at qs k).from % 8 ≡ 0) → q.from % 8 ≡ 0 → (k : ℕ) → (seat_at (set qs s q) k).from % 8 ≡ 0
each_seat qs s q old new k =
    elim (cases_eq k s) [
      | inl same ↦ elim (cases_lt s (length qs)) [
        | inl there ↦ subst (λ (x : Seat). x.from % 8 ≡ 0) (sym (ap (λ j. seat_at (set qs s q) j) same ∙ get_or-set_same qs s q no_seat there)) new
        | inr past ↦
            let far : length (set qs s q) ≤ k = omega (arith, same, past, length-set qs s q) in
            subst (λ (x : Seat). x.from % 8 ≡ 0) (sym (get_or_past (set qs s q) k no_seat far)) refl
      ]
      | inr other ↦ subst (λ (x : Seat). x.from % 8 ≡ 0) (sym (get_or-set_other qs s k q no_seat other)) (old k)
    ]

grown : (p : Part) (z : SlaveSize) → p.bits % 8 ≡ 0 → area z % 8 ≡ 0 → (with_slave p z).bits % 8 ≡ 0
unfolding with_slave
grown p z h k = omega (arith, h, k)

one_seated : (l : LayoutState) (s : ℕ) (z : SlaveSize) → Whole l → area z % 8 ≡ 0 → Whole (seated l s z)
unfolding seated joined opened
one_seated l s z h k =
    let P : Part → Type 0 = λ p. p.bits % 8 ≡ 0 in
    let last = last_index l.parts in
    elim (cases_Bool (can_join l.parts z)) [
      | inl joins ↦
          let some : 0 < length l.parts = can_join-some l.parts z joins in
          rw joins (record {
            parts = each_set P l.parts last (with_slave (part_so_far l.parts last) z) (omega arith) h.parts (grown (part_so_far l.parts last) z (h.parts last) k);
            seats = each_seat l.seats s (record { part = last; from = (part_so_far l.parts last).bits }) h.seats (h.parts last);
          })
      | inr opens ↦ rw opens (record {
        parts = each_push P l.parts (with_slave (empty_part z.unit) z) h.parts (grown (empty_part z.unit) z refl k);
        seats = each_seat l.seats s (record { part = length l.parts; from = 0 }) h.seats refl;
      })
    ]

unit_whole : (u s : ℕ) (l : LayoutState) (zs : List SlaveSize) → Whole l → AreWhole zs → Whole (unit_seated u s l zs)
unit_whole u s l [] h each = h
unit_whole u s l (z ∷ zs) h each =
    elim (cases_Bool (eqb z.unit u)) [
      | inl ours ↦ rw ours (unit_whole u (s + 1) (seated l s z) zs (one_seated l s z h each.0) each.1)
      | inr others ↦ rw others (unit_whole u (s + 1) l zs h each.1)
    ]

units_whole : (zs : List SlaveSize) (us : List ℕ) (l : LayoutState) → AreWhole zs → Whole l → Whole (units_seated zs l us)
units_whole zs [] l each h = h
units_whole zs (u ∷ us) l each h = units_whole zs us (unit_seated u 0 l zs) each (unit_whole u 0 l zs h each)

no_seats : (zs : List SlaveSize) (s : ℕ) → (seat_at (map (λ (z : SlaveSize). no_seat) zs) s).from % 8 ≡ 0
no_seats [] s = refl
no_seats (z ∷ zs) zero = refl
no_seats (z ∷ zs) (suc s) = no_seats zs s

some_whole : (l : LayoutState) → Whole l → Whole (some_part l)
some_whole l h = elim (cases_Bool (eqb (length l.parts) 0)) [
  | inl none ↦ rw none (record { parts = each_push (λ p. p.bits % 8 ≡ 0) [] (empty_part 0) (λ k. refl) refl; seats = h.seats })
  | inr some ↦ rw some h
]

pub layout_whole : (zs : List SlaveSize) → AreWhole zs → Whole (layout zs)
unfolding layout
layout_whole zs each = some_whole (units_seated zs (no_layout zs) (units zs)) (units_whole zs (units zs) (no_layout zs) each (record { parts = λ k. refl; seats = no_seats zs }))
