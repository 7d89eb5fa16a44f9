-- One slave's seat, and the loops that give seats.
use Rattle.std.proofs.Common.{◌≡◌, ◌≢◌, ℕ, ◌+◌, ◌<◌, ◌≤◌, eqb, true, false, cond, List, [], ◌∷◌, ◌++◌, length, get_or, set, map, take, drop, All, refl, sym, ap, ◌∙◌, subst, arith, inl, inr, length-append, length-set, get_or-set_same, get_or-set_other}
use Rattle.std.proofs.lemmas.List.{drop_more, drop_all, length-map, take_more, map-append, get_or_append_left, get_or_past}
use Rattle.std.proofs.Math.Seq.{get_or-append_seam}
use Rattle.std.proofs.lemmas.List.Elements.{All-get_or}
use Rattle.std.proofs.lemmas.Bool.{cases_Bool, cases_lt, cases_eq}
use Rattle.std.proofs.lemmas.Bool.Decides.{nat_tests}
use Rattle.ec_link.specs.declared.sizes.SlaveSize.{SlaveSize}
use Rattle.ec_link.specs.declared.layout.Part.{Part}
use Rattle.ec_link.specs.declared.layout.Seat.{Seat}
use Rattle.ec_link.specs.Layout.{empty_part, with_slave, is_small, joins, LayoutState, part_so_far, last_index, no_seat, joined, opened, can_join, seated, unit_seated, units_seated, no_layout}
use Rattle.ec_link.specs.Limits.{IsSize, AreSmall}

pub can_join-some : (ps : List Part) (z : SlaveSize) → can_join ps z ≡ true → 0 < length ps
can_join-some [] z h = cc
can_join-some (p ∷ ps) z h = omega arith

pub ruleset seating = (can_join-some)

-- ---- parts by number

pub each_set : (P : Part → Type 0) (ps : List Part) (i : ℕ) (p : Part) → i < length ps → ((k : ℕ) → P (part_so_far ps k)) → P p → (k : ℕ) → P (part_so_far (set ps i p) k)
each_set P ps i p h old new k =
    elim (cases_eq k i) [
      | inl same ↦ subst P (sym (ap (λ j. part_so_far (set ps i p) j) same ∙ get_or-set_same ps i p (empty_part 0) h)) new
      | inr other ↦ subst P (sym (get_or-set_other ps i k p (empty_part 0) other)) (old k)
    ]

pub each_push : (P : Part → Type 0) (ps : List Part) (p : Part) → ((k : ℕ) → P (part_so_far ps k)) → P p → (k : ℕ) → P (part_so_far (ps ++ p ∷ []) k)
each_push P ps p old new k =
    elim (cases_lt k (length ps)) [
      | inl lt ↦ subst P (sym (get_or_append_left ps (p ∷ []) (empty_part 0) k lt)) (old k)
      | inr ge ↦ elim (cases_eq k (length ps)) [
        | inl same ↦ subst P (sym (ap (λ j. part_so_far (ps ++ p ∷ []) j) same ∙ get_or-append_seam ps p [] (empty_part 0))) new
        | inr other ↦
            let far : length (ps ++ p ∷ []) ≤ k = omega (arith, length-append ps (p ∷ []), other) in
            subst P (get_or_past ps k (empty_part 0) ge ∙ sym (get_or_past (ps ++ p ∷ []) k (empty_part 0) far)) (old k)
      ]
    ]

-- ---- what stays

small_is : (p : Part) → is_small p ≡ true → p.bits ≤ 11376
small_is p h = elim (cases_Bool p.split) [ inl s ↦ let e = rw s at h in grind (arith, nat_tests, e) | inr s ↦ let e = rw s at h in grind (arith, nat_tests, e) ]

pub joins_small : (p : Part) (z : SlaveSize) → joins p z ≡ true → (with_slave p z).bits ≤ 11376
unfolding joins
joins_small p z h = elim (cases_Bool (is_small (with_slave p z))) [ inl s ↦ small_is (with_slave p z) s | inr s ↦ let e = rw s at h in elim (cases_Bool (eqb p.unit z.unit)) [ inl t ↦ let f = rw t at e in cc | inr t ↦ let f = rw t at e in cc ] ]

pub can_join-joins : (ps : List Part) (z : SlaveSize) → can_join ps z ≡ true → joins (part_so_far ps (last_index ps)) z ≡ true
can_join-joins [] z h = cc
can_join-joins (p ∷ ps) z h = h

pub alone_small : (z : SlaveSize) (u : ℕ) → IsSize z → (with_slave (empty_part u) z).bits ≤ 11376
unfolding with_slave
alone_small z u h = omega (arith, h.outs, h.ins)

pub seated_small : (l more : LayoutState) (s : ℕ) (z : SlaveSize) → AreSmall l.parts → IsSize z → more ≡ seated l s z → AreSmall more.parts
unfolding seated joined opened
seated_small l more s z h k e =
    elim (cases_Bool (can_join l.parts z)) [
      | inl joins_it ↦
          let some : 0 < length l.parts = can_join-some l.parts z joins_it in
          let lt : last_index l.parts < length l.parts = omega arith in
          let f = rw joins_it at e in
          rw f (record { each = each_set (λ p. p.bits ≤ 11376) l.parts (last_index l.parts) _ lt h.each (joins_small _ z (can_join-joins l.parts z joins_it)) })
      | inr opens ↦ let f = rw opens at e in rw f (record { each = each_push (λ p. p.bits ≤ 11376) l.parts _ h.each (alone_small z z.unit k) })
    ]

pub seated_seats : (l more : LayoutState) (s : ℕ) (z : SlaveSize) → more ≡ seated l s z → length more.seats ≡ length l.seats
unfolding seated joined opened
seated_seats l more s z e =
    elim (cases_Bool (can_join l.parts z)) [
      | inl joins_it ↦ let f = rw joins_it at e in rw (f, length-set {A = Seat}) refl
      | inr opens ↦ let f = rw opens at e in rw (f, length-set {A = Seat}) refl
    ]

-- ---- the slaves of a unit

-- how far the loop has come
pub record Seating (unit : ℕ) (zs : List SlaveSize) (start l : LayoutState) (i : ℕ) : Type 0 where
  pub rest : unit_seated unit i l (drop i zs) ≡ unit_seated unit 0 start zs
  pub small : AreSmall l.parts
  pub seats : length l.seats ≡ length zs

pub seating_none : (unit : ℕ) (zs : List SlaveSize) (start : LayoutState) → AreSmall start.parts → length start.seats ≡ length zs → Seating unit zs start start 0
seating_none unit zs start h e = record { rest = refl; small = h; seats = e }

seating_step : (unit : ℕ) (l : LayoutState) (i : ℕ) (z : SlaveSize) (zs : List SlaveSize) → unit_seated unit i l (z ∷ zs) ≡ unit_seated unit (i + 1) (cond (eqb z.unit unit) (seated l i z) l) zs
seating_step unit l i z zs = refl

pub seating_more : (unit : ℕ) (zs : List SlaveSize) (start l more : LayoutState) (i : ℕ) (e z : SlaveSize) → i < length zs → z ≡ get_or zs i e → z.unit ≡ unit → All IsSize zs → more ≡ seated l i z
    → Seating unit zs start l i → Seating unit zs start more (i + 1)
seating_more unit zs start l more i f z h is ours each e r =
    let d : drop i zs ≡ z ∷ drop (i + 1) zs = drop_more zs i f h ∙ ap (λ w. w ∷ drop (i + 1) zs) (sym is) in
    let t : eqb z.unit unit ≡ true = grind (arith, nat_tests, ours) in
    record {
      rest = rw e (sym (ap (λ b. unit_seated unit (i + 1) (cond b (seated l i z) l) (drop (i + 1) zs)) t) ∙ sym (seating_step unit l i z (drop (i + 1) zs)) ∙ sym (ap (unit_seated unit i l) d) ∙ r.rest);
      small = seated_small l more i z r.small (subst IsSize (sym is) (All-get_or IsSize zs i f h each)) e;
      seats = seated_seats l more i z e ∙ r.seats;
    }

pub seating_skip : (unit : ℕ) (zs : List SlaveSize) (start l : LayoutState) (i : ℕ) (e z : SlaveSize) → i < length zs → z ≡ get_or zs i e → z.unit ≢ unit → Seating unit zs start l i → Seating unit zs start l (i + 1)
seating_skip unit zs start l i f z h is other r =
    let d : drop i zs ≡ z ∷ drop (i + 1) zs = drop_more zs i f h ∙ ap (λ w. w ∷ drop (i + 1) zs) (sym is) in
    let t : eqb z.unit unit ≡ false = grind (arith, nat_tests, other) in
    record { rest = sym (ap (λ b. unit_seated unit (i + 1) (cond b (seated l i z) l) (drop (i + 1) zs)) t) ∙ sym (seating_step unit l i z (drop (i + 1) zs)) ∙ sym (ap (unit_seated unit i l) d) ∙ r.rest; small = r.small; seats = r.seats }

pub seating_all : (unit : ℕ) (zs : List SlaveSize) (start l : LayoutState) (i : ℕ) → length zs ≤ i → Seating unit zs start l i → l ≡ unit_seated unit 0 start zs
seating_all unit zs start l i h r = let d : drop i zs ≡ [] = drop_all i zs h in rw d at r.rest

pub ruleset seating_steps = (seating_none, seating_more, seating_skip, seating_all)

-- ---- unit by unit

pub record Units (zs : List SlaveSize) (us : List ℕ) (start l : LayoutState) (i : ℕ) : Type 0 where
  pub rest : units_seated zs l (drop i us) ≡ units_seated zs start us
  pub small : AreSmall l.parts
  pub seats : length l.seats ≡ length zs

pub units_none : (zs : List SlaveSize) (us : List ℕ) (start : LayoutState) → start ≡ no_layout zs → Units zs us start start 0
units_none zs us start e = record { rest = refl; small = rw e (record { each = λ k. omega arith }); seats = rw e (length-map zs (λ z. no_seat)) }

pub units_more : (zs : List SlaveSize) (us : List ℕ) (start l more : LayoutState) (i u e : ℕ) → i < length us → u ≡ get_or us i e → more ≡ unit_seated u 0 l zs → AreSmall more.parts → length more.seats ≡ length zs
    → Units zs us start l i → Units zs us start more (i + 1)
units_more zs us start l more i u f h is e small seats r =
    let d : drop i us ≡ u ∷ drop (i + 1) us = drop_more us i f h ∙ ap (λ w. w ∷ drop (i + 1) us) (sym is) in
    record { rest = rw e (rw d at r.rest); small = small; seats = seats }

pub units_all : (zs : List SlaveSize) (us : List ℕ) (start l : LayoutState) (i : ℕ) → length us ≤ i → Units zs us start l i → l ≡ units_seated zs start us
units_all zs us start l i h r = let d : drop i us ≡ [] = drop_all i us h in rw d at r.rest

-- ---- no seat yet

pub fresh_more : (zs : List SlaveSize) (seats more : List Seat) (i : ℕ) → i < length zs → seats ≡ map (λ z. no_seat) (take i zs) → more ≡ seats ++ no_seat ∷ [] → more ≡ map (λ z. no_seat) (take (i + 1) zs)
fresh_more [] seats more i h a b = absurd (omega arith)
fresh_more (z ∷ zs) seats more i h a b =
    rw (take_more (z ∷ zs) i z h) (b ∙ ap (λ xs. xs ++ no_seat ∷ []) a ∙ sym (map-append (λ (y : SlaveSize). no_seat) (take i (z ∷ zs)) (get_or (z ∷ zs) i z ∷ [])))
