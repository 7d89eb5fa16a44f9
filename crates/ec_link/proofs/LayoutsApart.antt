-- A layout keeps slaves apart.
use Rattle.std.proofs.Common.{◌≡◌, ◌≢◌, ℕ, zero, suc, ◌+◌, ◌<◌, ◌≤◌, ◌⊎◌, ◌||◌, eqb, Bool, true, false, List, [], ◌∷◌, ◌++◌, length, get_or, set, filter, refl, sym, ap, ◌∙◌, subst, arith, inl, inr, length-append, length-set, get_or-set_same, get_or-set_other}
use Rattle.std.proofs.lemmas.List.{get_or_append_left, length-map}
use Rattle.std.proofs.Math.Seq.{get_or-append_seam}
use Rattle.std.proofs.lemmas.Bool.{cases_Bool, cases_eq, false≢true}
use Rattle.std.proofs.lemmas.Bool.Decides.{nat_tests}
use Rattle.ec_link.specs.declared.sizes.SlaveSize.{SlaveSize}
use Rattle.ec_link.specs.declared.layout.Part.{Part}
use Rattle.ec_link.specs.declared.layout.Seat.{Seat}
use Rattle.ec_link.specs.Layout.{area, empty_part, with_slave, is_small, joins, LayoutState, part_so_far, last_index, no_seat, seat_at, joined, opened, can_join, seated, unit_seated, units_seated, is_unit_of, unit_count, units_below, units, no_layout, some_part, layout}
use Rattle.ec_link.proofs.Units.{below_push}
use Rattle.ec_link.proofs.Seats.{each_set, each_push, can_join-some, can_join-joins}
use Rattle.ec_link.specs.Limits.{IsSize, IsSmall}

abbrev pub no_size : SlaveSize
no_size = record { outs = 0; ins = 0; bits = record { outs = 0; ins = 0 }; unit = 0; lrw = true }

abbrev pub size_at : List SlaveSize → ℕ → SlaveSize
size_at zs s = get_or zs s no_size

abbrev pub end_of : List SlaveSize → List Seat → ℕ → ℕ
end_of zs seats s = (seat_at seats s).from + area (size_at zs s)

-- in a layout of which the slaves in D have their seats
pub record IsSoFar (zs : List SlaveSize) (D : ℕ → Type 0) (l : LayoutState) : Type 0 where
  pub seats : length l.seats ≡ length zs
  pub there : (s : ℕ) → D s → (seat_at l.seats s).part < length l.parts
  pub unit : (s : ℕ) → D s → (part_so_far l.parts (seat_at l.seats s).part).unit ≡ (size_at zs s).unit
  pub inside : (s : ℕ) → D s → end_of zs l.seats s ≤ (part_so_far l.parts (seat_at l.seats s).part).bits
  pub lacks : (s : ℕ) → D s → (size_at zs s).lrw ≡ false → (part_so_far l.parts (seat_at l.seats s).part).split ≡ true
  pub apart : (s t : ℕ) → D s → D t → s ≢ t → (seat_at l.seats s).part ≡ (seat_at l.seats t).part
      → (end_of zs l.seats s ≤ (seat_at l.seats t).from) ⊎ (end_of zs l.seats t ≤ (seat_at l.seats s).from)
  pub small : (k : ℕ) → IsSmall (part_so_far l.parts k)

pub fewer : (zs : List SlaveSize) (D E : ℕ → Type 0) (l : LayoutState) → ((s : ℕ) → E s → D s) → IsSoFar zs D l → IsSoFar zs E l
fewer zs D E l w h = record {
  seats = h.seats;
  there = λ s e. h.there s (w s e);
  unit = λ s e. h.unit s (w s e);
  inside = λ s e. h.inside s (w s e);
  lacks = λ s e. h.lacks s (w s e);
  apart = λ s t e f. h.apart s t (w s e) (w t f);
  small = h.small;
}

-- a part that grew
pub record Grown (p q : Part) : Type 0 where
  pub unit : q.unit ≡ p.unit
  pub bits : p.bits ≤ q.bits
  pub split : p.split ≡ true → q.split ≡ true

-- one slave takes a seat behind all others of its part
pub record Takes (zs : List SlaveSize) (l more : LayoutState) (s : ℕ) (q : Seat) : Type 0 where
  pub place : s < length l.seats
  pub seats : more.seats ≡ set l.seats s q
  pub as_many : length l.parts ≤ length more.parts
  pub grown : (k : ℕ) → k < length l.parts → Grown (part_so_far l.parts k) (part_so_far more.parts k)
  pub there : q.part < length more.parts
  pub unit : (part_so_far more.parts q.part).unit ≡ (size_at zs s).unit
  pub inside : q.from + area (size_at zs s) ≤ (part_so_far more.parts q.part).bits
  pub lacks : (size_at zs s).lrw ≡ false → (part_so_far more.parts q.part).split ≡ true
  pub behind : q.part < length l.parts → (part_so_far l.parts q.part).bits ≤ q.from
  pub small : (k : ℕ) → IsSmall (part_so_far more.parts k)

module _ (zs : List SlaveSize) (D : ℕ → Type 0) (l more : LayoutState) (s : ℕ) (q : Seat) (h : IsSoFar zs D l) (n : Takes zs l more s q) where
  own : seat_at more.seats s ≡ q
  own = ap (λ xs. seat_at xs s) n.seats ∙ get_or-set_same l.seats s q no_seat n.place

  others : (t : ℕ) → t ≢ s → seat_at more.seats t ≡ seat_at l.seats t
  others t ne = ap (λ xs. seat_at xs t) n.seats ∙ get_or-set_other l.seats s t q no_seat ne

  -- what holds of the old seats and of the new one
  both : (P : ℕ → Seat → Type 0) → ((t : ℕ) → D t → P t (seat_at l.seats t)) → P s q → (t : ℕ) → (D t ⊎ (t ≡ s)) → P t (seat_at more.seats t)
  both P old new t d =
      elim (cases_eq t s) [
        | inl same ↦ subst (λ (k : ℕ). P k (seat_at more.seats k)) (sym same) (subst (P s) (sym own) new)
        | inr ne ↦ subst (P t) (sym (others t ne)) (elim d [ inl e ↦ old t e | inr same ↦ absurd (ne same) ])
      ]

  old_of : (t : ℕ) → t ≢ s → (D t ⊎ (t ≡ s)) → D t
  old_of t ne d = elim d [ inl e ↦ e | inr same ↦ absurd (ne same) ]

  -- an old seat ends before the new one, if both are in one part
  before_new : (t : ℕ) → D t → (seat_at l.seats t).part ≡ q.part → end_of zs l.seats t ≤ q.from
  before_new t d same =
      let lt : q.part < length l.parts = omega (arith, h.there t d) in
      let at : (part_so_far l.parts (seat_at l.seats t).part).bits ≡ (part_so_far l.parts q.part).bits = ap (λ k. (part_so_far l.parts k).bits) same in
      omega (arith, h.inside t d, n.behind lt, at)

  apart_new : (a b : ℕ) → (D a ⊎ (a ≡ s)) → (D b ⊎ (b ≡ s)) → a ≢ b → (seat_at more.seats a).part ≡ (seat_at more.seats b).part
      → (end_of zs more.seats a ≤ (seat_at more.seats b).from) ⊎ (end_of zs more.seats b ≤ (seat_at more.seats a).from)
  apart_new a b d e ne same =
      elim (cases_eq a s) [
        | inl a_is ↦ elim (cases_eq b s) [
          | inl b_is ↦ absurd (ne (a_is ∙ sym b_is))
          | inr b_other ↦
              let qa : seat_at more.seats a ≡ q = ap (seat_at more.seats) a_is ∙ own in
              let rb : seat_at more.seats b ≡ seat_at l.seats b = others b b_other in
              let parts : (seat_at l.seats b).part ≡ q.part = ap (λ x. x.part) (sym rb) ∙ sym same ∙ ap (λ x. x.part) qa in
              inr (omega (arith, before_new b (old_of b b_other e) parts, ap (λ x. x.from) qa, ap (λ x. x.from) rb))
        ]
        | inr a_other ↦
            let ra : seat_at more.seats a ≡ seat_at l.seats a = others a a_other in
            elim (cases_eq b s) [
              | inl b_is ↦
                  let qb : seat_at more.seats b ≡ q = ap (seat_at more.seats) b_is ∙ own in
                  let parts : (seat_at l.seats a).part ≡ q.part = ap (λ x. x.part) (sym ra) ∙ same ∙ ap (λ x. x.part) qb in
                  inl (omega (arith, before_new a (old_of a a_other d) parts, ap (λ x. x.from) ra, ap (λ x. x.from) qb))
              | inr b_other ↦
                  let rb : seat_at more.seats b ≡ seat_at l.seats b = others b b_other in
                  let parts : (seat_at l.seats a).part ≡ (seat_at l.seats b).part = ap (λ x. x.part) (sym ra) ∙ same ∙ ap (λ x. x.part) rb in
                  elim (h.apart a b (old_of a a_other d) (old_of b b_other e) ne parts) [
                    | inl x ↦ inl (omega (arith, x, ap (λ y. y.from) ra, ap (λ y. y.from) rb))
                    | inr x ↦ inr (omega (arith, x, ap (λ y. y.from) ra, ap (λ y. y.from) rb))
                  ]
            ]
      ]

  pub taken : IsSoFar zs (λ t. D t ⊎ (t ≡ s)) more
  taken = record {
    seats = ap length n.seats ∙ length-set l.seats s q ∙ h.seats;
    there = both (λ t p. p.part < length more.parts) (λ t d. omega (arith, h.there t d, n.as_many)) n.there;
    unit = both (λ t p. (part_so_far more.parts p.part).unit ≡ (size_at zs t).unit) (λ t d. (n.grown _ (h.there t d)).unit ∙ h.unit t d) n.unit;
    inside = both (λ t p. p.from + area (size_at zs t) ≤ (part_so_far more.parts p.part).bits) (λ t d. omega (arith, h.inside t d, (n.grown _ (h.there t d)).bits)) n.inside;
    lacks = both (λ t p. (size_at zs t).lrw ≡ false → (part_so_far more.parts p.part).split ≡ true) (λ t d e. (n.grown _ (h.there t d)).split (h.lacks t d e)) n.lacks;
    apart = apart_new;
    small = n.small;
  }

-- ---- the two ways to take a seat

with_slave_grown : (p : Part) (z : SlaveSize) → Grown p (with_slave p z)
unfolding with_slave
with_slave_grown p z = record { unit = refl; bits = omega arith; split = λ e. rw e refl }

same_grown : (p : Part) → Grown p p
same_grown p = record { unit = refl; bits = omega arith; split = λ e. e }

or_true : (a : Bool) → (a || true) ≡ true
or_true true = refl
or_true false = refl

with_slave_lacks : (p : Part) (z : SlaveSize) → z.lrw ≡ false → (with_slave p z).split ≡ true
unfolding with_slave
with_slave_lacks p z e = rw e (or_true p.split)

with_slave_bits : (p : Part) (z : SlaveSize) → (with_slave p z).bits ≡ p.bits + area z
unfolding with_slave
with_slave_bits p z = refl

with_slave_unit : (p : Part) (z : SlaveSize) → (with_slave p z).unit ≡ p.unit
unfolding with_slave
with_slave_unit p z = refl

small_from : (p : Part) → is_small p ≡ true → IsSmall p
small_from p h = grind (arith, nat_tests, h)

record Joins (p : Part) (z : SlaveSize) : Type 0 where
  unit : p.unit ≡ z.unit
  small : IsSmall (with_slave p z)

joins_means : (p : Part) (z : SlaveSize) → joins p z ≡ true → Joins p z
unfolding joins
joins_means p z h =
    elim (cases_Bool (eqb p.unit z.unit)) [
      | inl t ↦ elim (cases_Bool (is_small (with_slave p z))) [
        | inl s ↦ record { unit = grind (arith, nat_tests, t); small = small_from (with_slave p z) s }
        | inr s ↦ let e = rw (t, s) at h in absurd (false≢true e)
      ]
      | inr t ↦ let e = rw t at h in absurd (false≢true e)
    ]

alone_is_small : (z : SlaveSize) → IsSize z → IsSmall (with_slave (empty_part z.unit) z)
alone_is_small z h =
    let b = with_slave_bits (empty_part z.unit) z in
    elim (cases_Bool (with_slave (empty_part z.unit) z).split) [
      | inl s ↦ rw s (omega (arith, b, h.outs, h.ins))
      | inr s ↦ rw s (omega (arith, b, h.outs, h.ins))
    ]

empty_is_small : (u : ℕ) → IsSmall (empty_part u)
empty_is_small u = omega arith

module _ (zs : List SlaveSize) (D : ℕ → Type 0) (l : LayoutState) (s : ℕ) (h : IsSoFar zs D l) (lt : s < length zs) where
  joins_step : can_join l.parts (size_at zs s) ≡ true → IsSoFar zs (λ t. D t ⊎ (t ≡ s)) (joined l s (size_at zs s))
  unfolding joined
  joins_step yes_it =
      let z = size_at zs s in
      let k = last_index l.parts in
      let some : 0 < length l.parts = can_join-some l.parts z yes_it in
      let in_it : k < length l.parts = omega arith in
      let p = part_so_far l.parts k in
      let j = joins_means p z (can_join-joins l.parts z yes_it) in
      let new : part_so_far (set l.parts k (with_slave p z)) k ≡ with_slave p z = get_or-set_same l.parts k (with_slave p z) (empty_part 0) in_it in
      taken zs D l _ s (record { part = k; from = p.bits }) h (record {
        place = omega (arith, h.seats);
        seats = refl;
        as_many = omega (arith, length-set l.parts k (with_slave p z));
        grown = λ i below. elim (cases_eq i k) [
          | inl same ↦ subst (λ (x : ℕ). Grown (part_so_far l.parts x) (part_so_far (set l.parts k (with_slave p z)) x)) (sym same) (subst (Grown p) (sym new) (with_slave_grown p z))
          | inr ne ↦ subst (Grown (part_so_far l.parts i)) (sym (get_or-set_other l.parts k i (with_slave p z) (empty_part 0) ne)) (same_grown _)
        ];
        there = omega (arith, length-set l.parts k (with_slave p z));
        unit = ap (λ x. x.unit) new ∙ with_slave_unit p z ∙ j.unit;
        inside = omega (arith, ap (λ x. x.bits) new, with_slave_bits p z);
        lacks = λ e. ap (λ x. x.split) new ∙ with_slave_lacks p z e;
        behind = λ b. omega arith;
        small = each_set IsSmall l.parts k (with_slave p z) in_it h.small j.small;
      })

  opens_step : IsSize (size_at zs s) → IsSoFar zs (λ t. D t ⊎ (t ≡ s)) (opened l s (size_at zs s))
  unfolding opened
  opens_step fits =
      let z = size_at zs s in
      let p = with_slave (empty_part z.unit) z in
      let k = length l.parts in
      let new : part_so_far (l.parts ++ p ∷ []) k ≡ p = get_or-append_seam l.parts p [] (empty_part 0) in
      taken zs D l _ s (record { part = k; from = 0 }) h (record {
        place = omega (arith, h.seats);
        seats = refl;
        as_many = omega (arith, length-append l.parts (p ∷ []));
        grown = λ i below. subst (Grown (part_so_far l.parts i)) (sym (get_or_append_left l.parts (p ∷ []) (empty_part 0) i below)) (same_grown _);
        there = omega (arith, length-append l.parts (p ∷ []));
        unit = ap (λ x. x.unit) new ∙ with_slave_unit (empty_part z.unit) z;
        inside = omega (arith, ap (λ x. x.bits) new, with_slave_bits (empty_part z.unit) z);
        lacks = λ e. ap (λ x. x.split) new ∙ with_slave_lacks (empty_part z.unit) z e;
        behind = λ b. absurd (omega arith);
        small = each_push IsSmall l.parts p h.small (alone_is_small z fits);
      })

  pub seated_step : IsSize (size_at zs s) → IsSoFar zs (λ t. D t ⊎ (t ≡ s)) (seated l s (size_at zs s))
  unfolding seated
  seated_step fits = elim (cases_Bool (can_join l.parts (size_at zs s))) [ inl y ↦ rw y (joins_step y) | inr n ↦ rw n (opens_step fits) ]

-- ---- the slaves of a unit, and unit by unit

abbrev pub Of : List SlaveSize → ℕ → ℕ → ℕ → Type 0
Of zs u i t = (i ≤ t) × (t < length zs) × ((size_at zs t).unit ≡ u)

pub unit_sound : (zs rs : List SlaveSize) (u i : ℕ) (l : LayoutState) (D : ℕ → Type 0) → i + length rs ≡ length zs → ((k : ℕ) → get_or rs k no_size ≡ size_at zs (i + k))
    → ((s : ℕ) → IsSize (size_at zs s)) → IsSoFar zs D l → IsSoFar zs (λ t. D t ⊎ Of zs u i t) (unit_seated u i l rs)
unit_sound zs [] u i l D n same each h = fewer zs D _ l (λ t d. elim d [ inl e ↦ e | inr w ↦ absurd (omega (arith, w.0, w.1)) ]) h
unit_sound zs (z ∷ rs) u i l D n same each h =
    let is : z ≡ size_at zs i = same 0 ∙ ap (size_at zs) (omega arith) in
    let lt : i < length zs = omega arith in
    let rest : (k : ℕ) → get_or rs k no_size ≡ size_at zs (i + 1 + k) = λ k. same (suc k) ∙ ap (size_at zs) (omega arith) in
    elim (cases_Bool (eqb z.unit u)) [
      | inl ours ↦
          let step = subst (λ x. IsSoFar zs (λ t. D t ⊎ (t ≡ i)) (seated l i x)) (sym is) (seated_step zs D l i h lt (each i)) in
          rw ours (fewer zs (λ t. (D t ⊎ (t ≡ i)) ⊎ Of zs u (i + 1) t) (λ t. D t ⊎ Of zs u i t) _ (λ t d. elim d [
            | inl e ↦ inl (inl e)
            | inr w ↦ elim (cases_eq t i) [ inl e ↦ inl (inr e) | inr ne ↦ inr (omega (arith, w.0, ne), w.1, w.2) ]
          ]) (unit_sound zs rs u (i + 1) (seated l i z) (λ t. D t ⊎ (t ≡ i)) (omega arith) rest each step))
      | inr not_ours ↦
          rw not_ours (fewer zs (λ t. D t ⊎ Of zs u (i + 1) t) (λ t. D t ⊎ Of zs u i t) _ (λ t d. elim d [
            | inl e ↦ inl e
            | inr w ↦ elim (cases_eq t i) [
              | inl e ↦
                  let it : z.unit ≡ u = ap (λ x. x.unit) is ∙ ap (λ k. (size_at zs k).unit) (sym e) ∙ w.2 in
                  let f : eqb z.unit u ≡ true = grind (arith, nat_tests, it) in absurd (false≢true (sym not_ours ∙ f))
              | inr ne ↦ inr (omega (arith, w.0, ne), w.1, w.2)
            ]
          ]) (unit_sound zs rs u (i + 1) l D (omega arith) rest each h))
    ]

abbrev pub Among : List ℕ → ℕ → Type 0
Among [] u = ⊥
Among (v ∷ us) u = (u ≡ v) ⊎ Among us u

among_left : (us vs : List ℕ) (u : ℕ) → Among us u → Among (us ++ vs) u
among_left [] vs u h = absurd h
among_left (v ∷ us) vs u h = elim h [ inl e ↦ inl e | inr w ↦ inr (among_left us vs u w) ]

among_right : (us vs : List ℕ) (u : ℕ) → Among vs u → Among (us ++ vs) u
among_right [] vs u h = h
among_right (v ∷ us) vs u h = inr (among_right us vs u h)

pub units_sound : (zs : List SlaveSize) (us : List ℕ) (l : LayoutState) (D : ℕ → Type 0) → ((s : ℕ) → IsSize (size_at zs s)) → IsSoFar zs D l
    → IsSoFar zs (λ t. D t ⊎ ((t < length zs) × Among us (size_at zs t).unit)) (units_seated zs l us)
units_sound zs [] l D each h = fewer zs D _ l (λ t d. elim d [ inl e ↦ e | inr w ↦ absurd w.1 ]) h
units_sound zs (u ∷ us) l D each h =
    let zero_add : (k : ℕ) → get_or zs k no_size ≡ size_at zs (0 + k) = λ k. ap (size_at zs) (omega arith) in
    fewer zs (λ t. (D t ⊎ Of zs u 0 t) ⊎ ((t < length zs) × Among us (size_at zs t).unit)) (λ t. D t ⊎ ((t < length zs) × Among (u ∷ us) (size_at zs t).unit)) _ (λ t d. elim d [
      | inl e ↦ inl (inl e)
      | inr w ↦ elim w.1 [ inl e ↦ inl (inr (omega arith, w.0, e)) | inr m ↦ inr (w.0, m) ]
    ]) (units_sound zs us (unit_seated u 0 l zs) (λ t. D t ⊎ Of zs u 0 t) each (unit_sound zs zs u 0 l D (omega arith) zero_add each h))

-- ---- the whole layout

among_below : (zs : List SlaveSize) (n u : ℕ) → u < n → is_unit_of zs u ≡ true → Among (units_below zs n) u
among_below zs zero u lt h = absurd (omega arith)
among_below zs (suc n) u lt h =
    let s : suc n ≡ n + 1 = omega arith in
    subst (λ us. Among us u) (sym (ap (units_below zs) s ∙ below_push zs n))
    (elim (cases_eq u n) [
      | inl same ↦ among_right (units_below zs n) (filter (is_unit_of zs) (n ∷ [])) u (let t : is_unit_of zs n ≡ true = subst (λ (k : ℕ). is_unit_of zs k ≡ true) same h in rw t (inl same))
      | inr ne ↦ among_left (units_below zs n) (filter (is_unit_of zs) (n ∷ [])) u (among_below zs n u (omega (arith, ne)) h)
    ])

unit_is_of : (zs : List SlaveSize) (t : ℕ) → t < length zs → is_unit_of zs (size_at zs t).unit ≡ true
unit_is_of [] t h = absurd (omega arith)
unit_is_of (z ∷ zs) zero h = let e : eqb z.unit z.unit ≡ true = grind (arith, nat_tests) in rw e refl
unit_is_of (z ∷ zs) (suc t) h = rw (unit_is_of zs t (omega arith)) (or_true _)

all_units : (zs : List SlaveSize) (t : ℕ) → IsSize (size_at zs t) → t < length zs → Among (units zs) (size_at zs t).unit
unfolding unit_count
all_units [] t fits h = absurd (omega arith)
all_units (z ∷ zs) t fits h = among_below (z ∷ zs) 64 _ (omega (arith, fits.unit)) (unit_is_of (z ∷ zs) t h)

some_part_sound : (zs : List SlaveSize) (D : ℕ → Type 0) (l : LayoutState) → IsSoFar zs D l → IsSoFar zs D (some_part l)
some_part_sound zs D l h =
    elim (cases_eq (length l.parts) 0) [
      | inl none ↦
          let t : eqb (length l.parts) 0 ≡ true = grind (arith, nat_tests, none) in
          rw t (record {
            seats = h.seats;
            there = λ s d. absurd (omega (arith, h.there s d));
            unit = λ s d. absurd (omega (arith, h.there s d));
            inside = λ s d. absurd (omega (arith, h.there s d));
            lacks = λ s d. absurd (omega (arith, h.there s d));
            apart = λ s t d e. absurd (omega (arith, h.there s d));
            small = each_push IsSmall [] (empty_part 0) (λ k. empty_is_small 0) (empty_is_small 0);
          })
      | inr some ↦ let t : eqb (length l.parts) 0 ≡ false = grind (arith, nat_tests, some) in rw t h
    ]

no_layout_sound : (zs : List SlaveSize) → IsSoFar zs (λ t. ⊥) (no_layout zs)
no_layout_sound zs = record {
  seats = length-map zs (λ z. no_seat);
  there = λ s d. absurd d;
  unit = λ s d. absurd d;
  inside = λ s d. absurd d;
  lacks = λ s d. absurd d;
  apart = λ s t d. absurd d;
  small = λ k. empty_is_small 0;
}

-- every slave has its seat
pub layout_sound : (zs : List SlaveSize) → ((s : ℕ) → IsSize (size_at zs s)) → IsSoFar zs (λ t. t < length zs) (layout zs)
unfolding layout
layout_sound zs each =
    some_part_sound zs _ _ (fewer zs (λ t. ⊥ ⊎ ((t < length zs) × Among (units zs) (size_at zs t).unit)) (λ t. t < length zs) _ (λ t h. inr (h, all_units zs t (each t) h)) (units_sound zs (units zs) (no_layout zs) (λ t. ⊥) each (no_layout_sound zs)))

pub layout_some : (zs : List SlaveSize) → 0 < length (layout zs).parts
unfolding layout
layout_some zs =
    let l = units_seated zs (no_layout zs) (units zs) in
    elim (cases_eq (length l.parts) 0) [
      | inl none ↦ let t : eqb (length l.parts) 0 ≡ true = grind (arith, nat_tests, none) in rw t (omega arith)
      | inr some ↦ let t : eqb (length l.parts) 0 ≡ false = grind (arith, nat_tests, some) in rw t (omega arith)
    ]
