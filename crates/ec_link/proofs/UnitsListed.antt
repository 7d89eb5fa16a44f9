-- The units of a table's plan: each unit of the table once.
use Rattle.std.proofs.Common.{ℕ, zero, suc, ◌+◌, ◌<◌, ◌≤◌, ◌≡◌, ◌≢◌, ◌==◌, Bool, true, false, refl, sym, ◌∙◌, ap, subst, inl, inr, arith, List, [], ◌∷◌, length, filter, get_or, slice_get}
use Rattle.std.specs.List.{range_with_len, Contains}
use Rattle.std.specs.Option.{option_map_or}
use Rattle.std.proofs.lemmas.Bool.{cases_Bool, cases_eq, cases_lt, or_left, or_right, or_cases, eq-eqb, eqb-true}
use Rattle.std.proofs.lemmas.Option.{slice_get-get_or}
use Rattle.ec_table.specs.declared.rows.SlaveRow.{SlaveRow}
use Rattle.ec_table.specs.Contents.{Contents}
use Rattle.ec_link.specs.Layout.{is_unit_of, units_below, unit_count, units}
use Rattle.ec_link.specs.Sizes.{each_from, size_of, table_sizes}
use Rattle.ec_link.specs.Plan.{plan_of}
use Rattle.ec_link.specs.Interface.{unit_of, PlansListTheUnits}
use Rattle.ec_link.proofs.PlanLists.{no_row}
use Rattle.ec_link.proofs.UsableLaws.{plan_units}

true_false : true ≡ false → ⊥
true_false e = cc

-- ---- a filtered range

abbrev kept : (ℕ → Bool) → ℕ → ℕ → List ℕ
kept p a n = filter p (range_with_len a n)

kept_in : (p : ℕ → Bool) (a n : ℕ) → p a ≡ true → kept p a (suc n) ≡ a ∷ kept p (a + 1) n
kept_in p a n on = rw on refl

kept_out : (p : ℕ → Bool) (a n : ℕ) → p a ≡ false → kept p a (suc n) ≡ kept p (a + 1) n
kept_out p a n off = rw off refl

-- what it has is from a on, and passes the test
record Kept (p : ℕ → Bool) (a x : ℕ) : Type 0 where
  pub from : a ≤ x
  pub passes : p x ≡ true

later : (p : ℕ → Bool) (a x : ℕ) → Kept p (a + 1) x → Kept p a x
later p a x k = record { from = let y = k.from in omega (arith, y); passes = k.passes }

first_each : (p : ℕ → Bool) (a : ℕ) (xs : List ℕ) → p a ≡ true → ((j : ℕ) → j < length xs → Kept p (a + 1) (get_or xs j 0)) → (j : ℕ) → j < length (a ∷ xs) → Kept p a (get_or (a ∷ xs) j 0)
first_each p a xs on each zero l = record { from = omega arith; passes = on }
first_each p a xs on each (suc j) l = later p a _ (each j (omega (arith, l)))

kept_each : (p : ℕ → Bool) (a n i : ℕ) → i < length (kept p a n) → Kept p a (get_or (kept p a n) i 0)
kept_each p a zero i l = absurd (omega (arith, l))
kept_each p a (suc n) i l = elim (cases_Bool (p a)) [
  | inl on ↦ subst (λ (xs : List ℕ). Kept p a (get_or xs i 0)) (sym (kept_in p a n on)) (first_each p a (kept p (a + 1) n) on (λ j k. kept_each p (a + 1) n j k) i (subst (λ (xs : List ℕ). i < length xs) (kept_in p a n on) l))
  | inr off ↦ subst (λ (xs : List ℕ). Kept p a (get_or xs i 0)) (sym (kept_out p a n off)) (later p a _ (kept_each p (a + 1) n i (subst (λ (xs : List ℕ). i < length xs) (kept_out p a n off) l)))
]

first_once : (p : ℕ → Bool) (a : ℕ) (xs : List ℕ) → ((j : ℕ) → j < length xs → Kept p (a + 1) (get_or xs j 0)) → ((i j : ℕ) → i < length xs → j < length xs → get_or xs i 0 ≡ get_or xs j 0 → i ≡ j)
    → (i j : ℕ) → i < length (a ∷ xs) → j < length (a ∷ xs) → get_or (a ∷ xs) i 0 ≡ get_or (a ∷ xs) j 0 → i ≡ j
first_once p a xs each once zero zero l k e = refl
first_once p a xs each once zero (suc j) l k e = absurd (let x = (each j (omega (arith, k))).from in omega (arith, x, e))
first_once p a xs each once (suc i) zero l k e = absurd (let x = (each i (omega (arith, l))).from in omega (arith, x, e))
first_once p a xs each once (suc i) (suc j) l k e = ap (λ (x : ℕ). suc x) (once i j (omega (arith, l)) (omega (arith, k)) e)

kept_once : (p : ℕ → Bool) (a n i j : ℕ) → i < length (kept p a n) → j < length (kept p a n) → get_or (kept p a n) i 0 ≡ get_or (kept p a n) j 0 → i ≡ j
kept_once p a zero i j l k e = absurd (omega (arith, l))
kept_once p a (suc n) i j l k e = elim (cases_Bool (p a)) [
  | inl on ↦ (
      let is = kept_in p a n on in
      first_once p a (kept p (a + 1) n) (λ x y. kept_each p (a + 1) n x y) (λ x y f g h. kept_once p (a + 1) n x y f g h) i j (subst (λ (xs : List ℕ). i < length xs) is l) (subst (λ (xs : List ℕ). j < length xs) is k) (subst (λ (xs : List ℕ). get_or xs i 0 ≡ get_or xs j 0) is e))
  | inr off ↦ (
      let is = kept_out p a n off in
      kept_once p (a + 1) n i j (subst (λ (xs : List ℕ). i < length xs) is l) (subst (λ (xs : List ℕ). j < length xs) is k) (subst (λ (xs : List ℕ). get_or xs i 0 ≡ get_or xs j 0) is e))
]

first_has : (p : ℕ → Bool) (a x : ℕ) (xs : List ℕ) → (a ≢ x → Contains xs x) → Contains (a ∷ xs) x
first_has p a x xs has = elim (cases_eq a x) [
  | inl same ↦ (0, omega arith, same)
  | inr ne ↦ (let more = has ne in (suc more.0, (let l = more.1 in omega (arith, l)), more.2))
]

kept_has : (p : ℕ → Bool) (a n x : ℕ) → a ≤ x → x < a + n → p x ≡ true → Contains (kept p a n) x
kept_has p a zero x low high on = absurd (omega (arith, low, high))
kept_has p a (suc n) x low high on = elim (cases_Bool (p a)) [
  | inl here ↦ subst (λ (xs : List ℕ). Contains xs x) (sym (kept_in p a n here)) (first_has p a x (kept p (a + 1) n) (λ ne. kept_has p (a + 1) n x (omega (arith, low, ne)) (omega (arith, high)) on))
  | inr off ↦ subst (λ (xs : List ℕ). Contains xs x) (sym (kept_out p a n off)) (kept_has p (a + 1) n x (above off) (omega (arith, high)) on)
]
  where
    above : p a ≡ false → a + 1 ≤ x
    above off = elim (cases_eq a x) [
      | inl same ↦ absurd (true_false (sym on ∙ (ap p (sym same) ∙ off)))
      | inr ne ↦ omega (arith, low, ne)
    ]

-- ---- the units of rows

row_has : (t : Contents) (n : ℕ) (rows : List SlaveRow) (s : ℕ) → s < length rows → is_unit_of (each_from (size_of t) n rows) (option_map_or (λ (r : SlaveRow). r.unit) (slice_get rows s) 0) ≡ true
row_has t n [] s l = absurd (omega (arith, l))
row_has t n (r ∷ rows) zero l = or_left (r.unit == r.unit) _ (eq-eqb r.unit r.unit refl)
row_has t n (r ∷ rows) (suc s) l = or_right (r.unit == option_map_or (λ (x : SlaveRow). x.unit) (slice_get rows s) 0) _ (row_has t (n + 1) rows s (omega (arith, l)))

row_of : (t : Contents) (n : ℕ) (rows : List SlaveRow) (u : ℕ) → is_unit_of (each_from (size_of t) n rows) u ≡ true → (s : ℕ) × (s < length rows) × (option_map_or (λ (r : SlaveRow). r.unit) (slice_get rows s) 0 ≡ u)
row_of t n [] u e = absurd (true_false (sym e))
row_of t n (r ∷ rows) u e = elim (or_cases (r.unit == u) (is_unit_of (each_from (size_of t) (n + 1) rows) u) e) [
  | inl here ↦ (0, omega arith, eqb-true r.unit u here)
  | inr more ↦ (let x = row_of t (n + 1) rows u more in (suc x.0, (let l = x.1 in omega (arith, l)), x.2))
]

-- ---- the plan's

units_are : (t : Contents) (rows : List SlaveRow) → 0 < length rows → units (each_from (size_of t) 0 rows) ≡ kept (is_unit_of (each_from (size_of t) 0 rows)) 0 64
unfolding units_below unit_count
units_are t [] l = absurd (omega (arith, l))
units_are t (r ∷ rows) l = refl

units_none : (t : Contents) (rows : List SlaveRow) → length rows ≡ 0 → units (each_from (size_of t) 0 rows) ≡ 0 ∷ []
units_none t [] e = refl
units_none t (r ∷ rows) e = absurd (omega (arith, e))

pub lists_units : PlansListTheUnits
lists_units t fine = record {
  each = λ s l. subst (λ (us : List ℕ). Contains us (unit_of t s)) (sym (some (omega (arith, l)))) (kept_has test 0 64 (unit_of t s) (omega arith) (let x = low s l in omega (arith, x)) (row_has t 0 t.slaves s l));
  once = λ i j l k e. elim (cases_lt 0 (length t.slaves)) [
    | inl has ↦ (
        let is = some has in
        kept_once test 0 64 i j (subst (λ (us : List ℕ). i < length us) is l) (subst (λ (us : List ℕ). j < length us) is k) (subst (λ (us : List ℕ). get_or us i 0 ≡ get_or us j 0) is e))
    | inr free ↦ (
        let is = ap (λ (us : List ℕ). length us) (none (omega (arith, free))) in
        omega (arith, l, k, is))
  ];
  only = λ has i l.
      let is = some has in
      let x = kept_each test 0 64 i (subst (λ (us : List ℕ). i < length us) is l) in
      subst (λ (us : List ℕ). (s : ℕ) × (s < length t.slaves) × (unit_of t s ≡ get_or us i 0)) (sym is) (row_of t 0 t.slaves (get_or (kept test 0 64) i 0) x.passes);
  zero_alone = none;
}
  where
    test : ℕ → Bool
    test = is_unit_of (table_sizes t)

    some : 0 < length t.slaves → (plan_of t).units ≡ kept test 0 64
    some has = plan_units t ∙ units_are t t.slaves has

    none : length t.slaves ≡ 0 → (plan_of t).units ≡ 0 ∷ []
    none free = plan_units t ∙ units_none t t.slaves free

    low : (s : ℕ) → s < length t.slaves → unit_of t s ≤ 63
    low s l =
        let there : slice_get t.slaves s ≡ _ = slice_get-get_or t.slaves s no_row l in
        let e : unit_of t s ≡ (get_or t.slaves s no_row).unit = ap (λ o. option_map_or (λ (r : SlaveRow). r.unit) o 0) there in
        let x = (fine.slaves.each s no_row l).unit in
        omega (arith, e, x)
