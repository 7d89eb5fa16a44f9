-- What setting a variable does to the values of variables.
use Rattle.std.proofs.Common.{ℕ, zero, suc, ◌+◌, ◌-◌, ◌*◌, ◌^◌, ◌/◌, ◌%◌, ◌<◌, ◌≤◌, ◌≡◌, ◌≢◌, ◌==◌, Bool, false, true, Option, Some, None, refl, sym, ◌∙◌, ap, subst, inl, inr, arith, List, [], ◌∷◌, length, unwrap_or, slice_get, nat_lt, if◌then◌else◌}
use Rattle.std.specs.Int.{bit_at}
use Rattle.std.specs.List.{AllByRecursion}
use Rattle.std.proofs.lemmas.Bool.{cases_Bool, cases_lt, and_parts, ltb-true}
use Rattle.std.proofs.lemmas.List.{get_or_past}
use Rattle.std.proofs.lemmas.Option.{slice_get_cases}
use Rattle.std.proofs.Math.Nat.{mod-eq_of_lt}
use Rattle.ec_bits.specs.Bits.{bit, overlay, within, with_number, bits_number, bytes_of_bits}
use Rattle.ec_bits.proofs.BitLaws.{bit-overlay, length-overlay}
use Rattle.ec_bits.proofs.Numbers.{same_number, bits_number-with_number}
use Rattle.ec_bits.proofs.AnyLaws.{if_false, within_parts}
use Rattle.ec_link.specs.declared.image.Variable.{Variable}
use Rattle.ec_table.specs.declared.rows.Direction.{Direction}
use Rattle.ec_table.specs.declared.rows.Direction.TheVariants.{Out, In}
use Rattle.ec_link.specs.LinkRuns.{is_out}
use Rattle.ec_link.specs.Usable.{IsUsable, IsInImage}
use Rattle.ec_link.specs.Variables.{AreApart}
use Rattle.ec_cycle.specs.Master.{MasterState, holds_value, value_at, variable_set, value_put}

-- ---- bits that an overlay leaves

bit_kept : (xs : List ℕ) (f : ℕ → Option Bool) (j : ℕ) → f j ≡ None → bit (overlay xs f) j ≡ bit xs j
unfolding bit
bit_kept xs f j none = elim (cases_lt j (8 * length xs)) [
  | inl lt ↦ bit-overlay xs f j lt ∙ ap (λ o. unwrap_or o (bit xs j)) none
  | inr ge ↦
      let e = length-overlay xs f in
      ap (λ n. bit_at n (j % 8) == 1) (get_or_past (overlay xs f) (j / 8) 0 (omega arith) ∙ sym (get_or_past xs (j / 8) 0 (omega arith)))
]

-- the number of a run that has no bit in common with one that is written
number_kept : (xs : List ℕ) (a n value b k : ℕ) → ((i j : ℕ) → i < n → j < k → a + i ≢ b + j) → bits_number (with_number xs a n value) b k ≡ bits_number xs b k
number_kept xs a n value b k apart =
    same_number (with_number xs a n value) xs b b k
    (λ i l. bit_kept xs (λ j. if within a n j then Some (bit_at value (j - a) == 1) else None) (b + i) (if_false (within a n (b + i)) _ _ (out i l)))
  where
    out : (i : ℕ) → i < k → within a n (b + i) ≡ false
    out i l = elim (cases_Bool (within a n (b + i))) [
      | inr off ↦ off
      | inl on ↦ let w = within_parts a n (b + i) on in let x = w.0 in let y = w.1 in
          absurd (apart (b + i - a) i (omega arith) l (omega arith))
    ]

-- ---- variables

out_only : (d : Direction) → is_out d ≡ true → d ≡ Out
out_only Out h = refl
out_only In h = absurd (let z : false ≡ true = h in cc)

-- an output variable whose values are so many
holds_parts : (value : ℕ) (x : Variable) → holds_value value (Some x) ≡ true → (x.direction ≡ Out) × (value < 2 ^ x.bits)
holds_parts value x h =
    let both = and_parts (is_out x.direction) (nat_lt value (2 ^ x.bits)) h in
    (out_only x.direction both.0, ltb-true value (2 ^ x.bits) both.1)

in_image : (m : MasterState) (v : ℕ) (x : Variable) (vs : List Variable) → AllByRecursion (IsInImage m.plan) vs → slice_get vs v ≡ Some x → IsInImage m.plan x
in_image m v x [] all e = absurd (let z : None ≡ Some x = e in cc)
in_image m zero x (y ∷ vs) all e = let z : Some y ≡ Some x = e in let s : y ≡ x = cc in subst (IsInImage m.plan) s all.0
in_image m (suc v) x (y ∷ vs) all e = in_image m v x vs all.1 e

pub set_reads_back : (m : MasterState) (variable value : ℕ) → IsUsable m.plan → length m.outputs ≡ bytes_of_bits m.plan.out_bits
    → holds_value value (slice_get m.plan.variables variable) ≡ true
    → value_at (variable_set m variable value) (slice_get m.plan.variables variable) ≡ value
set_reads_back m variable value sound room holds = go (slice_get m.plan.variables variable) refl holds
  where
    go : (o : Option Variable) → slice_get m.plan.variables variable ≡ o → holds_value value o ≡ true → value_at (record m { outputs = value_put m.outputs value o }) o ≡ value
    go None e h = absurd (let z : false ≡ true = h in cc)
    go (Some x) e h =
        let parts = holds_parts value x h in
        let own = in_image m variable x m.plan.variables sound.variables e in
        let end : x.from + x.bits ≤ m.plan.out_bits = subst (λ (d : Direction). x.from + x.bits ≤ (if is_out d then m.plan.out_bits else m.plan.in_bits)) parts.0 own.inside in
        ap (λ (d : Direction). bits_number (if is_out d then with_number m.outputs x.from x.bits value else m.inputs) x.from x.bits) parts.0
        ∙ (bits_number-with_number m.outputs x.from x.bits value (omega (arith, end, room)) ∙ mod-eq_of_lt parts.1)

pub set_keeps_others : (m : MasterState) (variable other value : ℕ) → AreApart m.plan.variables → other ≢ variable
    → holds_value value (slice_get m.plan.variables variable) ≡ true
    → value_at (variable_set m variable value) (slice_get m.plan.variables other) ≡ value_at m (slice_get m.plan.variables other)
set_keeps_others m variable other value apart ne holds = go (slice_get m.plan.variables variable) (slice_get m.plan.variables other) refl refl holds
  where
    kept : (x y : Variable) → slice_get m.plan.variables variable ≡ Some x → slice_get m.plan.variables other ≡ Some y → x.direction ≡ Out → (d : Direction) → y.direction ≡ d
        → bits_number (if is_out d then with_number m.outputs x.from x.bits value else m.inputs) y.from y.bits ≡ bits_number (if is_out d then m.outputs else m.inputs) y.from y.bits
    kept x y ex ey out In way = refl
    kept x y ex ey out Out way =
        number_kept m.outputs x.from x.bits value y.from y.bits
        (λ i j li lj. apart.no_common variable other x y (λ (e : variable ≡ other). ne (sym e)) ex ey (out ∙ sym way) i j li lj)

    go : (o q : Option Variable) → slice_get m.plan.variables variable ≡ o → slice_get m.plan.variables other ≡ q → holds_value value o ≡ true
        → value_at (record m { outputs = value_put m.outputs value o }) q ≡ value_at m q
    go None q ex ey h = absurd (let z : false ≡ true = h in cc)
    go (Some x) None ex ey h = refl
    go (Some x) (Some y) ex ey h = kept x y ex ey (holds_parts value x h).0 y.direction refl

-- ---- a variable that holds a value is there

pub holds_there : (vs : List Variable) (n value : ℕ) → holds_value value (slice_get vs n) ≡ true → n < length vs
holds_there vs n value h = elim (slice_get_cases vs n).1 [
  | inl a ↦ a.1
  | inr b ↦ absurd (let f : false ≡ true = sym (ap (holds_value value) b.1) ∙ h in cc)
]
