-- Two link runs give one bit exactly where their spans share a number; and the spans of the link runs so far, in a map.
use Rattle.std.proofs.Common.{◌≡◌, ◌≢◌, ℕ, ◌+◌, ◌*◌, ◌<◌, ◌≤◌, eqb, ltb, true, false, cond, List, ◌∷◌, length, get_or, take, drop, refl, sym, ap, ◌∙◌, subst, arith, inl, inr, Some, None, get_or-take, length-take}
use Rattle.std.specs.BTreeMap.{BTreeMap, get, Updates, IsEmpty, is_at}
use Rattle.std.specs.Ordering.{nat_cmp, is_lt}
use Rattle.std.specs.declared.cmp.Ordering.TheVariants.{Less}
use Rattle.std.specs.declared.ops.Bound.TheVariants.{Excluded, Unbounded}
use Rattle.std.specs.BTreeMap.Range.{IsInRange}
use Rattle.std.specs.Option.{IsSome}
use Rattle.std.proofs.lemmas.List.{drop_more, drop_all, get_or_default}
use Rattle.std.proofs.lemmas.List.Folds.{list_any_at, list_any_none}
use Rattle.std.proofs.lemmas.Bool.{cases_Bool, cases_lt, cases_eq}
use Rattle.std.proofs.lemmas.Bool.Decides.{nat_tests}
use Rattle.ec_link.specs.declared.link_runs.LinkRun.{LinkRun}
use Rattle.ec_link.specs.LinkRuns.{is_out, runs_meet, give_one_bit, linked_twice}
use Rattle.ec_link.specs.Faults.{first_at}
use Rattle.ec_link.specs.Limits.{IsShortRun}
use Rattle.ec_link.specs.Spans.{span_from, AreApart, IsMet, IsSpanOf}
use Rattle.ec_link.proofs.Basics.{or_false}
use Rattle.ec_link.proofs.RunsOnLine.{same_meet, far_meet, far_meet_back}

out_from : (w : LinkRun) → is_out w.direction ≡ true → span_from w ≡ 262144 * w.slave + w.object_bit
out_from w h = rw h refl

in_from : (w : LinkRun) → is_out w.direction ≡ false → span_from w ≡ 262144 * w.variable + 131072 + w.variable_bit
in_from w h = rw h (omega arith)

pub span_meets : (w v : LinkRun) → IsShortRun w → IsShortRun v → give_one_bit w v ≡ runs_meet (span_from w) w.count (span_from v) v.count
span_meets w v p q =
    elim (cases_Bool (is_out w.direction)) [
      | inl wo ↦ elim (cases_Bool (is_out v.direction)) [
        | inl vo ↦ elim (cases_eq w.slave v.slave) [
          | inl same ↦
              let e : eqb w.slave v.slave ≡ true = grind (arith, nat_tests, same) in
              let l : span_from v ≡ 262144 * w.slave + v.object_bit = omega (arith, out_from v vo, same) in
              let g : give_one_bit w v ≡ runs_meet w.object_bit w.count v.object_bit v.count = rw (wo, vo, e) (or_false (runs_meet w.object_bit w.count v.object_bit v.count)) in
              g ∙ sym (same_meet w.object_bit w.count v.object_bit v.count (262144 * w.slave)) ∙ sym (ap (λ a. runs_meet a w.count (span_from v) v.count) (out_from w wo) ∙ ap (λ b. runs_meet (262144 * w.slave + w.object_bit) w.count b v.count) l)
          | inr ne ↦
              let e : eqb w.slave v.slave ≡ false = grind (arith, nat_tests, ne) in
              let g : give_one_bit w v ≡ false = rw (wo, vo, e) refl in
              elim (cases_lt w.slave v.slave) [
                | inl lt ↦ g ∙ sym (far_meet (span_from w) w.count (span_from v) v.count (omega (arith, out_from w wo, out_from v vo, p.object_bit, p.count, lt)))
                | inr ge ↦ g ∙ sym (far_meet_back (span_from w) w.count (span_from v) v.count (omega (arith, out_from w wo, out_from v vo, q.object_bit, q.count, ne, ge)))
              ]
        ]
        | inr vi ↦
            let g : give_one_bit w v ≡ false = rw (wo, vi) refl in
            elim (cases_lt v.variable w.slave) [
              | inl lt ↦ g ∙ sym (far_meet_back (span_from w) w.count (span_from v) v.count (omega (arith, out_from w wo, in_from v vi, q.variable_bit, q.count, lt)))
              | inr ge ↦ g ∙ sym (far_meet (span_from w) w.count (span_from v) v.count (omega (arith, out_from w wo, in_from v vi, p.object_bit, p.count, ge)))
            ]
      ]
      | inr wi ↦ elim (cases_Bool (is_out v.direction)) [
        | inl vo ↦
            let g : give_one_bit w v ≡ false = rw (wi, vo) refl in
            elim (cases_lt w.variable v.slave) [
              | inl lt ↦ g ∙ sym (far_meet (span_from w) w.count (span_from v) v.count (omega (arith, in_from w wi, out_from v vo, p.variable_bit, p.count, lt)))
              | inr ge ↦ g ∙ sym (far_meet_back (span_from w) w.count (span_from v) v.count (omega (arith, in_from w wi, out_from v vo, q.object_bit, q.count, ge)))
            ]
        | inr vi ↦ elim (cases_eq w.variable v.variable) [
          | inl same ↦
              let e : eqb w.variable v.variable ≡ true = grind (arith, nat_tests, same) in
              let l : span_from v ≡ 262144 * w.variable + 131072 + v.variable_bit = omega (arith, in_from v vi, same) in
              let g : give_one_bit w v ≡ runs_meet w.variable_bit w.count v.variable_bit v.count = rw (wi, vi, e) refl in
              g ∙ sym (same_meet w.variable_bit w.count v.variable_bit v.count (262144 * w.variable + 131072)) ∙ sym (ap (λ a. runs_meet a w.count (span_from v) v.count) (in_from w wi) ∙ ap (λ b. runs_meet (262144 * w.variable + 131072 + w.variable_bit) w.count b v.count) l)
          | inr ne ↦
              let e : eqb w.variable v.variable ≡ false = grind (arith, nat_tests, ne) in
              let g : give_one_bit w v ≡ false = rw (wi, vi, e) refl in
              elim (cases_lt w.variable v.variable) [
                | inl lt ↦ g ∙ sym (far_meet (span_from w) w.count (span_from v) v.count (omega (arith, in_from w wi, in_from v vi, p.variable_bit, p.count, lt)))
                | inr ge ↦ g ∙ sym (far_meet_back (span_from w) w.count (span_from v) v.count (omega (arith, in_from w wi, in_from v vi, q.variable_bit, q.count, ne, ge)))
              ]
        ]
      ]
    ]

-- ---- the loop

-- after i link runs, none of which gives a bit that an earlier one gives
pub record Spanned (ws : List LinkRun) (ends : BTreeMap ℕ ℕ) (i : ℕ) : Type 0 where
  pub apart : AreApart ends
  pub kept : (k : ℕ) (d : LinkRun) → k < i → get nat_cmp ends (span_from (get_or ws k d)) ≡ Some (span_from (get_or ws k d) + (get_or ws k d).count)
  pub only : (a b : ℕ) → get nat_cmp ends a ≡ Some b → IsSpanOf ws i a b
  pub rest : first_at (linked_twice ws) i (drop i ws) ≡ first_at (linked_twice ws) 0 ws

none_there : (m : BTreeMap ℕ ℕ) (a b : ℕ) → IsEmpty m → get nat_cmp m a ≡ Some b → ⊥
none_there m a b e h = let f = rw e at h in grind (arith, f)

pub spanned_none : (ws : List LinkRun) (ends : BTreeMap ℕ ℕ) → IsEmpty ends → Spanned ws ends 0
spanned_none ws ends e = record {
  apart = record { some = λ a b h. absurd (none_there ends a b e h); apart = λ a b c d h g lt. absurd (none_there ends a b e h) };
  kept = λ k d lt. absurd (omega arith);
  only = λ a b h. absurd (none_there ends a b e h);
  rest = refl;
}

pub spanned_all : (ws : List LinkRun) (ends : BTreeMap ℕ ℕ) (i : ℕ) → length ws ≤ i → Spanned ws ends i → first_at (linked_twice ws) 0 ws ≡ None
spanned_all ws ends i h l = sym l.rest ∙ ap (first_at (linked_twice ws) i) (drop_all i ws h)

rest_step : (ws : List LinkRun) (i : ℕ) (w : LinkRun) → drop i ws ≡ w ∷ drop (i + 1) ws → first_at (linked_twice ws) i (drop i ws) ≡ cond (linked_twice ws i w) (Some i) (first_at (linked_twice ws) (i + 1) (drop (i + 1) ws))
rest_step ws i w d = ap (first_at (linked_twice ws) i) d

here : (ws : List LinkRun) (i : ℕ) (e w : LinkRun) → i < length ws → w ≡ get_or ws i e → drop i ws ≡ w ∷ drop (i + 1) ws
here ws i e w lt is = drop_more ws i e lt ∙ ap (λ v. v ∷ drop (i + 1) ws) (sym is)

-- a link run whose span is met
pub spanned_hit : (ws : List LinkRun) (ends : BTreeMap ℕ ℕ) (i : ℕ) (e w : LinkRun) (from end : ℕ) → i < length ws → w ≡ get_or ws i e → ((k : ℕ) (d : LinkRun) → k < length ws → IsShortRun (get_or ws k d))
    → from ≡ span_from w → end ≡ from + w.count → IsMet ends from end → Spanned ws ends i → first_at (linked_twice ws) 0 ws ≡ Some i
spanned_hit ws ends i e w from end lt is short fi ei met l =
    let s : IsSpanOf ws i met.a met.b = l.only met.a met.b met.there in
    let v : LinkRun = get_or ws s.k e in
    let own : IsShortRun w = subst IsShortRun (sym is) (short i e lt) in
    let below : s.k < i = s.below in
    let at : get_or (take i ws) s.k e ≡ v = get_or-take i ws s.k e below in
    let a : met.a ≡ span_from v = s.from e in
    let b : met.b ≡ met.a + v.count = s.end e in
    let before : met.a < end = met.before in
    let past : from < met.b = met.past in
    let x : ltb (span_from w) (span_from v + v.count) ≡ true = grind (arith, nat_tests, fi, a, b, past) in
    let y : ltb (span_from v) (span_from w + w.count) ≡ true = grind (arith, nat_tests, fi, ei, a, before) in
    let one : give_one_bit w v ≡ true = span_meets w v own (short s.k e (omega (arith, below, lt))) ∙ rw (x, y) refl in
    let yes_it : linked_twice ws i w ≡ true = list_any_at (give_one_bit w) (take i ws) s.k e (omega (arith, below, lt, length-take i ws)) (ap (give_one_bit w) at ∙ one) in
    sym l.rest ∙ rest_step ws i w (here ws i e w lt is) ∙ ap (λ c. cond c (Some i) (first_at (linked_twice ws) (i + 1) (drop (i + 1) ws))) yes_it

some_is : (a b : ℕ) → Some a ≡ Some b → a ≡ b
some_is a b h = grind (arith, h)

less : (a b : ℕ) → a < b → nat_cmp a b ≡ Less
less a b lt = grind (arith, nat_tests, lt)

not_less : (a b : ℕ) → is_lt (nat_cmp a b) ≡ false → b ≤ a
not_less a b h = grind (arith, nat_tests, h)

-- the last of a range is not before another
pub last_is : (m : BTreeMap ℕ ℕ) (end q : ℕ) → ((x : ℕ) → IsInRange nat_cmp Unbounded (Excluded end) x → IsSome (get nat_cmp m x) → is_lt (nat_cmp q x) ≡ false) → (a b : ℕ) → get nat_cmp m a ≡ Some b → a < end → a ≤ q
last_is m end q h a b there lt = not_less q a (h a (tt, less a end lt) (subst IsSome (sym there) refl))

-- of a span before the last that begins before `end`, and ends at `from` or before it
pub none_past : (m : BTreeMap ℕ ℕ) (from end q e : ℕ) → AreApart m → get nat_cmp m q ≡ Some e → e ≤ from → ((a b : ℕ) → get nat_cmp m a ≡ Some b → a < end → a ≤ q) → (a b : ℕ) → get nat_cmp m a ≡ Some b → a < end → b ≤ from
none_past m from end q e p there low last a b h lt = elim (cases_lt a q) [
  | inl before ↦ let s = p.apart a b q e h there before in let t = p.some q e there in omega (arith, s, t, low)
  | inr ge ↦
      let same : a ≡ q = omega (arith, ge, last a b h lt) in
      let is : b ≡ e = some_is b e (sym h ∙ ap (get nat_cmp m) same ∙ there) in
      omega (arith, is, low)
]

-- with one entry more
put_same : (m n : BTreeMap ℕ ℕ) (from end : ℕ) → Updates nat_cmp m n from (Some end) → get nat_cmp n from ≡ Some end
put_same m n from end u = u.1

put_other : (m n : BTreeMap ℕ ℕ) (from end q : ℕ) → Updates nat_cmp m n from (Some end) → q ≢ from → get nat_cmp n q ≡ get nat_cmp m q
put_other m n from end q u ne = u.2 q (let f : is_at (nat_cmp from) q ≡ false = grind (arith, nat_tests, ne) in f)

-- what the map has now it had before, or it is the new entry
data Was (m : BTreeMap ℕ ℕ) (from end a b : ℕ) : Type 0 where
  New : a ≡ from → b ≡ end → Was m from end a b
  Old : get nat_cmp m a ≡ Some b → Was m from end a b

was : (m n : BTreeMap ℕ ℕ) (from end a b : ℕ) → Updates nat_cmp m n from (Some end) → get nat_cmp n a ≡ Some b → Was m from end a b
was m n from end a b u h = elim (cases_eq a from) [
  | inl e ↦ New e (sym (some_is end b (sym (put_same m n from end u) ∙ ap (get nat_cmp n) (sym e) ∙ h)))
  | inr ne ↦ Old (sym (put_other m n from end a u ne) ∙ h)
]

apart_more : (m n : BTreeMap ℕ ℕ) (from end : ℕ) → from < end → ((a b : ℕ) → get nat_cmp m a ≡ Some b → a < end → b ≤ from) → Updates nat_cmp m n from (Some end) → AreApart m → AreApart n
apart_more m n from end lt miss u p = record {
  some = λ a b h. elim (was m n from end a b u h) [
    | New x y ↦ omega (arith, lt, x, y)
    | Old g ↦ p.some a b g
  ];
  apart = λ a b c d h k below. elim (was m n from end a b u h) [
    | New x y ↦ elim (was m n from end c d u k) [
      | New z w ↦ absurd (omega (arith, x, z, below))
      | Old g ↦ elim (cases_lt c end) [
        | inl near ↦ absurd (let s = p.some c d g in let t = miss c d g near in omega (arith, s, t, x, below))
        | inr far ↦ omega (arith, y, far)
      ]
    ]
    | Old f ↦ elim (was m n from end c d u k) [
      | New z w ↦ let t = miss a b f (omega (arith, z, below, lt)) in omega (arith, t, z)
      | Old g ↦ p.apart a b c d f g below
    ]
  ];
}

-- and one whose span is not
pub spanned_more : (ws : List LinkRun) (ends more : BTreeMap ℕ ℕ) (i : ℕ) (e w : LinkRun) (from end : ℕ) → i < length ws → w ≡ get_or ws i e → ((k : ℕ) (d : LinkRun) → k < length ws → IsShortRun (get_or ws k d))
    → from ≡ span_from w → end ≡ from + w.count → ((a b : ℕ) → get nat_cmp ends a ≡ Some b → a < end → b ≤ from) → Updates nat_cmp ends more from (Some end) → Spanned ws ends i → Spanned ws more (i + 1)
spanned_more ws ends more i e w from end lt is short fi ei miss u l =
    let own : IsShortRun w = subst IsShortRun (sym is) (short i e lt) in
    let some : 0 < w.count = own.some in
    let grows : from < end = omega (arith, some, ei) in
    let same : (d : LinkRun) → get_or ws i d ≡ w = λ d. get_or_default ws i d e lt ∙ sym is in
    -- no earlier link run meets it
    let past : (k : ℕ) (d : LinkRun) → k < i → span_from (get_or ws k d) < end → span_from (get_or ws k d) + (get_or ws k d).count ≤ from
    = λ k d b near. miss (span_from (get_or ws k d)) (span_from (get_or ws k d) + (get_or ws k d).count) (l.kept k d b) near in
    let no : linked_twice ws i w ≡ false = list_any_none (give_one_bit w) (take i ws) (λ k d b.
    let c : k < i = omega (arith, b, length-take i ws) in
    ap (give_one_bit w) (get_or-take i ws k d c) ∙ span_meets w (get_or ws k d) own (short k d (omega (arith, c, lt))) ∙ elim (cases_lt (span_from (get_or ws k d)) end) [
      | inl near ↦ far_meet_back (span_from w) w.count (span_from (get_or ws k d)) (get_or ws k d).count (let t = past k d c near in omega (arith, t, fi))
      | inr far ↦ far_meet (span_from w) w.count (span_from (get_or ws k d)) (get_or ws k d).count (omega (arith, far, fi, ei))
    ]) in
    record {
      apart = apart_more ends more from end grows miss u l.apart;
      kept = λ k d b. elim (cases_lt k i) [
        | inl old ↦
            let ne : span_from (get_or ws k d) ≢ from = λ x. (let t = past k d old (omega (arith, x, grows)) in let s = (short k d (omega (arith, old, lt))).some in omega (arith, t, s, x)) in
            put_other ends more from end (span_from (get_or ws k d)) u ne ∙ l.kept k d old
        | inr new ↦
            let k_is : k ≡ i = omega (arith, b, new) in
            let v : get_or ws k d ≡ w = ap (λ (j : ℕ). get_or ws j d) k_is ∙ same d in
            ap (λ (x : LinkRun). get nat_cmp more (span_from x)) v ∙ ap (get nat_cmp more) (sym fi) ∙ put_same ends more from end u ∙ ap Some (ei ∙ ap (λ (n : ℕ). n + w.count) fi ∙ sym (ap (λ (x : LinkRun). span_from x + x.count) v))
      ];
      only = λ a b h. elim (was ends more from end a b u h) [
        | New x y ↦ record {
          k = i;
          below = omega arith;
          from = λ d. x ∙ fi ∙ sym (ap span_from (same d));
          end = λ d. y ∙ ei ∙ ap (λ (n : ℕ). n + w.count) (sym x) ∙ sym (ap (λ (v : LinkRun). a + v.count) (same d));
        }
        | Old g ↦ let s = l.only a b g in record { k = s.k; below = let t = s.below in omega arith; from = s.from; end = s.end }
      ];
      rest = sym (ap (λ c. cond c (Some i) (first_at (linked_twice ws) (i + 1) (drop (i + 1) ws))) no) ∙ sym (rest_step ws i w (here ws i e w lt is)) ∙ l.rest;
    }
