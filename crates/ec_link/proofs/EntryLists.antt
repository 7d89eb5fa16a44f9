-- One entry more in the map of the entries' bits.
use Rattle.std.proofs.Common.{◌≡◌, ◌≢◌, ℕ, ◌+◌, ◌*◌, ◌≤◌, ◌||◌, ◌&&◌, not, eqb, Bool, true, false, cond, List, [], ◌∷◌, ◌++◌, refl, sym, ap, ◌∙◌, arith, inl, inr, Some, None, Option, option_map}
use Rattle.std.specs.Prelude.{is_some}
use Rattle.std.specs.List.{list_any}
use Rattle.std.specs.BTreeMap.{BTreeMap, get, Updates, IsEmpty, is_at}
use Rattle.std.specs.Ordering.{nat_cmp}
use Rattle.std.proofs.lemmas.Bool.{cases_Bool, cases_eq}
use Rattle.std.proofs.lemmas.Bool.Decides.{nat_tests}
use Rattle.std.proofs.lemmas.List.Sums.{sum_by-cons}
use Rattle.ec_device.specs.declared.slave_type.Entry.{Entry}
use Rattle.ec_device.specs.Objects.{bits_of}
use Rattle.ec_link.specs.declared.objects.EntryRun.{EntryRun}
use Rattle.ec_link.specs.Entries.{is_named, behind, entry_run, names_twice}
use Rattle.ec_link.specs.Objects.{entry_key, HasRuns}
use Rattle.ec_link.specs.Faults.{◌orelse◌}
use Rattle.ec_link.proofs.Basics.{or_false}

-- the bits of an entry behind others, if it has the name
abbrev last_run : List Entry → Entry → ℕ → ℕ → Option EntryRun
last_run es e index subindex = cond (is_named index subindex e) (Some (record { from = bits_of es; bits = e.bits })) None

behind_orelse : (n : ℕ) (o p : Option EntryRun) → option_map (behind n) (o orelse p) ≡ option_map (behind n) o orelse option_map (behind n) p
behind_orelse n None p = refl
behind_orelse n (Some r) p = refl

behind_last : (x : Entry) (xs : List Entry) (e : Entry) (index subindex : ℕ) → option_map (behind x.bits) (last_run xs e index subindex) ≡ last_run (x ∷ xs) e index subindex
behind_last x xs e index subindex = elim (cases_Bool (is_named index subindex e)) [
  | inr n ↦ rw n refl
  | inl y ↦ rw y (ap (λ (k : ℕ). Some (record { from = k; bits = e.bits })) (sym (sum_by-cons (λ (a : Entry). a.bits) x xs)))
]

pub run_more : (es : List Entry) (e : Entry) (index subindex : ℕ) → entry_run (es ++ e ∷ []) index subindex ≡ entry_run es index subindex orelse last_run es e index subindex
run_more [] e index subindex = elim (cases_Bool (is_named index subindex e)) [ inl y ↦ rw y refl | inr n ↦ rw n refl ]
run_more (x ∷ xs) e index subindex = elim (cases_Bool (is_named index subindex x)) [
  | inl y ↦ rw y refl
  | inr n ↦ rw n (ap (option_map (behind x.bits)) (run_more xs e index subindex) ∙ behind_orelse x.bits (entry_run xs index subindex) (last_run xs e index subindex) ∙ ap (λ o. option_map (behind x.bits) (entry_run xs index subindex) orelse o) (behind_last x xs e index subindex))
]

-- an entry is found where one has the name
some_behind : (n : ℕ) (o : Option EntryRun) → is_some (option_map (behind n) o) ≡ is_some o
some_behind n None = refl
some_behind n (Some r) = refl

pub run_any : (es : List Entry) (index subindex : ℕ) → is_some (entry_run es index subindex) ≡ list_any (is_named index subindex) es
run_any [] index subindex = refl
run_any (x ∷ xs) index subindex = elim (cases_Bool (is_named index subindex x)) [
  | inl y ↦ rw y refl
  | inr n ↦ rw n (some_behind x.bits (entry_run xs index subindex) ∙ run_any xs index subindex)
]

-- ---- twice

any_more : (es : List Entry) (e : Entry) (index subindex : ℕ) → list_any (is_named index subindex) (es ++ e ∷ []) ≡ (is_named index subindex e || list_any (is_named index subindex) es)
any_more [] e index subindex = refl
any_more (x ∷ xs) e index subindex = elim (cases_Bool (is_named index subindex x)) [
  | inr n ↦ rw n (any_more xs e index subindex)
  | inl y ↦ elim (cases_Bool (is_named index subindex e)) [ inl z ↦ rw (y, z) refl | inr z ↦ rw (y, z) refl ]
]

eq_turned : (a b : ℕ) → eqb a b ≡ eqb b a
eq_turned a b = elim (cases_eq a b) [
  | inl e ↦ let p : eqb a b ≡ true = grind (arith, nat_tests, e) in let q : eqb b a ≡ true = grind (arith, nat_tests, e) in p ∙ sym q
  | inr n ↦ let p : eqb a b ≡ false = grind (arith, nat_tests, n) in let q : eqb b a ≡ false = grind (arith, nat_tests, n) in p ∙ sym q
]

named_turned : (x e : Entry) → (not (eqb x.index 0) && is_named x.index x.subindex e) ≡ (not (eqb e.index 0) && is_named e.index e.subindex x)
named_turned x e = elim (cases_eq x.index e.index) [
  | inl i ↦ rw (i, eq_turned e.subindex x.subindex) refl
  | inr n ↦
      let p : eqb e.index x.index ≡ false = grind (arith, nat_tests, n) in
      let q : eqb x.index e.index ≡ false = grind (arith, nat_tests, n) in
      elim (cases_Bool (eqb x.index 0)) [
        | inl a ↦ elim (cases_Bool (eqb e.index 0)) [ inl b ↦ rw (p, q, a, b) refl | inr b ↦ rw (p, q, a, b) refl ]
        | inr a ↦ elim (cases_Bool (eqb e.index 0)) [ inl b ↦ rw (p, q, a, b) refl | inr b ↦ rw (p, q, a, b) refl ]
      ]
]

distributed : (g n a : Bool) → (g && (n || a)) ≡ ((g && n) || (g && a))
distributed true n a = refl
distributed false n a = refl

or_true : (a b : Bool) → ((a || b) || true) ≡ true
or_true true b = refl
or_true false true = refl
or_true false false = refl

four : (p q w r : Bool) → ((p || q) || (w || r)) ≡ ((q || w) || (p || r))
four true q w r = sym (or_true q w)
four false true w r = refl
four false false w r = refl

-- g: x is no gap; h: e is none; n: e has x's name; m: x has e's; a: x's name is among the rest; b: e's is; w: some name stands twice there
regrouped : (g h n m a b w : Bool) → (g && n) ≡ (h && m) → ((g && (n || a)) || (w || (h && b))) ≡ (((g && a) || w) || (h && (m || b)))
regrouped g h n m a b w e = rw (distributed g n a, distributed h m b, e) (four (h && m) (g && a) w (h && b))

pub twice_more : (es : List Entry) (e : Entry) → names_twice (es ++ e ∷ []) ≡ (names_twice es || (not (eqb e.index 0) && list_any (is_named e.index e.subindex) es))
twice_more [] e = elim (cases_Bool (eqb e.index 0)) [ inl y ↦ rw y refl | inr n ↦ rw n refl ]
twice_more (x ∷ xs) e =
    rw (any_more xs e x.index x.subindex, twice_more xs e)
    (regrouped (not (eqb x.index 0)) (not (eqb e.index 0)) (is_named x.index x.subindex e) (is_named e.index e.subindex x) (list_any (is_named x.index x.subindex) xs) (list_any (is_named e.index e.subindex) xs) (names_twice xs) (named_turned x e))

-- ---- the map

apart : (k q : ℕ) → k ≢ q → is_at (nat_cmp k) q ≡ false
apart k q ne = grind (arith, nat_tests, ne)

pub no_runs : (m : BTreeMap ℕ EntryRun) → IsEmpty m → HasRuns m []
no_runs m e = record { each = λ index subindex low. rw e refl }

same_key : (index subindex j k : ℕ) → subindex ≤ 255 → k ≤ 255 → entry_key j k ≡ entry_key index subindex → (j ≡ index) × (k ≡ subindex)
same_key index subindex j k low small e = (omega arith, omega arith)

not_named : (e : Entry) (index subindex : ℕ) → subindex ≤ 255 → e.subindex ≤ 255 → entry_key e.index e.subindex ≢ entry_key index subindex → is_named index subindex e ≡ false
not_named e index subindex low small ne = elim (cases_eq e.index index) [
  | inr n ↦ let p : eqb e.index index ≡ false = grind (arith, nat_tests, n) in rw p refl
  | inl i ↦ elim (cases_eq e.subindex subindex) [
    | inr n ↦ let p : eqb e.subindex subindex ≡ false = grind (arith, nat_tests, n) in let q : eqb e.index index ≡ true = grind (arith, nat_tests, i) in rw (q, p) refl
    | inl s ↦ absurd (ne (ap (λ (x : ℕ). 256 * x + e.subindex) i ∙ ap (λ (x : ℕ). 256 * index + x) s))
  ]
]

is_named_itself : (e : Entry) → is_named e.index e.subindex e ≡ true
is_named_itself e = let p : eqb e.index e.index ≡ true = grind (arith, nat_tests) in let q : eqb e.subindex e.subindex ≡ true = grind (arith, nat_tests) in rw (p, q) refl

orelse_some : (o p : Option EntryRun) → is_some o ≡ true → o orelse p ≡ o
orelse_some (Some r) p h = refl
orelse_some None p h = cc

orelse_none : (o : Option EntryRun) → o orelse None ≡ o
orelse_none (Some r) = refl
orelse_none None = refl

-- an entry whose name is known changes nothing
pub runs_stay : (m : BTreeMap ℕ EntryRun) (es : List Entry) (e : Entry) → HasRuns m es → e.subindex ≤ 255 → is_some (get nat_cmp m (entry_key e.index e.subindex)) ≡ true → HasRuns m (es ++ e ∷ [])
runs_stay m es e h small some = record {
  each = λ index subindex low. h.each index subindex low ∙ sym (run_more es e index subindex ∙ elim (cases_eq (entry_key e.index e.subindex) (entry_key index subindex)) [
    | inr ne ↦ rw (not_named e index subindex low small ne) (orelse_none (entry_run es index subindex))
    | inl is ↦ orelse_some (entry_run es index subindex) (last_run es e index subindex) (ap is_some (sym (h.each index subindex low) ∙ ap (get nat_cmp m) (sym is)) ∙ some)
  ]);
}

-- an entry whose name is known takes the place of the first one, and gives it back
pub runs_kept : (m a b : BTreeMap ℕ EntryRun) (es : List Entry) (e : Entry) (r f : EntryRun) → HasRuns m es → e.subindex ≤ 255 → get nat_cmp m (entry_key e.index e.subindex) ≡ Some f
    → Updates nat_cmp m a (entry_key e.index e.subindex) (Some r) → Updates nat_cmp a b (entry_key e.index e.subindex) (Some f) → HasRuns b (es ++ e ∷ [])
runs_kept m a b es e r f h small is u v = record {
  each = λ index subindex low.
      let k : ℕ = entry_key e.index e.subindex in
      let q : ℕ = entry_key index subindex in
      let same : get nat_cmp b q ≡ get nat_cmp m q = elim (cases_eq k q) [
        | inl here ↦ ap (get nat_cmp b) (sym here) ∙ v.1 ∙ sym is ∙ ap (get nat_cmp m) here
        | inr ne ↦ v.2 q (apart k q ne) ∙ u.2 q (apart k q ne)
      ] in
      same ∙ (runs_stay m es e h small (ap is_some is)).each index subindex low;
}

none_of : (o : Option EntryRun) → is_some o ≡ false → o ≡ None
none_of None h = refl
none_of (Some r) h = cc

-- an entry with a new name has its bits behind the others
pub runs_grow : (m n : BTreeMap ℕ EntryRun) (es : List Entry) (e : Entry) (r : EntryRun) → HasRuns m es → e.subindex ≤ 255 → is_some (get nat_cmp m (entry_key e.index e.subindex)) ≡ false
    → r ≡ record { from = bits_of es; bits = e.bits } → Updates nat_cmp m n (entry_key e.index e.subindex) (Some r) → HasRuns n (es ++ e ∷ [])
runs_grow m n es e r h small new is u = record {
  each = λ index subindex low. elim (cases_eq (entry_key e.index e.subindex) (entry_key index subindex)) [
    | inr ne ↦
        u.2 (entry_key index subindex) (apart (entry_key e.index e.subindex) (entry_key index subindex) ne) ∙ h.each index subindex low
        ∙ sym (run_more es e index subindex ∙ rw (not_named e index subindex low small ne) (orelse_none (entry_run es index subindex)))
    | inl same ↦
        let names = same_key index subindex e.index e.subindex low small same in
        let here : entry_run es index subindex ≡ None = sym (h.each index subindex low) ∙ ap (get nat_cmp m) (sym same) ∙ none_of (get nat_cmp m (entry_key e.index e.subindex)) new in
        let named : is_named index subindex e ≡ true = ap (λ (i : ℕ). is_named i subindex e) (sym names.0) ∙ ap (λ (s : ℕ). is_named e.index s e) (sym names.1) ∙ is_named_itself e in
        ap (get nat_cmp n) (sym same) ∙ u.1 ∙ ap Some is ∙ sym (run_more es e index subindex ∙ rw (here, named) refl)
  ];
}

-- ---- the test

any_is : (m : BTreeMap ℕ EntryRun) (es : List Entry) (e : Entry) → HasRuns m es → e.subindex ≤ 255 → list_any (is_named e.index e.subindex) es ≡ is_some (get nat_cmp m (entry_key e.index e.subindex))
any_is m es e h small = sym (run_any es e.index e.subindex) ∙ ap is_some (sym (h.each e.index e.subindex small))

and_true : (a : Bool) → (a && true) ≡ a
and_true true = refl
and_true false = refl

and_false : (a : Bool) → (a && false) ≡ false
and_false true = refl
and_false false = refl

pub twice_known : (m : BTreeMap ℕ EntryRun) (es : List Entry) (e : Entry) (before : Bool) → HasRuns m es → e.subindex ≤ 255 → is_some (get nat_cmp m (entry_key e.index e.subindex)) ≡ true → before ≡ names_twice es
    → (before || not (eqb e.index 0)) ≡ names_twice (es ++ e ∷ [])
twice_known m es e before h small some is = ap (λ (b : Bool). b || not (eqb e.index 0)) is ∙ sym (twice_more es e ∙ rw (any_is m es e h small ∙ some, and_true (not (eqb e.index 0))) refl)

pub twice_new : (m : BTreeMap ℕ EntryRun) (es : List Entry) (e : Entry) (before : Bool) → HasRuns m es → e.subindex ≤ 255 → is_some (get nat_cmp m (entry_key e.index e.subindex)) ≡ false → before ≡ names_twice es
    → before ≡ names_twice (es ++ e ∷ [])
twice_new m es e before h small none is = is ∙ sym (twice_more es e ∙ rw (any_is m es e h small ∙ none, and_false (not (eqb e.index 0))) (or_false (names_twice es)))
