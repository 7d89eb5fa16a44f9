-- Entries by their names: the first with a name, and two with one name.
use Rattle.std.proofs.Common.{◌≡◌, ◌≢◌, ℕ, zero, suc, ◌+◌, ◌<◌, ◌≤◌, ◌==◌, ◌&&◌, ◌⊎◌, not, Bool, true, false, List, [], ◌∷◌, refl, sym, ap, ◌∙◌, subst, arith, add-one, inl, inr, Some, None, Option, option_map, slice_get, is_some}
use Rattle.std.specs.List.{list_any}
use Rattle.std.proofs.lemmas.Option.{slice_get_within}
use Rattle.std.proofs.lemmas.Map.Keys.{any_passes_from_place}
use Rattle.std.proofs.lemmas.Bool.{cases_Bool, false≢true, eqb-true, eqb-false, eq-eqb, ne_eqb, and_parts, and_from, or_cases, or_left, or_right, not-true, not_from_false}
use Rattle.ec_device.specs.declared.slave_type.Entry.{Entry}
use Rattle.ec_link.specs.declared.objects.EntryRun.{EntryRun}
use Rattle.ec_link.specs.Entries.{is_named, behind, entry_run, names_twice}
use Rattle.ec_link.specs.FaultLaw.{IsNamed}
use Rattle.ec_link.proofs.EntryLists.{run_any}

-- an element of a list that passes a test
pub record AnyAt {X : Type 0} (p : X → Bool) (xs : List X) : Type 0 where
  pub place : ℕ
  pub row : X
  pub there : slice_get xs place ≡ Some row
  pub hit : p row ≡ true

pub any_at : {X : Type 0} (p : X → Bool) (xs : List X) → list_any p xs ≡ true → AnyAt p xs
any_at p [] h = cc
any_at p (x ∷ xs) h = elim (or_cases (p x) (list_any p xs) h) [
  | inl here ↦ record { place = 0; row = x; there = refl; hit = here }
  | inr later ↦ let r = any_at p xs later in record { place = r.place + 1; row = r.row; there = rw add-one r.there; hit = r.hit }
]

-- ---- a name

named_parts : (index subindex : ℕ) (e : Entry) → is_named index subindex e ≡ true → (e.index ≡ index) × (e.subindex ≡ subindex)
named_parts index subindex e h = let both = and_parts (e.index == index) (e.subindex == subindex) h in (eqb-true e.index index both.0, eqb-true e.subindex subindex both.1)

named_from : (index subindex : ℕ) (e : Entry) → e.index ≡ index → e.subindex ≡ subindex → is_named index subindex e ≡ true
named_from index subindex e a b = and_from (e.index == index) (e.subindex == subindex) (eq-eqb e.index index a) (eq-eqb e.subindex subindex b)

-- no entry has the name
pub none_named : (es : List Entry) (index subindex : ℕ) → entry_run es index subindex ≡ None → (k : ℕ) (e : Entry) → IsNamed es index subindex k e → ⊥
none_named es index subindex h k e n =
    let some : list_any (is_named index subindex) es ≡ true = any_passes_from_place (is_named index subindex) es k e n.there (named_from index subindex e n.index_is n.subindex_is) in
    false≢true (ap is_some (sym h) ∙ run_any es index subindex ∙ some)

-- the first entry with the name
pub record FirstNamed (es : List Entry) (index subindex bits : ℕ) : Type 0 where
  pub place : ℕ
  pub entry : Entry
  pub names : IsNamed es index subindex place entry
  pub first : (k : ℕ) (e : Entry) → IsNamed es index subindex k e → place ≤ k
  pub bits_is : entry.bits ≡ bits

first_next : (e : Entry) (es : List Entry) (index subindex place : ℕ) → is_named index subindex e ≡ false → ((k : ℕ) (x : Entry) → IsNamed es index subindex k x → place ≤ k)
    → (k : ℕ) (x : Entry) → IsNamed (e ∷ es) index subindex k x → place + 1 ≤ k
first_next e es index subindex place off w zero x n =
    let is : e ≡ x = let at = n.there in cc in
    absurd (false≢true (sym off ∙ ap (is_named index subindex) is ∙ named_from index subindex x n.index_is n.subindex_is))
first_next e es index subindex place off w (suc k) x n = let le : place ≤ k = w k x (record { there = n.there; index_is = n.index_is; subindex_is = n.subindex_is }) in omega arith

-- what stands behind other bits
pub record Behind (n : ℕ) (o : Option EntryRun) (r : EntryRun) : Type 0 where
  pub run : EntryRun
  pub is : o ≡ Some run
  pub from : r.from ≡ n + run.from
  pub bits : r.bits ≡ run.bits

behind_some : (n : ℕ) (o : Option EntryRun) (r : EntryRun) → option_map (behind n) o ≡ Some r → Behind n o r
behind_some n None r h = cc
behind_some n (Some q) r h = let e : r ≡ behind n q = cc in record { run = q; is = refl; from = ap (λ (x : EntryRun). x.from) e; bits = ap (λ (x : EntryRun). x.bits) e }

pub run_found : (es : List Entry) (index subindex : ℕ) (r : EntryRun) → entry_run es index subindex ≡ Some r → FirstNamed es index subindex r.bits
run_found [] index subindex r h = cc
run_found (e ∷ es) index subindex r h = elim (cases_Bool (is_named index subindex e)) [
  | inl on ↦
      let f = rw on at h in
      let is : record { from = 0; bits = e.bits } ≡ r = cc in
      let n = named_parts index subindex e on in
      record { place = 0; entry = e; names = record { there = refl; index_is = n.0; subindex_is = n.1 }; first = λ k x m. omega arith; bits_is = ap (λ (x : EntryRun). x.bits) is }
  | inr off ↦
      let f = rw off at h in
      let b = behind_some e.bits (entry_run es index subindex) r f in
      let later = run_found es index subindex b.run b.is in
      record {
        place = later.place + 1;
        entry = later.entry;
        names = record { there = rw add-one later.names.there; index_is = later.names.index_is; subindex_is = later.names.subindex_is };
        first = first_next e es index subindex later.place off later.first;
        bits_is = later.bits_is ∙ sym b.bits;
      }
]

-- the first with a name is the one whose bits are meant
pub record RunOfFirst (es : List Entry) (index subindex : ℕ) (e : Entry) : Type 0 where
  pub run : EntryRun
  pub is : entry_run es index subindex ≡ Some run
  pub bits : run.bits ≡ e.bits

run_of_first : (es : List Entry) (index subindex place : ℕ) (e : Entry) → IsNamed es index subindex place e → ((k : ℕ) (x : Entry) → IsNamed es index subindex k x → place ≤ k) → (o : Option EntryRun) → entry_run es index subindex ≡ o → RunOfFirst es index subindex e
run_of_first es index subindex place e n first None is = absurd (none_named es index subindex is place e n)
run_of_first es index subindex place e n first (Some r) is =
    let f = run_found es index subindex r is in
    let a : place ≤ f.place = first f.place f.entry f.names in
    let b : f.place ≤ place = f.first place e n in
    let same : f.place ≡ place = omega arith in
    let at : slice_get es place ≡ Some f.entry = subst (λ k. slice_get es k ≡ Some f.entry) same f.names.there in
    let one : f.entry ≡ e = let there = n.there in cc in
    record { run = r; is = is; bits = sym f.bits_is ∙ ap (λ (x : Entry). x.bits) one }

pub first_run : (es : List Entry) (index subindex place : ℕ) (e : Entry) → IsNamed es index subindex place e → ((k : ℕ) (x : Entry) → IsNamed es index subindex k x → place ≤ k) → RunOfFirst es index subindex e
first_run es index subindex place e n first = run_of_first es index subindex place e n first (entry_run es index subindex) refl

-- ---- two names have no bit in common

apart_first : (e : Entry) (es : List Entry) (index subindex : ℕ) (r q : EntryRun) → Some (record { from = 0; bits = e.bits }) ≡ Some r → option_map (behind e.bits) (entry_run es index subindex) ≡ Some q → r.from + r.bits ≤ q.from
apart_first e es index subindex r q h g =
    let is : record { from = 0; bits = e.bits } ≡ r = cc in
    let b = behind_some e.bits (entry_run es index subindex) q g in
    omega (arith, ap (λ (x : EntryRun). x.from) is, ap (λ (x : EntryRun). x.bits) is, b.from)

pub runs_apart : (es : List Entry) (i s j u : ℕ) (r q : EntryRun) → entry_run es i s ≡ Some r → entry_run es j u ≡ Some q → ((i ≡ j) × (s ≡ u) → ⊥) → (r.from + r.bits ≤ q.from) ⊎ (q.from + q.bits ≤ r.from)
runs_apart [] i s j u r q h g ne = cc
runs_apart (e ∷ es) i s j u r q h g ne = elim (cases_Bool (is_named i s e)) [
  | inl on ↦ elim (cases_Bool (is_named j u e)) [
    | inl too ↦ let a = named_parts i s e on in let b = named_parts j u e too in absurd (ne (sym a.0 ∙ b.0, sym a.1 ∙ b.1))
    | inr off ↦ let f = rw on at h in let k = rw off at g in inl (apart_first e es j u r q f k)
  ]
  | inr not_on ↦ elim (cases_Bool (is_named j u e)) [
    | inl too ↦ let f = rw not_on at h in let k = rw too at g in inr (apart_first e es i s q r k f)
    | inr off ↦
        let f = rw not_on at h in
        let k = rw off at g in
        let a = behind_some e.bits (entry_run es i s) r f in
        let b = behind_some e.bits (entry_run es j u) q k in
        elim (runs_apart es i s j u a.run b.run a.is b.is ne) [
          | inl x ↦ inl (omega (arith, a.from, a.bits, b.from, b.bits))
          | inr x ↦ inr (omega (arith, a.from, a.bits, b.from, b.bits))
        ]
  ]
]

-- ---- a name twice

pub record Twice (es : List Entry) : Type 0 where
  pub first : ℕ
  pub second : ℕ
  pub before : first < second
  pub one : Entry
  pub two : Entry
  pub there : slice_get es first ≡ Some one
  pub there_too : slice_get es second ≡ Some two
  pub no_gap : one.index ≢ 0
  pub index : one.index ≡ two.index
  pub subindex : one.subindex ≡ two.subindex

pub twice_found : (es : List Entry) → names_twice es ≡ true → Twice es
twice_found [] h = cc
twice_found (e ∷ es) h = elim (or_cases (not (e.index == 0) && list_any (is_named e.index e.subindex) es) (names_twice es) h) [
  | inl here ↦
      let both = and_parts (not (e.index == 0)) (list_any (is_named e.index e.subindex) es) here in
      let r = any_at (is_named e.index e.subindex) es both.1 in
      let n = named_parts e.index e.subindex r.row r.hit in
      record {
        first = 0;
        second = r.place + 1;
        before = omega arith;
        one = e;
        two = r.row;
        there = refl;
        there_too = rw add-one r.there;
        no_gap = eqb-false e.index 0 (not-true (e.index == 0) both.0);
        index = sym n.0;
        subindex = sym n.1;
      }
  | inr later ↦
      let r = twice_found es later in
      record {
        first = r.first + 1;
        second = r.second + 1;
        before = omega (arith, r.before);
        one = r.one;
        two = r.two;
        there = rw add-one r.there;
        there_too = rw add-one r.there_too;
        no_gap = r.no_gap;
        index = r.index;
        subindex = r.subindex;
      }
]

pub twice_from : (es : List Entry) (i j : ℕ) (a b : Entry) → i < j → slice_get es i ≡ Some a → slice_get es j ≡ Some b → a.index ≢ 0 → a.index ≡ b.index → a.subindex ≡ b.subindex → names_twice es ≡ true
twice_from [] i j a b lt x y ne k l = absurd (omega (arith, slice_get_within [] i a x))
twice_from (e ∷ es) i zero a b lt x y ne k l = absurd (omega arith)
twice_from (e ∷ es) zero (suc j) a b lt x y ne k l =
    let is : a ≡ e = cc in
    let here : slice_get es j ≡ Some b = y in
    let gap : not (e.index == 0) ≡ true = not_from_false (e.index == 0) (ne_eqb e.index 0 (λ z. ne (ap (λ (w : Entry). w.index) is ∙ z))) in
    let some : list_any (is_named e.index e.subindex) es ≡ true =
    any_passes_from_place (is_named e.index e.subindex) es j b here (named_from e.index e.subindex b (sym k ∙ ap (λ (w : Entry). w.index) is) (sym l ∙ ap (λ (w : Entry). w.subindex) is)) in
    or_left (not (e.index == 0) && list_any (is_named e.index e.subindex) es) (names_twice es) (and_from (not (e.index == 0)) (list_any (is_named e.index e.subindex) es) gap some)
twice_from (e ∷ es) (suc i) (suc j) a b lt x y ne k l =
    or_right (not (e.index == 0) && list_any (is_named e.index e.subindex) es) (names_twice es) (twice_from es i j a b (omega arith) x y ne k l)
