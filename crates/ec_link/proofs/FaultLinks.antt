-- The faults of links, each as its test finds it.
use Rattle.std.proofs.Common.{◌≡◌, ℕ, zero, suc, ◌+◌, ◌-◌, ◌<◌, ◌≤◌, ◌==◌, ◌&&◌, ◌||◌, ◌⊎◌, not, true, false, List, [], ◌∷◌, take, nat_lt, refl, sym, ap, ◌∙◌, subst, arith, inl, inr, Some, None, Option, option_map, slice_get, is_some, is_none}
use Rattle.std.proofs.lemmas.Option.{slice_get-map, slice_get_within, get_or_from_slice_get}
use Rattle.std.proofs.lemmas.Map.Keys.{any_passes_from_place}
use Rattle.std.proofs.lemmas.Bool.{cases_Bool, cases_eq, false≢true, eqb-true, eq-eqb, ltb-true, lt-ltb, and_parts, and_from, or_cases, or_left, or_right}
use Rattle.ec_bits.proofs.AnyLaws.{within_true, within_parts}
use Rattle.ec_device.specs.declared.slave_type.Entry.{Entry}
use Rattle.ec_table.specs.declared.rows.Direction.{Direction}
use Rattle.ec_table.specs.declared.rows.Direction.TheVariants.{Out, In}
use Rattle.ec_table.specs.declared.rows.LinkRow.{LinkRow}
use Rattle.ec_table.specs.Contents.{Contents}
use Rattle.ec_table.specs.Objects.{entries_of}
use Rattle.ec_table.specs.Sound as table
use Rattle.ec_link.specs.declared.objects.EntryRun.{EntryRun}
use Rattle.ec_link.specs.declared.link_runs.LinkRun.{LinkRun}
use Rattle.ec_link.specs.declared.fault.LinkFault.TheVariants.{NoEntry, OutsideEntry}
use Rattle.ec_link.specs.Entries.{entry_run}
use Rattle.ec_link.specs.LinkRuns.{is_out, other, direction_of, variable_bits, run_toward, run_of, run_from, run_bits, link_run_of, table_link_runs, runs_meet, give_one_bit, linked_twice}
use Rattle.ec_link.specs.Faults.{wrong_direction, no_entry, outside_entry}
use Rattle.ec_link.specs.FaultLaw.{HasEntry, IsOutsideEntry, GiveOneOutput, GiveOneInput}
use Rattle.ec_link.proofs.FaultSteps.{Clean, Tells}
use Rattle.ec_link.proofs.FaultNames.{any_at, none_named, run_found, first_run, runs_apart}
use Rattle.ec_link.proofs.LinksFit.{LinkFits, fits_from}
use Rattle.ec_link.proofs.RunsOnLine.{Share, Apart, meets}

-- ---- there or not

has_of : (t : Contents) (d : Direction) (l : LinkRow) (o : Option EntryRun) → run_toward t d l ≡ o → is_some o ≡ true → HasEntry t d l
has_of t d l None is h = cc
has_of t d l (Some r) is h = let f = run_found (entries_of t l.slave d) l.index l.subindex r is in record { place = f.place; entry = f.entry; names = f.names }

not_of : (t : Contents) (d : Direction) (l : LinkRow) (o : Option EntryRun) → run_toward t d l ≡ o → is_none o ≡ true → HasEntry t d l → ⊥
not_of t d l None is h e = none_named (entries_of t l.slave d) l.index l.subindex is e.place e.entry e.names
not_of t d l (Some r) is h e = cc

some_of : (t : Contents) (d : Direction) (l : LinkRow) → HasEntry t d l → (o : Option EntryRun) → run_toward t d l ≡ o → is_some o ≡ true
some_of t d l e None is = absurd (none_named (entries_of t l.slave d) l.index l.subindex is e.place e.entry e.names)
some_of t d l e (Some r) is = refl

none_of : (t : Contents) (d : Direction) (l : LinkRow) → (HasEntry t d l → ⊥) → (o : Option EntryRun) → run_toward t d l ≡ o → is_none o ≡ true
none_of t d l off None is = refl
none_of t d l off (Some r) is = absurd (off (has_of t d l (Some r) is refl))

pub wrong_tells : (t : Contents) → Tells t 16 t.links (λ n l. wrong_direction t l)
unfolding run_of
wrong_tells t = record {
  is = λ clean k l there h.
      let both = and_parts (is_none (run_toward t (direction_of t l) l)) (is_some (run_toward t (other (direction_of t l)) l)) h in
      record {
        row = l;
        there = there;
        has = record {
          there = has_of t (other (direction_of t l)) l (run_toward t (other (direction_of t l)) l) refl both.1;
          not_here = not_of t (direction_of t l) l (run_toward t (direction_of t l) l) refl both.0;
        };
      };
  was = λ clean k at. record {
    row = at.row;
    there = at.there;
    hit = and_from (is_none (run_toward t (direction_of t at.row) at.row)) (is_some (run_toward t (other (direction_of t at.row)) at.row))
        (none_of t (direction_of t at.row) at.row at.has.not_here (run_toward t (direction_of t at.row) at.row) refl)
        (some_of t (other (direction_of t at.row)) at.row at.has.there (run_toward t (other (direction_of t at.row)) at.row) refl);
  };
}

pub no_entry_tells : (t : Contents) → Tells t 17 t.links (λ n l. no_entry t l)
unfolding run_of
no_entry_tells t = record {
  is = λ clean k l there h. record { row = l; there = there; has = record { not_here = not_of t (direction_of t l) l (run_toward t (direction_of t l) l) refl h } };
  was = λ clean k at. record { row = at.row; there = at.there; hit = none_of t (direction_of t at.row) at.row at.has.not_here (run_toward t (direction_of t at.row) at.row) refl };
}

-- ---- past the entry

-- where each link has its entry
entry_there : (t : Contents) (n : ℕ) → 17 < n → Clean t n → (k : ℕ) (l : LinkRow) → slice_get t.links k ≡ Some l → no_entry t l ≡ false
unfolding run_of
entry_there t n le clean k l there = elim (cases_Bool (no_entry t l)) [
  | inl off ↦ absurd (clean.none (NoEntry k) (record { row = l; there = there; has = record { not_here = not_of t (direction_of t l) l (run_toward t (direction_of t l) l) refl off } }) le)
  | inr on ↦ on
]

outside_is : (t : Contents) (l : LinkRow) (o : Option EntryRun) → run_toward t (direction_of t l) l ≡ o → is_none o ≡ false
    → (nat_lt (run_bits o) (l.bits.entry_bit + l.bits.count) || nat_lt (variable_bits t l) (l.bits.variable_bit + l.bits.count)) ≡ true → IsOutsideEntry t l
outside_is t l None is off h = cc
outside_is t l (Some r) is off h =
    let f = run_found (entries_of t l.slave (direction_of t l)) l.index l.subindex r is in
    let bits : f.entry.bits ≡ r.bits = f.bits_is in
    record {
      place = f.place;
      entry = f.entry;
      names = f.names;
      first = f.first;
      past = elim (or_cases (nat_lt r.bits (l.bits.entry_bit + l.bits.count)) (nat_lt (variable_bits t l) (l.bits.variable_bit + l.bits.count)) h) [
        | inl entry ↦ inl (omega (arith, bits, ltb-true r.bits (l.bits.entry_bit + l.bits.count) entry))
        | inr variable ↦ inr (ltb-true (variable_bits t l) (l.bits.variable_bit + l.bits.count) variable)
      ];
    }

outside_was : (t : Contents) (l : LinkRow) → IsOutsideEntry t l → outside_entry t l ≡ true
unfolding run_of
outside_was t l o =
    let f = first_run (entries_of t l.slave (direction_of t l)) l.index l.subindex o.place o.entry o.names o.first in
    let bits : run_bits (run_toward t (direction_of t l) l) ≡ o.entry.bits = ap run_bits f.is ∙ f.bits in
    elim o.past [
      | inl entry ↦ or_left (nat_lt (run_bits (run_toward t (direction_of t l) l)) (l.bits.entry_bit + l.bits.count)) (nat_lt (variable_bits t l) (l.bits.variable_bit + l.bits.count)) (lt-ltb (run_bits (run_toward t (direction_of t l) l)) (l.bits.entry_bit + l.bits.count) (omega (arith, bits, entry)))
      | inr variable ↦ or_right (nat_lt (run_bits (run_toward t (direction_of t l) l)) (l.bits.entry_bit + l.bits.count)) (nat_lt (variable_bits t l) (l.bits.variable_bit + l.bits.count)) (lt-ltb (variable_bits t l) (l.bits.variable_bit + l.bits.count) variable)
    ]

pub outside_tells : (t : Contents) → Tells t 18 t.links (λ n l. outside_entry t l)
unfolding run_of
outside_tells t = record {
  is = λ clean k l there h. record { row = l; there = there; has = outside_is t l (run_toward t (direction_of t l) l) refl (entry_there t 18 (omega arith) clean k l there) h };
  was = λ clean k at. record { row = at.row; there = at.there; hit = outside_was t at.row at.has };
}

pub fits_at : (t : Contents) → Clean t 19 → (k : ℕ) (l : LinkRow) → slice_get t.links k ≡ Some l → LinkFits t l
unfolding run_of
fits_at t clean k l there =
    let here = entry_there t 19 (omega arith) clean k l there in
    elim (cases_Bool (outside_entry t l)) [
      | inl off ↦ absurd (clean.none (OutsideEntry k) (record { row = l; there = there; has = outside_is t l (run_toward t (direction_of t l) l) refl here off }) (omega arith))
      | inr on ↦ fits_from t l (run_of t l) refl here on
    ]

-- ---- linked twice

take_there : {X : Type 0} (k : ℕ) (xs : List X) (j : ℕ) (x : X) → slice_get (take k xs) j ≡ Some x → (j < k) × (slice_get xs j ≡ Some x)
take_there zero xs j x h = absurd (omega (arith, slice_get_within [] j x h))
take_there (suc k) [] j x h = absurd (omega (arith, slice_get_within [] j x h))
take_there (suc k) (y ∷ xs) zero x h = (omega arith, h)
take_there (suc k) (y ∷ xs) (suc j) x h = let r = take_there k xs j x h in let lt : j < k = r.0 in (omega arith, r.1)

take_from : {X : Type 0} (k : ℕ) (xs : List X) (j : ℕ) (x : X) → j < k → slice_get xs j ≡ Some x → slice_get (take k xs) j ≡ Some x
take_from zero xs j x lt h = absurd (omega arith)
take_from (suc k) [] j x lt h = absurd (omega (arith, slice_get_within [] j x h))
take_from (suc k) (y ∷ xs) zero x lt h = h
take_from (suc k) (y ∷ xs) (suc j) x lt h = take_from k xs j x (omega arith) h

-- the link of a link run
record LinkOf (t : Contents) (k : ℕ) (w : LinkRun) : Type 0 where
  link : LinkRow
  there : slice_get t.links k ≡ Some link
  is : w ≡ link_run_of t link

map_some : (t : Contents) (k : ℕ) (w : LinkRun) (o : Option LinkRow) → slice_get t.links k ≡ o → option_map (link_run_of t) o ≡ Some w → LinkOf t k w
map_some t k w None at h = cc
map_some t k w (Some l) at h = let e : w ≡ link_run_of t l = cc in record { link = l; there = at; is = e }

link_of_run : (t : Contents) (k : ℕ) (w : LinkRun) → slice_get (table_link_runs t) k ≡ Some w → LinkOf t k w
link_of_run t k w h = map_some t k w (slice_get t.links k) refl (sym (slice_get-map (link_run_of t) t.links k) ∙ h)

link_run_there : (t : Contents) (k : ℕ) (l : LinkRow) → slice_get t.links k ≡ Some l → slice_get (table_link_runs t) k ≡ Some (link_run_of t l)
link_run_there t k l h = slice_get-map (link_run_of t) t.links k ∙ ap (option_map (link_run_of t)) h

out_of : (d : Direction) → is_out d ≡ true → d ≡ Out
out_of Out h = refl
out_of In h = cc

in_of : (d : Direction) → not (is_out d) ≡ true → d ≡ In
in_of Out h = cc
in_of In h = refl

-- two runs that share a number
record Shared (a n b m : ℕ) : Type 0 where
  x : ℕ
  low : a ≤ x
  high : x < a + n
  low_too : b ≤ x
  high_too : x < b + m

shared : (a n b m : ℕ) → 0 < n → 0 < m → runs_meet a n b m ≡ true → Shared a n b m
shared a n b m some some_too h = elim (meets a n b m some some_too) [
  | Share x p q r s t ↦ record { x = x; low = p; high = q; low_too = r; high_too = s }
  | Apart f t ↦ absurd (false≢true (sym t ∙ h))
]

runs_share : (a n b m x : ℕ) → a ≤ x → x < a + n → b ≤ x → x < b + m → runs_meet a n b m ≡ true
runs_share a n b m x p q r s = and_from (nat_lt a (b + m)) (nat_lt b (a + n)) (lt-ltb a (b + m) (omega arith)) (lt-ltb b (a + n) (omega arith))

-- the bits of two entries of one name are the same, and those of two names have none in common
one_name : (es : List Entry) (k l : LinkRow) (r q : EntryRun) → entry_run es k.index k.subindex ≡ Some r → entry_run es l.index l.subindex ≡ Some q → (x : ℕ) → r.from ≤ x → x < r.from + r.bits → q.from ≤ x → x < q.from + q.bits
    → ((k.index ≡ l.index) × (k.subindex ≡ l.subindex)) × (r.from ≡ q.from)
one_name es k l r q h g x a b c d = elim (cases_eq k.index l.index) [
  | inl index ↦ elim (cases_eq k.subindex l.subindex) [
    | inl subindex ↦
        let same : entry_run es k.index k.subindex ≡ entry_run es l.index l.subindex = ap (λ i. entry_run es i k.subindex) index ∙ ap (entry_run es l.index) subindex in
        let one : r ≡ q = cc in
        ((index, subindex), ap (λ (y : EntryRun). y.from) one)
    | inr off ↦ absurd (elim (runs_apart es k.index k.subindex l.index l.subindex r q h g (λ e. off e.1)) [ inl y ↦ omega arith | inr y ↦ omega arith ])
  ]
  | inr off ↦ absurd (elim (runs_apart es k.index k.subindex l.index l.subindex r q h g (λ e. off e.0)) [ inl y ↦ omega arith | inr y ↦ omega arith ])
]

-- the run of a link toward a direction, among the entries of a slave that is its own
run_among : (t : Contents) (l : LinkRow) (s : ℕ) (d : Direction) (r : EntryRun) → run_of t l ≡ Some r → direction_of t l ≡ d → l.slave ≡ s → entry_run (entries_of t s d) l.index l.subindex ≡ Some r
unfolding run_of
run_among t l s d r is way slave = subst (λ n. entry_run (entries_of t n d) l.index l.subindex ≡ Some r) slave (subst (λ e. entry_run (entries_of t l.slave e) l.index l.subindex ≡ Some r) way is)

output_is : (t : Contents) (k l : LinkRow) → LinkFits t k → LinkFits t l → 0 < k.bits.count → 0 < l.bits.count → direction_of t k ≡ Out → direction_of t l ≡ Out → k.slave ≡ l.slave
    → runs_meet (link_run_of t k).object_bit k.bits.count (link_run_of t l).object_bit l.bits.count ≡ true → GiveOneOutput t k l
unfolding link_run_of
output_is t k l f g some some_too way way_too slave h =
    let a : run_from (run_of t k) ≡ f.run.from = ap run_from f.is in
    let b : run_from (run_of t l) ≡ g.run.from = ap run_from g.is in
    let m = shared (run_from (run_of t k) + k.bits.entry_bit) k.bits.count (run_from (run_of t l) + l.bits.entry_bit) l.bits.count some some_too h in
    let name = one_name (entries_of t l.slave Out) k l f.run g.run (run_among t k l.slave Out f.run f.is way slave) (run_among t l l.slave Out g.run g.is way_too refl) m.x
    (omega (arith, a, m.low)) (omega (arith, a, m.high, f.entry)) (omega (arith, b, m.low_too)) (omega (arith, b, m.high_too, g.entry)) in
    let same : f.run.from ≡ g.run.from = name.1 in
    record {
      out = way;
      out_too = way_too;
      slave = slave;
      index = name.0.0;
      subindex = name.0.1;
      bit = m.x - f.run.from;
      here = within_true k.bits.entry_bit k.bits.count (m.x - f.run.from) (omega (arith, a, m.low)) (omega (arith, a, m.low, m.high));
      there = within_true l.bits.entry_bit l.bits.count (m.x - f.run.from) (omega (arith, b, same, m.low_too)) (omega (arith, b, same, m.low_too, m.high_too));
    }

input_is : (t : Contents) (k l : LinkRow) → 0 < k.bits.count → 0 < l.bits.count → direction_of t k ≡ In → direction_of t l ≡ In → k.variable ≡ l.variable
    → runs_meet k.bits.variable_bit k.bits.count l.bits.variable_bit l.bits.count ≡ true → GiveOneInput t k l
input_is t k l some some_too way way_too variable h =
    let m = shared k.bits.variable_bit k.bits.count l.bits.variable_bit l.bits.count some some_too h in
    record {
      ins = way;
      ins_too = way_too;
      variable = variable;
      bit = m.x;
      here = within_true k.bits.variable_bit k.bits.count m.x m.low m.high;
      there = within_true l.bits.variable_bit l.bits.count m.x m.low_too m.high_too;
    }

one_bit_is : (t : Contents) (k l : LinkRow) → LinkFits t k → LinkFits t l → 0 < k.bits.count → 0 < l.bits.count → give_one_bit (link_run_of t k) (link_run_of t l) ≡ true → GiveOneOutput t k l ⊎ GiveOneInput t k l
unfolding link_run_of
one_bit_is t k l f g some some_too h =
    let object = runs_meet (link_run_of t k).object_bit k.bits.count (link_run_of t l).object_bit l.bits.count in
    let bits = runs_meet k.bits.variable_bit k.bits.count l.bits.variable_bit l.bits.count in
    elim (or_cases ((is_out (direction_of t k) && is_out (direction_of t l)) && ((k.slave == l.slave) && object)) ((not (is_out (direction_of t k)) && not (is_out (direction_of t l))) && ((k.variable == l.variable) && bits)) h) [
      | inl out ↦
          let parts = and_parts (is_out (direction_of t k) && is_out (direction_of t l)) ((k.slave == l.slave) && object) out in
          let ways = and_parts (is_out (direction_of t k)) (is_out (direction_of t l)) parts.0 in
          let rest = and_parts (k.slave == l.slave) object parts.1 in
          inl (output_is t k l f g some some_too (out_of (direction_of t k) ways.0) (out_of (direction_of t l) ways.1) (eqb-true k.slave l.slave rest.0) rest.1)
      | inr ins ↦
          let parts = and_parts (not (is_out (direction_of t k)) && not (is_out (direction_of t l))) ((k.variable == l.variable) && bits) ins in
          let ways = and_parts (not (is_out (direction_of t k))) (not (is_out (direction_of t l))) parts.0 in
          let rest = and_parts (k.variable == l.variable) bits parts.1 in
          inr (input_is t k l some some_too (in_of (direction_of t k) ways.0) (in_of (direction_of t l) ways.1) (eqb-true k.variable l.variable rest.0) rest.1)
    ]

same_run : (t : Contents) (k l : LinkRow) → GiveOneOutput t k l → run_of t k ≡ run_of t l
unfolding run_of
same_run t k l g =
    ap (λ d. entry_run (entries_of t k.slave d) k.index k.subindex) (g.out ∙ sym g.out_too)
    ∙ ap (λ s. entry_run (entries_of t s (direction_of t l)) k.index k.subindex) g.slave
    ∙ ap (λ i. entry_run (entries_of t l.slave (direction_of t l)) i k.subindex) g.index
    ∙ ap (entry_run (entries_of t l.slave (direction_of t l)) l.index) g.subindex

output_was : (t : Contents) (k l : LinkRow) → GiveOneOutput t k l → give_one_bit (link_run_of t k) (link_run_of t l) ≡ true
unfolding link_run_of
output_was t k l g =
    let p = within_parts k.bits.entry_bit k.bits.count g.bit g.here in
    let q = within_parts l.bits.entry_bit l.bits.count g.bit g.there in
    let from : run_from (run_of t k) ≡ run_from (run_of t l) = ap run_from (same_run t k l g) in
    let meet = runs_share (run_from (run_of t k) + k.bits.entry_bit) k.bits.count (run_from (run_of t l) + l.bits.entry_bit) l.bits.count (run_from (run_of t k) + g.bit)
    (omega (arith, p.0)) (omega (arith, p.1)) (omega (arith, q.0, from)) (omega (arith, q.1, from)) in
    or_left _ _ (and_from _ _ (and_from _ _ (ap is_out g.out) (ap is_out g.out_too)) (and_from _ _ (eq-eqb k.slave l.slave g.slave) meet))

input_was : (t : Contents) (k l : LinkRow) → GiveOneInput t k l → give_one_bit (link_run_of t k) (link_run_of t l) ≡ true
unfolding link_run_of
input_was t k l g =
    let p = within_parts k.bits.variable_bit k.bits.count g.bit g.here in
    let q = within_parts l.bits.variable_bit l.bits.count g.bit g.there in
    let meet = runs_share k.bits.variable_bit k.bits.count l.bits.variable_bit l.bits.count g.bit p.0 p.1 q.0 q.1 in
    or_right _ _ (and_from _ _ (and_from _ _ (ap (λ d. not (is_out d)) g.ins) (ap (λ d. not (is_out d)) g.ins_too)) (and_from _ _ (eq-eqb k.variable l.variable g.variable) meet))

some_bits : (t : Contents) → table.IsSound t → (k : ℕ) (l : LinkRow) → slice_get t.links k ≡ Some l → 0 < l.bits.count
some_bits t sound k l at =
    let lt = slice_get_within t.links k l at in
    let link : table.IsLink t.slaves t.variables l = subst (table.IsLink t.slaves t.variables) (get_or_from_slice_get t.links k l l at) (sound.links k l lt) in
    omega (arith, link.bits.least)

pub linked_tells : (t : Contents) → table.IsSound t → Tells t 19 (table_link_runs t) (linked_twice (table_link_runs t))
linked_tells t sound = record {
  is = λ clean k w there h.
      let own = link_of_run t k w there in
      let any = any_at (give_one_bit w) (take k (table_link_runs t)) h in
      let at = take_there k (table_link_runs t) any.place any.row any.there in
      let its = link_of_run t any.place any.row at.1 in
      let gives : give_one_bit (link_run_of t own.link) (link_run_of t its.link) ≡ true = ap (λ v. give_one_bit v (link_run_of t its.link)) (sym own.is) ∙ ap (give_one_bit w) (sym its.is) ∙ any.hit in
      record {
        row = own.link;
        there = own.there;
        has = record {
          earlier = any.place;
          before = at.0;
          other_link = its.link;
          there = its.there;
          one_bit = one_bit_is t own.link its.link (fits_at t clean k own.link own.there) (fits_at t clean any.place its.link its.there) (some_bits t sound k own.link own.there) (some_bits t sound any.place its.link its.there) gives;
        };
      };
  was = λ clean k at.
      let s = at.has in
      let gives : give_one_bit (link_run_of t at.row) (link_run_of t s.other_link) ≡ true = elim s.one_bit [ inl out ↦ output_was t at.row s.other_link out | inr ins ↦ input_was t at.row s.other_link ins ] in
      record {
        row = link_run_of t at.row;
        there = link_run_there t k at.row at.there;
        hit = any_passes_from_place (give_one_bit (link_run_of t at.row)) (take k (table_link_runs t)) s.earlier (link_run_of t s.other_link) (take_from k (table_link_runs t) s.earlier (link_run_of t s.other_link) s.before (link_run_there t s.earlier s.other_link s.there)) gives;
      };
}
