-- Of the way of one FMMU: which bytes its pairs touch.
use Rattle.std.proofs.Common.{ℕ, ◌+◌, ◌-◌, ◌*◌, ◌/◌, ◌%◌, ◌<◌, ◌≤◌, ◌≡◌, ◌==◌, List, [], length, get_or, true, false, Option, Some, None, is_some, refl, sym, ◌∙◌, ap, subst, inl, inr, arith}
use Rattle.std.proofs.lemmas.Bool.{cases_Bool, cases_eq, cases_lt, both_ways, eq-eqb, eqb-true}
use Rattle.ec_bits.specs.Bits.{within}
use Rattle.ec_bits.proofs.AnyLaws.{if_true, if_false, any_below_from, any_below_none, any_below_some, within_true, within_parts}
use Rattle.ec_regs.specs.declared.fmmu.FmmuSettings.{FmmuSettings}
use Rattle.ec_regs.specs.Fmmus.{no_fmmu}
use Rattle.ec_fmmu.specs.declared.run.Run.{Run}
use Rattle.ec_fmmu.specs.declared.modes.Mode.{Mode}
use Rattle.ec_fmmu.specs.declared.modes.Mode.TheVariants.{Closed, Alone, Shared}
use Rattle.ec_fmmu.specs.Alone.{run_mapped, run_unmapped}
use Rattle.ec_fmmu.specs.Applied.{LogicalSpan, leads_into, inside_span, data_bit_for, touched_by_reading, touched_by_writing}
use Rattle.ec_fmmu.specs.Pairs.{Pair, mapped, unmapped}
use Rattle.ec_fmmu.specs.Sets.{target, source, readers, writers}
use Rattle.ec_fmmu.specs.Modes.{IsReadMode, IsWriteMode, IsModeInRam, is_closed, is_shared, run_touches, mode_touches}
use Rattle.ec_fmmu.proofs.PairLaws.{none_or_some, none_is_not_some, pair_from_mapped, pair_from_unmapped, mapped_from_pair, unmapped_from_pair, pair_reaches, pair_reaches_physical}
use Rattle.ec_fmmu.proofs.RangeLaws.{reading_pair}
use Rattle.ec_fmmu.proofs.AloneLaws.{alone_target}
use Rattle.ec_fmmu.proofs.AloneWriting.{alone_source, writing_pair}

-- ---- runs

pub run_touched : (r : Run) (from bits a l : ℕ) → from ≤ l → l < from + bits → r.logical ≤ l → l < r.logical + r.count
    → (r.physical + (l - r.logical)) / 8 ≡ a → run_touches r (record { from = from; bits = bits }) a ≡ true
run_touched r from bits a l low high first end e =
    let q : ℕ = r.physical + (l - r.logical) in
    let z : from + (l - from) ≡ l = omega arith in
    any_below_from bits (λ i. leads_into (run_mapped r.logical r.physical r.count (from + i)) a) (l - from) (omega arith)
    (ap (λ (n : ℕ). leads_into (run_mapped r.logical r.physical r.count n) a) z
    ∙ (ap (λ (o : Option ℕ). leads_into o a) (if_true (within r.logical r.count l) (Some q) None (within_true r.logical r.count l first end))
    ∙ eq-eqb (q / 8) a e))

pub run_untouched : (r : Run) (from bits a : ℕ)
    → ((l : ℕ) → from ≤ l → l < from + bits → r.logical ≤ l → l < r.logical + r.count → (r.physical + (l - r.logical)) / 8 ≡ a → ⊥)
    → run_touches r (record { from = from; bits = bits }) a ≡ false
run_untouched r from bits a h = any_below_none bits (λ i. leads_into (run_mapped r.logical r.physical r.count (from + i)) a) (λ i l.
    let q : ℕ = r.physical + (from + i - r.logical) in
    elim (cases_Bool (within r.logical r.count (from + i))) [
      | inl t ↦
          let w = within_parts r.logical r.count (from + i) t in
          ap (λ (o : Option ℕ). leads_into o a) (if_true (within r.logical r.count (from + i)) (Some q) None t)
          ∙ (elim (cases_Bool (q / 8 == a)) [
            | inl y ↦ absurd (h (from + i) (omega arith) (omega arith) w.0 w.1 (eqb-true (q / 8) a y))
            | inr n ↦ n
          ])
      | inr f ↦ ap (λ (o : Option ℕ). leads_into o a) (if_false (within r.logical r.count (from + i)) (Some q) None f)
    ])

-- what a run that is touched leads there
touching_bit : (r : Run) (p : LogicalSpan) (a : ℕ) → run_touches r p a ≡ true
    → (l : ℕ) × (within p.from p.bits l ≡ true) × (within r.logical r.count l ≡ true) × ((r.physical + (l - r.logical)) / 8 ≡ a)
touching_bit r p a h =
    let s = any_below_some p.bits (λ i. leads_into (run_mapped r.logical r.physical r.count (p.from + i)) a) h in
    let l : ℕ = p.from + s.0 in
    let few : s.0 < p.bits = s.1 in
    elim (cases_Bool (within r.logical r.count l)) [
      | inl t ↦ (
        l,
        within_true p.from p.bits l (omega arith) (omega arith),
        t,
        eqb-true ((r.physical + (l - r.logical)) / 8) a (sym (ap (λ (o : Option ℕ). leads_into o a) (if_true (within r.logical r.count l) (Some (r.physical + (l - r.logical))) None t)) ∙ s.2),
      )
      | inr f ↦ absurd (both_ways (leads_into (run_mapped r.logical r.physical r.count l) a)
          (ap (λ (o : Option ℕ). leads_into o a) (if_false (within r.logical r.count l) (Some (r.physical + (l - r.logical))) None f)) s.2)
    ]

-- ---- ways

pub read_mode_inside : (fs : List FmmuSettings) (k : ℕ) (w : Mode) → IsReadMode fs k w → IsModeInRam w
read_mode_inside fs k Closed h = tt
read_mode_inside fs k (Alone r) h = h.inside
read_mode_inside fs k Shared h = tt

pub write_mode_inside : (fs : List FmmuSettings) (k : ℕ) (w : Mode) → IsWriteMode fs k w → IsModeInRam w
write_mode_inside fs k Closed h = tt
write_mode_inside fs k (Alone r) h = h.inside
write_mode_inside fs k Shared h = tt

-- an FMMU whose way is closed doesn't go there
pub closed_reads : (fs : List FmmuSettings) (k : ℕ) (w : Mode) → IsReadMode fs k w → is_closed w ≡ true → (get_or fs k no_fmmu).reads ≡ false
closed_reads fs k Closed h e = h
closed_reads fs k (Alone r) h e = absurd (both_ways false refl e)
closed_reads fs k Shared h e = absurd (both_ways false refl e)

pub closed_writes : (fs : List FmmuSettings) (k : ℕ) (w : Mode) → IsWriteMode fs k w → is_closed w ≡ true → (get_or fs k no_fmmu).writes ≡ false
closed_writes fs k Closed h e = h
closed_writes fs k (Alone r) h e = absurd (both_ways false refl e)
closed_writes fs k Shared h e = absurd (both_ways false refl e)

-- no pair of FMMU k that reads leads a data bit into a byte
abbrev pub ReadsNothing : List FmmuSettings → LogicalSpan → ℕ → ℕ → Type 0
ReadsNothing fs p a k = (get_or fs k no_fmmu).reads ≡ true → (l q : ℕ) → Pair (get_or fs k no_fmmu) l q → within p.from p.bits l ≡ true → q / 8 ≡ a → ⊥

abbrev pub WritesNothing : List FmmuSettings → LogicalSpan → ℕ → ℕ → Type 0
WritesNothing fs p a k = (get_or fs k no_fmmu).writes ≡ true → (l q : ℕ) → Pair (get_or fs k no_fmmu) l q → within p.from p.bits l ≡ true → q / 8 ≡ a → ⊥

-- a pair of the run's FMMU is one of the run
run_pair : (r : Run) (p : LogicalSpan) (a l q : ℕ) → run_mapped r.logical r.physical r.count l ≡ Some q → within p.from p.bits l ≡ true → q / 8 ≡ a
    → run_touches r p a ≡ false → ⊥
run_pair r p a l q m t e miss =
    let w = within_parts p.from p.bits l t in
    let low : p.from ≤ l = w.0 in
    let high : l < p.from + p.bits = w.1 in
    elim (cases_Bool (within r.logical r.count l)) [
      | inl i ↦
          let v = within_parts r.logical r.count l i in
          let same : Some (r.physical + (l - r.logical)) ≡ Some q = sym (if_true (within r.logical r.count l) (Some (r.physical + (l - r.logical))) None i) ∙ m in
          let is : r.physical + (l - r.logical) ≡ q = cc in
          both_ways (run_touches r p a) miss (run_touched r p.from p.bits a l low high v.0 v.1 (ap (λ (n : ℕ). n / 8) is ∙ e))
      | inr f ↦ none_is_not_some (run_mapped r.logical r.physical r.count l) q (if_false (within r.logical r.count l) (Some (r.physical + (l - r.logical))) None f) m
    ]

pub mode_reads_nothing : (fs : List FmmuSettings) (p : LogicalSpan) (a k : ℕ) (w : Mode) → IsReadMode fs k w → is_shared w ≡ false → mode_touches w p a ≡ false → ReadsNothing fs p a k
mode_reads_nothing fs p a k Closed h s t = λ reads l q pair inside at. both_ways (get_or fs k no_fmmu).reads h reads
mode_reads_nothing fs p a k (Alone r) h s t = λ reads l q pair inside at.
    run_pair r p a l q (sym (h.pairs l) ∙ mapped_from_pair (get_or fs k no_fmmu) l q pair) inside at t
mode_reads_nothing fs p a k Shared h s t = absurd (both_ways true s refl)

run_back : (r : Run) (l q : ℕ) → run_unmapped r.logical r.physical r.count q ≡ Some l → run_mapped r.logical r.physical r.count l ≡ Some q
run_back r l q u = elim (cases_Bool (within r.physical r.count q)) [
  | inl t ↦
      let w = within_parts r.physical r.count q t in
      let low : r.physical ≤ q = w.0 in
      let high : q < r.physical + r.count = w.1 in
      let same : Some (r.logical + (q - r.physical)) ≡ Some l = sym (if_true (within r.physical r.count q) (Some (r.logical + (q - r.physical))) None t) ∙ u in
      let is : r.logical + (q - r.physical) ≡ l = cc in
      let back : r.physical + (l - r.logical) ≡ q = omega arith in
      if_true (within r.logical r.count l) (Some (r.physical + (l - r.logical))) None (within_true r.logical r.count l (omega arith) (omega arith))
      ∙ ap (λ (n : ℕ). Some n) back
  | inr f ↦ absurd (none_is_not_some (run_unmapped r.logical r.physical r.count q) l (if_false (within r.physical r.count q) (Some (r.logical + (q - r.physical))) None f) u)
]

pub mode_writes_nothing : (fs : List FmmuSettings) (p : LogicalSpan) (a k : ℕ) (w : Mode) → IsWriteMode fs k w → is_shared w ≡ false → mode_touches w p a ≡ false → WritesNothing fs p a k
mode_writes_nothing fs p a k Closed h s t = λ writes l q pair inside at. both_ways (get_or fs k no_fmmu).writes h writes
mode_writes_nothing fs p a k (Alone r) h s t = λ writes l q pair inside at.
    run_pair r p a l q (run_back r l q (sym (h.pairs q) ∙ unmapped_from_pair (get_or fs k no_fmmu) l q pair)) inside at t
mode_writes_nothing fs p a k Shared h s t = absurd (both_ways true s refl)

-- a way that touches the byte: the datagram does
pub mode_reads : (fs : List FmmuSettings) (p : LogicalSpan) (a k : ℕ) (w : Mode) → k < length fs → IsReadMode fs k w → mode_touches w p a ≡ true → touched_by_reading fs p a ≡ true
mode_reads fs p a k Closed there h t = absurd (both_ways false refl t)
mode_reads fs p a k (Alone r) there h t =
    let f = get_or fs k no_fmmu in
    let s = touching_bit r p a t in
    let l : ℕ = s.0 in
    let q : ℕ = r.physical + (l - r.logical) in
    let w = within_parts p.from p.bits l s.1 in
    let low : p.from ≤ l = w.0 in
    let high : l < p.from + p.bits = w.1 in
    let z : p.from + (l - p.from) ≡ l = omega arith in
    let m : mapped f l ≡ Some q = h.pairs l ∙ if_true (within r.logical r.count l) (Some q) None s.2 in
    let leads : target (readers fs) l ≡ Some q = alone_target fs k l there h.goes h.alone (pair_reaches f l q (pair_from_mapped f l q m)) ∙ m in
    any_below_from p.bits (λ i. leads_into (target (readers fs) (p.from + i)) a) (l - p.from) (omega arith)
    (ap (λ (n : ℕ). leads_into (target (readers fs) n) a) z ∙ (ap (λ (o : Option ℕ). leads_into o a) leads ∙ eq-eqb (q / 8) a s.3))
mode_reads fs p a k Shared there h t = absurd (both_ways false refl t)

pub mode_writes : (fs : List FmmuSettings) (p : LogicalSpan) (a k : ℕ) (w : Mode) → k < length fs → IsWriteMode fs k w → mode_touches w p a ≡ true → touched_by_writing fs p a ≡ true
mode_writes fs p a k Closed there h t = absurd (both_ways false refl t)
mode_writes fs p a k (Alone r) there h t =
    let f = get_or fs k no_fmmu in
    let s = touching_bit r p a t in
    let l : ℕ = s.0 in
    let q : ℕ = r.physical + (l - r.logical) in
    let v = within_parts r.logical r.count l s.2 in
    let first : r.logical ≤ l = v.0 in
    let end : l < r.logical + r.count = v.1 in
    let at : q / 8 ≡ a = s.3 in
    let split : 8 * a + q % 8 ≡ q = omega arith in
    let few : q % 8 < 8 = omega arith in
    let back : r.logical + (q - r.physical) ≡ l = omega arith in
    let u : unmapped f q ≡ Some l
    = h.pairs q ∙ (if_true (within r.physical r.count q) (Some (r.logical + (q - r.physical))) None (within_true r.physical r.count q (omega arith) (omega arith)) ∙ ap (λ (n : ℕ). Some n) back) in
    let from_it : source (writers fs) q ≡ Some l
    = alone_source fs k q there h.goes h.alone (pair_reaches_physical f l q (pair_from_unmapped f l q u)) ∙ u in
    let brought : data_bit_for fs p q ≡ Some (l - p.from)
    = ap (inside_span p) from_it ∙ if_true (within p.from p.bits l) (Some (l - p.from)) None s.1 in
    any_below_from 8 (λ j. is_some (data_bit_for fs p (8 * a + j))) (q % 8) few
    (ap (λ (n : ℕ). is_some (data_bit_for fs p n)) split ∙ ap is_some brought)
mode_writes fs p a k Shared there h t = absurd (both_ways false refl t)

-- ---- all of them

-- one more FMMU that leads nothing there
pub one_more : (P : ℕ → Type 0) (n : ℕ) → ((k : ℕ) → k < n → P k) → P n → (k : ℕ) → k < n + 1 → P k
one_more P n h here k l = elim (cases_eq k n) [
  | inl e ↦ subst P (sym e) here
  | inr ne ↦ h k (omega arith)
]

into_bit : (o : Option ℕ) (a : ℕ) → leads_into o a ≡ true → (q : ℕ) × (o ≡ Some q) × (q / 8 ≡ a)
into_bit None a h = absurd (both_ways false refl h)
into_bit (Some q) a h = (q, refl, eqb-true (q / 8) a h)

pub untouched_by_reading : (fs : List FmmuSettings) (p : LogicalSpan) (a n : ℕ) → ((k : ℕ) → n ≤ k → (get_or fs k no_fmmu).reads ≡ false) → ((k : ℕ) → k < n → ReadsNothing fs p a k) → touched_by_reading fs p a ≡ false
untouched_by_reading fs p a n e h = any_below_none p.bits (λ i. leads_into (target (readers fs) (p.from + i)) a) (λ i l. elim (cases_Bool (leads_into (target (readers fs) (p.from + i)) a)) [
  | inl t ↦
      let r = into_bit (target (readers fs) (p.from + i)) a t in
      let s = reading_pair fs (p.from + i) r.0 r.1 in
      let b : s.0 < n = elim (cases_lt s.0 n) [
        | inl x ↦ x
        | inr x ↦ absurd (both_ways (get_or fs s.0 no_fmmu).reads (e s.0 x) s.2)
      ] in
      absurd (h s.0 b s.2 (p.from + i) r.0 s.3 (within_true p.from p.bits (p.from + i) (omega arith) (omega arith)) r.2)
  | inr f ↦ f
])

pub untouched_by_writing : (fs : List FmmuSettings) (p : LogicalSpan) (a n : ℕ) → ((k : ℕ) → n ≤ k → (get_or fs k no_fmmu).writes ≡ false) → ((k : ℕ) → k < n → WritesNothing fs p a k) → touched_by_writing fs p a ≡ false
untouched_by_writing fs p a n e h = any_below_none 8 (λ j. is_some (data_bit_for fs p (8 * a + j))) (λ j few.
    let q : ℕ = 8 * a + j in
    let at : q / 8 ≡ a = omega arith in
    elim (none_or_some (source (writers fs) q)) [
      | inl z ↦ ap (λ (o : Option ℕ). is_some (inside_span p o)) z
      | inr s ↦ ap (λ (o : Option ℕ). is_some (inside_span p o)) s.1 ∙ (elim (cases_Bool (within p.from p.bits s.0)) [
        | inl t ↦
            let r = writing_pair [] fs s.0 q s.1 in
            let b : r.0 < n = elim (cases_lt r.0 n) [
              | inl x ↦ x
              | inr x ↦ absurd (both_ways (get_or fs r.0 no_fmmu).writes (e r.0 x) r.2)
            ] in
            absurd (h r.0 b r.2 s.0 q r.3 t at)
        | inr f ↦ ap is_some (if_false (within p.from p.bits s.0) (Some (s.0 - p.from)) None f)
      ])
    ])
