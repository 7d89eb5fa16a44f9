-- Of an FMMU that writes and whose range no other one's meets: its pairs alone bring bits there.
use Rattle.std.proofs.Common.{ℕ, zero, suc, ◌+◌, ◌-◌, ◌*◌, ◌/◌, ◌<◌, ◌≤◌, ◌≡◌, ◌≢◌, List, [], ◌∷◌, ◌++◌, length, get_or, Bool, true, false, Option, Some, None, is_some, unwrap_or, option_map, refl, sym, ◌∙◌, ap, subst, inl, inr, arith, max, min, if◌then◌else◌}
use Rattle.std.specs.Option.{option_or}
use Rattle.std.proofs.lemmas.Bool.{cases_eq, cases_lt, cases_Bool, both_ways, and_from, and_parts}
use Rattle.ec_bits.specs.Bits.{bit, within, overlay, any_below}
use Rattle.ec_bits.proofs.AnyLaws.{any_below_from, any_below_none, if_true, if_false, if_none, within_true, within_below, within_above, within_parts}
use Rattle.ec_bits.proofs.BitLaws.{overlay_own}
use Rattle.ec_regs.specs.declared.fmmu.FmmuSettings.{FmmuSettings}
use Rattle.ec_regs.specs.Fmmus.{no_fmmu}
use Rattle.ec_fmmu.specs.Pairs.{Pair, first_logical, first_physical, mapped, unmapped, reaches_physical}
use Rattle.ec_fmmu.specs.Sets.{target, source, source_after, unless_mapped, writers}
use Rattle.ec_fmmu.specs.Applied.{inside_span, write_updates}
use Rattle.ec_fmmu.specs.Ranges.{writes_to}
use Rattle.ec_fmmu.specs.Alone.{IsAloneWriting, brought_by, run_unmapped, run_written}
use Rattle.ec_fmmu.proofs.PairLaws.{none_or_some, none_is_not_some, pair_from_mapped, pair_from_unmapped, unmapped_from_pair, pair_reaches, pair_reaches_physical}
use Rattle.ec_fmmu.proofs.SetLaws.{unless_some, some_unless}

-- ---- what brings a bit

target_both : (lower : List FmmuSettings) (f : FmmuSettings) (l : ℕ) → target lower l ≡ None → mapped f l ≡ None → target (lower ++ (f ∷ [])) l ≡ None
target_both [] f l a b = ap (λ (o : Option ℕ). option_or o None) b
target_both (g ∷ gs) f l a b = elim (none_or_some (mapped g l)) [
  | inl n ↦ ap (λ (o : Option ℕ). option_or o (target (gs ++ (f ∷ [])) l)) n ∙ target_both gs f l (sym (ap (λ (o : Option ℕ). option_or o (target gs l)) n) ∙ a) b
  | inr s ↦ none_is_not_some (target (g ∷ gs) l) s.0 a (ap (λ (o : Option ℕ). option_or o (target gs l)) s.1)
]

-- an FMMU that writes, and whose logical bit no lower one maps, brings it to its physical bit, or a lower one brings another
writes_some : (lower fs : List FmmuSettings) (k l q : ℕ) → k < length fs → (get_or fs k no_fmmu).writes ≡ true → unmapped (get_or fs k no_fmmu) q ≡ Some l
    → target lower l ≡ None → ((j : ℕ) → j < k → (get_or fs j no_fmmu).writes ≡ true → mapped (get_or fs j no_fmmu) l ≡ None)
    → source_after lower (writers fs) q ≡ None → ⊥
writes_some lower [] k l q h w u t a n = absurd (omega arith)
writes_some lower (f ∷ fs) zero l q h w u t a n =
    let rest = λ (o : Option ℕ). option_or o (source_after (lower ++ (f ∷ [])) (writers fs) q) in
    let e : source_after lower (writers (f ∷ fs)) q ≡ rest (unless_mapped lower (unmapped f q))
    = ap (λ (gs : List FmmuSettings). source_after lower gs q) (if_true f.writes (f ∷ writers fs) (writers fs) w) in
    let m : unless_mapped lower (unmapped f q) ≡ Some l = some_unless lower (unmapped f q) l u t in
    none_is_not_some (source_after lower (writers (f ∷ fs)) q) l n (e ∙ ap rest m)
writes_some lower (f ∷ fs) (suc k) l q h w u t a n = elim (cases_Bool f.writes) [
  | inl x ↦
      let rest = λ (o : Option ℕ). option_or o (source_after (lower ++ (f ∷ [])) (writers fs) q) in
      let e : source_after lower (writers (f ∷ fs)) q ≡ rest (unless_mapped lower (unmapped f q))
      = ap (λ (gs : List FmmuSettings). source_after lower gs q) (if_true f.writes (f ∷ writers fs) (writers fs) x) in
      elim (none_or_some (unless_mapped lower (unmapped f q))) [
        | inl z ↦ writes_some (lower ++ (f ∷ [])) fs k l q (omega arith) w u (target_both lower f l t (a 0 (omega arith) x))
            (λ j b v. a (suc j) (omega arith) v) (sym (ap rest z) ∙ (sym e ∙ n))
        | inr s ↦ none_is_not_some (source_after lower (writers (f ∷ fs)) q) s.0 n (e ∙ ap rest s.1)
      ]
  | inr x ↦
      let e : source_after lower (writers (f ∷ fs)) q ≡ source_after lower (writers fs) q
      = ap (λ (gs : List FmmuSettings). source_after lower gs q) (if_false f.writes (f ∷ writers fs) (writers fs) x) in
      writes_some lower fs k l q (omega arith) w u t (λ j b v. a (suc j) (omega arith) v) (sym e ∙ n)
]

-- what is brought comes by a pair of an FMMU that writes
pub writing_pair : (lower fs : List FmmuSettings) (l q : ℕ) → source_after lower (writers fs) q ≡ Some l
    → (k : ℕ) × (k < length fs) × ((get_or fs k no_fmmu).writes ≡ true) × Pair (get_or fs k no_fmmu) l q
writing_pair lower [] l q h = absurd (cc)
writing_pair lower (f ∷ fs) l q h = elim (cases_Bool f.writes) [
  | inl t ↦
      let rest = λ (o : Option ℕ). option_or o (source_after (lower ++ (f ∷ [])) (writers fs) q) in
      let e : source_after lower (writers (f ∷ fs)) q ≡ rest (unless_mapped lower (unmapped f q))
      = ap (λ (gs : List FmmuSettings). source_after lower gs q) (if_true f.writes (f ∷ writers fs) (writers fs) t) in
      elim (none_or_some (unless_mapped lower (unmapped f q))) [
        | inl n ↦
            let r = writing_pair (lower ++ (f ∷ [])) fs l q (sym (ap rest n) ∙ (sym e ∙ h)) in
            (suc r.0, (let b = r.1 in omega arith), r.2, r.3)
        | inr m ↦
            let same : Some m.0 ≡ Some l = sym (ap rest m.1) ∙ (sym e ∙ h) in
            let u = unless_some lower (unmapped f q) l (m.1 ∙ same) in
            (0, omega arith, t, pair_from_unmapped f l q u.0)
      ]
  | inr n ↦
      let e : source_after lower (writers (f ∷ fs)) q ≡ source_after lower (writers fs) q
      = ap (λ (gs : List FmmuSettings). source_after lower gs q) (if_false f.writes (f ∷ writers fs) (writers fs) n) in
      let r = writing_pair lower fs l q (sym e ∙ h) in
      (suc r.0, (let b = r.1 in omega arith), r.2, r.3)
]

-- where it reaches, the FMMU that is alone decides
pub alone_source : (fs : List FmmuSettings) (k q : ℕ) → k < length fs → (get_or fs k no_fmmu).writes ≡ true → IsAloneWriting fs k
    → reaches_physical (get_or fs k no_fmmu) q ≡ true → source (writers fs) q ≡ unmapped (get_or fs k no_fmmu) q
alone_source fs k q h w alone here =
    let f = get_or fs k no_fmmu in
    elim (none_or_some (source (writers fs) q)) [
      | inl z ↦ elim (none_or_some (unmapped f q)) [
        | inl n ↦ z ∙ sym n
        | inr s ↦
            let p : Pair f s.0 q = pair_from_unmapped f s.0 q s.1 in
            absurd (writes_some [] fs k s.0 q h w s.1 refl
            (λ j b v. elim (none_or_some (mapped (get_or fs j no_fmmu) s.0)) [
              | inl y ↦ y
              | inr y ↦
                  let ne : j ≢ k = omega arith in
                  absurd ((alone j (omega arith) ne v).0 s.0 (pair_reaches (get_or fs j no_fmmu) s.0 y.0 (pair_from_mapped (get_or fs j no_fmmu) s.0 y.0 y.1)) (pair_reaches f s.0 q p))
            ]) z)
      ]
      | inr s ↦
          let p = writing_pair [] fs s.0 q s.1 in
          elim (cases_eq p.0 k) [
            | inl e ↦ s.1 ∙ sym (subst (λ (j : ℕ). unmapped (get_or fs j no_fmmu) q ≡ Some s.0) e (unmapped_from_pair (get_or fs p.0 no_fmmu) s.0 q p.3))
            | inr ne ↦ absurd ((alone p.0 p.1 ne p.2).1 q (pair_reaches_physical (get_or fs p.0 no_fmmu) s.0 q p.3) here)
          ]
    ]

-- ---- its part of a write is one run

pub alone_brings : (fs : List FmmuSettings) (k : ℕ) (allowed : ℕ → Bool) (from : ℕ) (bytes : List ℕ) (q logical physical n : ℕ) → k < length fs
    → (get_or fs k no_fmmu).writes ≡ true → IsAloneWriting fs k
    → ((p : ℕ) → unmapped (get_or fs k no_fmmu) p ≡ run_unmapped logical physical n p)
    → (if writes_to (get_or fs k no_fmmu) from (8 * length bytes) q then write_updates fs allowed from bytes q else None)
    ≡ brought_by allowed from bytes q (run_unmapped logical physical n q)
alone_brings fs k allowed from bytes q logical physical n h w alone u =
    let f = get_or fs k no_fmmu in
    let bits = 8 * length bytes in
    elim (cases_Bool (writes_to f from bits q)) [
      | inl t ↦
          let there : reaches_physical f q ≡ true = (and_parts (reaches_physical f q) (within from bits (first_logical f + (q - first_physical f))) (and_parts f.writes _ t).1).0 in
          if_true (writes_to f from bits q) (write_updates fs allowed from bytes q) None t
          ∙ ap (brought_by allowed from bytes q) (alone_source fs k q h w alone there ∙ u q)
      | inr e ↦
          let none : brought_by allowed from bytes q (unmapped f q) ≡ None = elim (none_or_some (unmapped f q)) [
            | inl z ↦ ap (brought_by allowed from bytes q) z ∙ if_none (allowed (q / 8)) None refl
            | inr s ↦
                let p : Pair f s.0 q = pair_from_unmapped f s.0 q s.1 in
                let z : s.0 ≡ first_logical f + (q - first_physical f) = omega (arith, p.logical_is, p.physical_is) in
                let out : within from bits s.0 ≡ false = elim (cases_Bool (within from bits s.0)) [
                  | inl y ↦ absurd (both_ways (writes_to f from bits q) e (and_from f.writes _ w (and_from (reaches_physical f q) _ (pair_reaches_physical f s.0 q p)
                      (subst (λ (m : ℕ). within from bits m ≡ true) z y))))
                  | inr y ↦ y
                ] in
                ap (brought_by allowed from bytes q) s.1
                ∙ if_none (allowed (q / 8)) _ (ap (option_map (bit bytes)) (if_false (within from bits s.0) (Some (s.0 - from)) None out))
          ] in
          if_false (writes_to f from bits q) (write_updates fs allowed from bytes q) None e
          ∙ sym (ap (brought_by allowed from bytes q) (sym (u q)) ∙ none)
    ]

-- the part of the run that lies in the data and in the window
pub run_brings : (allowed : ℕ → Bool) (from : ℕ) (bytes : List ℕ) (origin window k logical physical n first end : ℕ) → k < window
    → first ≡ max (from - logical) (origin - physical)
    → end ≡ min (min (from + 8 * length bytes - logical) (origin + window - physical)) n
    → brought_by allowed from bytes (origin + k) (run_unmapped logical physical n (origin + k))
    ≡ run_written allowed (physical + first) bytes (logical + first - from) (physical + first - origin) (end - first) k
run_brings allowed from bytes origin window k logical physical n first end l a b =
    let bits = 8 * length bytes in
    let q = origin + k in
    let to = physical + first - origin in
    let at = logical + first - from in
    let m = end - first in
    let o = run_unmapped logical physical n q in
    let inner = (if allowed ((physical + first + (k - to)) / 8) then Some (bit bytes (at + (k - to))) else None) in
    let none : brought_by allowed from bytes q o ≡ None → within to m k ≡ false → brought_by allowed from bytes q o ≡ run_written allowed (physical + first) bytes at to m k
    = λ x y. x ∙ sym (if_false (within to m k) inner None y) in
    let unmapped_bit : within physical n q ≡ false → brought_by allowed from bytes q o ≡ None
    = λ x. ap (brought_by allowed from bytes q) (if_false (within physical n q) (Some (logical + (q - physical))) None x) ∙ if_none (allowed (q / 8)) None refl in
    let outside : within physical n q ≡ true → within from bits (logical + (q - physical)) ≡ false → brought_by allowed from bytes q o ≡ None
    = λ x y. ap (brought_by allowed from bytes q) (if_true (within physical n q) (Some (logical + (q - physical))) None x)
    ∙ if_none (allowed (q / 8)) _ (ap (option_map (bit bytes)) (if_false (within from bits (logical + (q - physical))) (Some (logical + (q - physical) - from)) None y)) in
    let out : (k < to) → within to m k ≡ false = λ x. within_below to m k x in
    let past : (to + m ≤ k) → within to m k ≡ false = λ x. within_above to m k x in
    elim (cases_lt q physical) [
      | inl x ↦ none (unmapped_bit (within_below physical n q x)) (out (omega arith))
      | inr x ↦ elim (cases_lt q (physical + n)) [
        | inl y ↦
            let there : within physical n q ≡ true = within_true physical n q x y in
            elim (cases_lt (logical + (q - physical)) from) [
              | inl z ↦ none (outside there (within_below from bits (logical + (q - physical)) z)) (out (omega arith))
              | inr z ↦ elim (cases_lt (logical + (q - physical)) (from + bits)) [
                | inl v ↦
                    let here : within to m k ≡ true = within_true to m k (omega arith) (omega arith) in
                    let same : physical + first + (k - to) ≡ q = omega arith in
                    let there_at : at + (k - to) ≡ logical + (q - physical) - from = omega arith in
                    ap (brought_by allowed from bytes q) (if_true (within physical n q) (Some (logical + (q - physical))) None there)
                    ∙ (ap (λ (r : Option ℕ). if allowed (q / 8) then option_map (bit bytes) r else None)
                    (if_true (within from bits (logical + (q - physical))) (Some (logical + (q - physical) - from)) None (within_true from bits (logical + (q - physical)) z v))
                    ∙ (ap (λ (i : ℕ). if allowed (q / 8) then Some (bit bytes i) else None) (sym there_at)
                    ∙ (ap (λ (i : ℕ). if allowed (i / 8) then Some (bit bytes (at + (k - to))) else None) (sym same)
                    ∙ sym (if_true (within to m k) inner None here))))
                | inr v ↦ none (outside there (within_above from bits (logical + (q - physical)) v)) (past (omega arith))
              ]
            ]
        | inr y ↦ elim (cases_lt k to) [
          | inl z ↦ none (unmapped_bit (within_above physical n q y)) (out z)
          | inr z ↦ none (unmapped_bit (within_above physical n q y)) (past (omega arith))
        ]
      ]
    ]

pub nothing_brought : (allowed : ℕ → Bool) (physical : ℕ) (bytes : List ℕ) (at to first end k : ℕ) → end ≤ first
    → run_written allowed physical bytes at to (end - first) k ≡ None
nothing_brought allowed physical bytes at to first end k e = if_false (within to (end - first) k) _ None (elim (cases_lt k to) [
  | inl x ↦ within_below to (end - first) k x
  | inr x ↦ within_above to (end - first) k (omega arith)
])

-- ---- runs that are written at once, or not at all

pub written_some : (bits : ℕ) (allowed : ℕ → Bool) (physical : ℕ) (bytes : List ℕ) (at to n : ℕ) → 0 < n → to + n ≤ bits → allowed (physical / 8) ≡ true
    → true ≡ any_below bits (λ k. is_some (run_written allowed physical bytes at to n k))
written_some bits allowed physical bytes at to n some inside h =
    let z : to - to ≡ 0 = omega arith in
    let here : physical + 0 ≡ physical = omega arith in
    let inner = (λ (i : ℕ). if allowed ((physical + i) / 8) then Some (bit bytes (at + i)) else None) in
    let ok : allowed ((physical + 0) / 8) ≡ true = ap (λ (q : ℕ). allowed (q / 8)) here ∙ h in
    sym (any_below_from bits (λ k. is_some (run_written allowed physical bytes at to n k)) to (omega arith)
    (ap is_some (if_true (within to n to) (inner (to - to)) None (within_true to n to (omega arith) (omega arith))
    ∙ (ap inner z ∙ if_true (allowed ((physical + 0) / 8)) (Some (bit bytes (at + 0))) None ok))))

pub written_none : (xs : List ℕ) (allowed : ℕ → Bool) (physical : ℕ) (bytes : List ℕ) (at to n : ℕ) → ((i : ℕ) → i < n → allowed ((physical + i) / 8) ≡ false)
    → (xs ≡ overlay xs (run_written allowed physical bytes at to n)) × (false ≡ any_below (8 * length xs) (λ k. is_some (run_written allowed physical bytes at to n k)))
written_none xs allowed physical bytes at to n h =
    let inner = (λ (i : ℕ). if allowed ((physical + i) / 8) then Some (bit bytes (at + i)) else None) in
    let none : (k : ℕ) → run_written allowed physical bytes at to n k ≡ None = λ k. elim (cases_Bool (within to n k)) [
      | inl t ↦
          let w = within_parts to n k t in
          let lo : to ≤ k = w.0 in
          let hi : k < to + n = w.1 in
          if_true (within to n k) (inner (k - to)) None t ∙ if_false (allowed ((physical + (k - to)) / 8)) (Some (bit bytes (at + (k - to)))) None (h (k - to) (omega arith))
      | inr f ↦ if_false (within to n k) (inner (k - to)) None f
    ] in (
      sym (overlay_own xs (run_written allowed physical bytes at to n) (λ k l. ap (λ (o : Option Bool). unwrap_or o (bit xs k)) (none k))),
      sym (any_below_none (8 * length xs) (λ k. is_some (run_written allowed physical bytes at to n k)) (λ k l. ap is_some (none k))),
    )

-- ---- a run that is brought as a whole

-- each bit of the run of an FMMU that is alone is brought the data bit that its pair names
pub alone_wholly : (fs : List FmmuSettings) (k from bits q logical physical n : ℕ) → k < length fs → (get_or fs k no_fmmu).writes ≡ true → IsAloneWriting fs k
    → ((p : ℕ) → unmapped (get_or fs k no_fmmu) p ≡ run_unmapped logical physical n p)
    → physical ≤ q → q < physical + n → from ≤ logical + (q - physical) → logical + (q - physical) < from + bits
    → inside_span (record { from = from; bits = bits }) (source (writers fs) q) ≡ Some (logical + (q - physical) - from)
alone_wholly fs k from bits q logical physical n h w alone u a b c d =
    let f = get_or fs k no_fmmu in
    let l : ℕ = logical + (q - physical) in
    let one : unmapped f q ≡ Some l = u q ∙ if_true (within physical n q) (Some l) None (within_true physical n q a b) in
    let there : reaches_physical f q ≡ true = pair_reaches_physical f l q (pair_from_unmapped f l q one) in
    let from_it : source (writers fs) q ≡ Some l = alone_source fs k q h w alone there ∙ one in
    ap (λ (o : Option ℕ). inside_span (record { from = from; bits = bits }) o) from_it
    ∙ if_true (within from bits l) (Some (l - from)) None (within_true from bits l c d)

-- a run that begins inside another one is a part of it
pub written_part : (allowed : ℕ → Bool) (physical : ℕ) (bytes : List ℕ) (at to n done m : ℕ) → done + m ≤ n → (k : ℕ)
    → run_written allowed (physical + done) bytes (at + done) (to + done) m k ≡ (if within (to + done) m k then run_written allowed physical bytes at to n k else None)
written_part allowed physical bytes at to n done m fits k =
    let update = λ (q : ℕ) (b : ℕ). if allowed (q / 8) then Some (bit bytes b) else None in
    elim (cases_Bool (within (to + done) m k)) [
      | inl t ↦
          let w = within_parts (to + done) m k t in
          let lo = w.0 in
          let hi = w.1 in
          let here : physical + done + (k - (to + done)) ≡ physical + (k - to) = omega arith in
          let there : at + done + (k - (to + done)) ≡ at + (k - to) = omega arith in
          let inside : within to n k ≡ true = within_true to n k (omega arith) (omega arith) in
          if_true (within (to + done) m k) (update (physical + done + (k - (to + done))) (at + done + (k - (to + done)))) None t
          ∙ (ap (λ (q : ℕ). update q (at + done + (k - (to + done)))) here ∙ (ap (λ (b : ℕ). update (physical + (k - to)) b) there
          ∙ (sym (if_true (within to n k) (update (physical + (k - to)) (at + (k - to))) None inside)
          ∙ sym (if_true (within (to + done) m k) (run_written allowed physical bytes at to n k) None t))))
      | inr f ↦ if_false (within (to + done) m k) (update (physical + done + (k - (to + done))) (at + done + (k - (to + done)))) None f
          ∙ sym (if_false (within (to + done) m k) (run_written allowed physical bytes at to n k) None f)
    ]
