-- Of an FMMU whose range no other one's meets: its pairs alone decide there.
use Rattle.std.proofs.Common.{ℕ, zero, suc, ◌+◌, ◌-◌, ◌<◌, ◌≤◌, ◌≡◌, List, [], ◌∷◌, length, get_or, Bool, true, false, Option, Some, None, option_and_then, sym, ◌∙◌, ap, subst, inl, inr, arith, max, min}
use Rattle.std.specs.Option.{option_or}
use Rattle.std.proofs.lemmas.Bool.{cases_eq, cases_lt, cases_Bool, and_from, and_left, and_right}
use Rattle.ec_bits.specs.Bits.{within}
use Rattle.ec_bits.proofs.AnyLaws.{if_true, if_false, within_true, within_below, within_above}
use Rattle.ec_regs.specs.declared.fmmu.FmmuSettings.{FmmuSettings}
use Rattle.ec_regs.specs.Fmmus.{no_fmmu}
use Rattle.ec_fmmu.specs.Pairs.{mapped, reaches}
use Rattle.ec_fmmu.specs.Sets.{target, readers}
use Rattle.ec_fmmu.specs.Applied.{read_updates}
use Rattle.ec_fmmu.specs.Ranges.{reads_to, range_read_updates}
use Rattle.ec_fmmu.specs.Alone.{IsAlone, run_mapped}
use Rattle.ec_fmmu.specs.Apart.{run_visible}
use Rattle.ec_fmmu.proofs.PairLaws.{none_or_some, none_is_not_some, mapped_from_pair, pair_reaches}
use Rattle.ec_fmmu.proofs.RangeLaws.{reading_pair}

-- an FMMU that reads and maps a bit leads it somewhere
reads_some : (fs : List FmmuSettings) (k l q : ℕ) → k < length fs → (get_or fs k no_fmmu).reads ≡ true → mapped (get_or fs k no_fmmu) l ≡ Some q
    → target (readers fs) l ≡ None → ⊥
reads_some [] k l q h r m n = absurd (omega arith)
reads_some (f ∷ fs) zero l q h r m n =
    let e : target (readers (f ∷ fs)) l ≡ option_or (mapped f l) (target (readers fs) l)
    = ap (λ (gs : List FmmuSettings). target gs l) (if_true f.reads (f ∷ readers fs) (readers fs) r) in
    none_is_not_some (target (readers (f ∷ fs)) l) q n (e ∙ ap (λ (o : Option ℕ). option_or o (target (readers fs) l)) m)
reads_some (f ∷ fs) (suc k) l q h r m n = elim (cases_Bool f.reads) [
  | inl t ↦
      let e : target (readers (f ∷ fs)) l ≡ option_or (mapped f l) (target (readers fs) l)
      = ap (λ (gs : List FmmuSettings). target gs l) (if_true f.reads (f ∷ readers fs) (readers fs) t) in
      elim (none_or_some (mapped f l)) [
        | inl z ↦ reads_some fs k l q (omega arith) r m (sym (ap (λ (o : Option ℕ). option_or o (target (readers fs) l)) z) ∙ (sym e ∙ n))
        | inr s ↦ none_is_not_some (target (readers (f ∷ fs)) l) s.0 n (e ∙ ap (λ (o : Option ℕ). option_or o (target (readers fs) l)) s.1)
      ]
  | inr t ↦
      let e : target (readers (f ∷ fs)) l ≡ target (readers fs) l
      = ap (λ (gs : List FmmuSettings). target gs l) (if_false f.reads (f ∷ readers fs) (readers fs) t) in
      reads_some fs k l q (omega arith) r m (sym e ∙ n)
]

-- where it reaches, the FMMU that is alone decides
pub alone_target : (fs : List FmmuSettings) (k l : ℕ) → k < length fs → (get_or fs k no_fmmu).reads ≡ true → IsAlone fs k
    → reaches (get_or fs k no_fmmu) l ≡ true → target (readers fs) l ≡ mapped (get_or fs k no_fmmu) l
alone_target fs k l h r alone here = elim (none_or_some (target (readers fs) l)) [
  | inl z ↦ elim (none_or_some (mapped (get_or fs k no_fmmu) l)) [
    | inl n ↦ z ∙ sym n
    | inr s ↦ absurd (reads_some fs k l s.0 h r s.1 z)
  ]
  | inr s ↦
      let p = reading_pair fs l s.0 s.1 in
      elim (cases_eq p.0 k) [
        | inl e ↦ s.1 ∙ sym (subst (λ (j : ℕ). mapped (get_or fs j no_fmmu) l ≡ Some s.0) e (mapped_from_pair (get_or fs p.0 no_fmmu) l s.0 p.3))
        | inr ne ↦ absurd (alone p.0 p.1 ne p.2 l (pair_reaches (get_or fs p.0 no_fmmu) l s.0 p.3) here)
      ]
]

unreached : (f : FmmuSettings) (l : ℕ) → reaches f l ≡ false → mapped f l ≡ None
unfolding mapped
unreached f l e = if_false _ _ _ (and_left _ _ e)

-- so its part of a read is one run
pub alone_told : (fs : List FmmuSettings) (k : ℕ) (visible : ℕ → Option Bool) (from i logical physical n : ℕ) → k < length fs
    → (get_or fs k no_fmmu).reads ≡ true → IsAlone fs k
    → ((l : ℕ) → mapped (get_or fs k no_fmmu) l ≡ run_mapped logical physical n l)
    → range_read_updates (get_or fs k no_fmmu) fs visible from i ≡ option_and_then visible (run_mapped logical physical n (from + i))
alone_told fs k visible from i logical physical n h r alone m =
    let f = get_or fs k no_fmmu in
    let l = from + i in
    elim (cases_Bool (reaches f l)) [
      | inl t ↦ if_true (reads_to f l) (read_updates fs visible from i) None (and_from f.reads (reaches f l) r t)
          ∙ ap (option_and_then visible) (alone_target fs k l h r alone t ∙ m l)
      | inr e ↦ if_false (reads_to f l) (read_updates fs visible from i) None (and_right f.reads (reaches f l) e)
          ∙ sym (ap (option_and_then visible) (sym (m l) ∙ unreached f l e))
    ]

-- the run of it that lies in the data
pub run_tells : (visible : ℕ → Option Bool) (from i logical physical n bits first end : ℕ) → first ≡ max logical from - from
    → end ≡ min (max (logical + n) from - from) bits → i < bits
    → option_and_then visible (run_mapped logical physical n (from + i)) ≡ run_visible visible (physical + (from + first - logical)) first (end - first) i
run_tells visible from i logical physical n bits first end a b l =
    let at = physical + (from + first - logical) in
    let update = λ (o : Option ℕ). option_and_then visible o in
    let none : run_mapped logical physical n (from + i) ≡ None → within first (end - first) i ≡ false
    → update (run_mapped logical physical n (from + i)) ≡ run_visible visible at first (end - first) i
    = λ x y. ap update x ∙ sym (if_false (within first (end - first) i) (visible (at + (i - first))) None y) in
    elim (cases_lt i first) [
      | inl x ↦ none (if_false (within logical n (from + i)) (Some (physical + (from + i - logical))) None (within_below logical n (from + i) (omega arith)))
          (within_below first (end - first) i x)
      | inr x ↦ elim (cases_lt i end) [
        | inl y ↦
            let same : physical + (from + i - logical) ≡ at + (i - first) = omega arith in
            ap update (if_true (within logical n (from + i)) (Some (physical + (from + i - logical))) None (within_true logical n (from + i) (omega arith) (omega arith)))
            ∙ (ap visible same
            ∙ sym (if_true (within first (end - first) i) (visible (at + (i - first))) None (within_true first (end - first) i x (omega arith))))
        | inr y ↦ none (if_false (within logical n (from + i)) (Some (physical + (from + i - logical))) None (within_above logical n (from + i) (omega arith)))
            (within_above first (end - first) i (omega arith))
      ]
    ]

pub run_empty : (visible : ℕ → Option Bool) (physical first end i : ℕ) → end ≤ first → run_visible visible physical first (end - first) i ≡ None
run_empty visible physical first end i e = if_false (within first (end - first) i) (visible (physical + (i - first))) None (elim (cases_lt i first) [
  | inl x ↦ within_below first (end - first) i x
  | inr x ↦ within_above first (end - first) i (omega arith)
])
