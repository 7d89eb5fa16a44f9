use Rattle.std.proofs.Common.{ℕ, ◌≡◌, sym, subst, inl, inr, arith, true, get_or}
use Rattle.std.proofs.lemmas.Bool.{cases_eq}
use Rattle.std.proofs.lemmas.List.{get_or_default}
use Rattle.ec_regs.specs.declared.fmmu.FmmuSettings.{FmmuSettings}
use Rattle.ec_regs.specs.Fmmus.{no_fmmu}
use Rattle.ec_fmmu.specs.Pairs.{reaches}
use Rattle.ec_fmmu.proofs.table.around.Goals as goal

pub returns : goal.returns
returns c =
    let fs = c.args.fmmus.now in
    let at0 : get_or fs 0 (c.index-fmmus-0.result) ≡ get_or fs 0 no_fmmu = get_or_default fs 0 (c.index-fmmus-0.result) no_fmmu (omega arith) in
    let at1 : get_or fs 1 (c.index-fmmus-1.result) ≡ get_or fs 1 no_fmmu = get_or_default fs 1 (c.index-fmmus-1.result) no_fmmu (omega arith) in
    let at2 : get_or fs 2 (c.index-fmmus-2.result) ≡ get_or fs 2 no_fmmu = get_or_default fs 2 (c.index-fmmus-2.result) no_fmmu (omega arith) in
    let at3 : get_or fs 3 (c.index-fmmus-3.result) ≡ get_or fs 3 no_fmmu = get_or_default fs 3 (c.index-fmmus-3.result) no_fmmu (omega arith) in
    λ k h l r. elim (cases_eq k 0) [
      | inl e ↦
          let here : reaches (get_or fs 0 no_fmmu) l ≡ true = subst (λ (j : ℕ). reaches (get_or fs j no_fmmu) l ≡ true) e r in
          c.join.ensures.one l (c.join-low.ensures.one l (c.stretch_of.ensures l (subst (λ (m : FmmuSettings). reaches m l ≡ true) (sym at0) here)))
      | inr n0 ↦ elim (cases_eq k 1) [
        | inl e ↦
            let here : reaches (get_or fs 1 no_fmmu) l ≡ true = subst (λ (j : ℕ). reaches (get_or fs j no_fmmu) l ≡ true) e r in
            c.join.ensures.one l (c.join-low.ensures.other l (c.stretch_of-2.ensures l (subst (λ (m : FmmuSettings). reaches m l ≡ true) (sym at1) here)))
        | inr n1 ↦ elim (cases_eq k 2) [
          | inl e ↦
              let here : reaches (get_or fs 2 no_fmmu) l ≡ true = subst (λ (j : ℕ). reaches (get_or fs j no_fmmu) l ≡ true) e r in
              c.join.ensures.other l (c.join-high.ensures.one l (c.stretch_of-3.ensures l (subst (λ (m : FmmuSettings). reaches m l ≡ true) (sym at2) here)))
          | inr n2 ↦
              let e : k ≡ 3 = omega (arith, h, n0, n1, n2) in
              let here : reaches (get_or fs 3 no_fmmu) l ≡ true = subst (λ (j : ℕ). reaches (get_or fs j no_fmmu) l ≡ true) e r in
              c.join.ensures.other l (c.join-high.ensures.other l (c.stretch_of-4.ensures l (subst (λ (m : FmmuSettings). reaches m l ≡ true) (sym at3) here)))
        ]
      ]
    ]
