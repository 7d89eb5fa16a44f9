use Rattle.std.proofs.Common.{◌≡◌, List, get_or, ap, subst, arith, inl, inr, length, false}
use Rattle.std.proofs.lemmas.Bool.{cases_lt}
use Rattle.std.proofs.lemmas.List.{get_or_past}
use Rattle.ec_regs.specs.declared.fmmu.FmmuSettings.{FmmuSettings}
use Rattle.ec_regs.specs.Fmmus.{no_fmmu}
use Rattle.ec_fmmu.specs.declared.modes.Mode.TheVariants.{Closed}
use Rattle.ec_fmmu.proofs.ModeLaws.{closed_writes}
use Rattle.ec_fmmu.proofs.table.FmmuTable.write_end.Goals as goal

pub returns-clause-behind : goal.returns-clause-behind
returns-clause-behind c = λ k l.
    let fs : List FmmuSettings = c.self.inside.fmmus in
    let four : length fs ≡ 4 = c.self.invariant.0 in
    let here : (get_or fs k no_fmmu).writes ≡ false = elim (cases_lt k 4) [
      | inl x ↦ closed_writes fs k (get_or c.self.inside.writing k Closed) (c.self.invariant.4 k x) (c.self.invariant.8 k l)
      | inr x ↦ ap (λ (f : FmmuSettings). f.writes) (get_or_past fs k no_fmmu (omega (arith, four, x)))
    ] in
    subst (λ (gs : List FmmuSettings). (get_or gs k no_fmmu).writes ≡ false) c.self.view_is here
