use Rattle.std.proofs.Common.{ℕ, ◌≡◌, ◌<◌, ◌+◌, None, List, ap, ◌∙◌, subst}
use Rattle.std.proofs.lemmas.Bool.{OnTrue_at, OnTrue_from}
use Rattle.ec_regs.specs.declared.fmmu.FmmuSettings.{FmmuSettings}
use Rattle.ec_fmmu.specs.Sets.{target, readers}
use Rattle.ec_fmmu.specs.Applied.{LogicalSpan, data_bit_for}
use Rattle.ec_slave.specs.State.{SlaveState, fmmus}
use Rattle.ec_slave.specs.LogicalLaws.{Misses}
use Rattle.ec_slave.proofs.slave.Slave.misses.Goals as goal

pub returns : goal.returns
returns c =
    let s : SlaveState = c.args.self.now in
    let p : LogicalSpan = record { from = c.args.from; bits = c.args.bits } in
    let fs : List FmmuSettings = c.self.inside.fmmus in
    let same : fs ≡ fmmus s = c.self.invariant.decoded ∙ ap fmmus c.self.view_is in
    OnTrue_from c.is_outside.result (Misses s p) (λ t. record {
      reads = subst (λ (gs : List FmmuSettings). (i : ℕ) → i < p.bits → target (readers gs) (p.from + i) ≡ None) same (OnTrue_at t c.is_outside.ensures.reads);
      writes = subst (λ (gs : List FmmuSettings). (q : ℕ) → data_bit_for gs p q ≡ None) same (OnTrue_at t c.is_outside.ensures.writes);
    })
