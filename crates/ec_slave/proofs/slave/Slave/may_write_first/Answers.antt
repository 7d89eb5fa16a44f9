use Rattle.std.proofs.Common.{◌≡◌, List, length, ap, sym, ◌∙◌, subst}
use Rattle.std.proofs.lemmas.Bool.{OnTrue_at, OnTrue_from}
use Rattle.ec_regs.specs.declared.fmmu.FmmuSettings.{FmmuSettings}
use Rattle.ec_fmmu.specs.Apart.{AreApart}
use Rattle.ec_slave.specs.State.{SlaveState, fmmus}
use Rattle.ec_slave.specs.Mapped.{MayWriteFirst}
use Rattle.ec_slave.proofs.slave.Slave.may_write_first.Goals as goal

pub returns : goal.returns
returns c =
    let s : SlaveState = c.args.self.now in
    let fs : List FmmuSettings = c.self.inside.fmmus in
    let memory = ap (λ (x : SlaveState). x.memory) c.self.view_is in
    let same : fs ≡ fmmus s = c.self.invariant.decoded ∙ ap fmmus c.self.view_is in
    OnTrue_from c.is_apart.result (MayWriteFirst s) (λ t. record {
      room = sym (ap length memory) ∙ c.self.invariant.room;
      apart = subst (λ (gs : List FmmuSettings). AreApart gs) same (OnTrue_at t c.is_apart.ensures);
    })
