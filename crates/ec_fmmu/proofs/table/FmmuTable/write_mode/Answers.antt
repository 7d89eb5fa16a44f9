use Rattle.std.proofs.Common.{List, get_or, ap, subst, arith, length}
use Rattle.ec_regs.specs.declared.fmmu.FmmuSettings.{FmmuSettings}
use Rattle.ec_fmmu.specs.declared.modes.Mode.TheVariants.{Closed}
use Rattle.ec_fmmu.specs.Modes.{IsWriteMode}
use Rattle.ec_fmmu.proofs.table.FmmuTable.write_mode.Goals as goal

pub returns-clause-mode : goal.returns-clause-mode
returns-clause-mode c =
    subst (λ (fs : List FmmuSettings). IsWriteMode fs c.args.index (get_or c.self.inside.writing c.args.index Closed)) c.self.view_is (c.self.invariant.4 c.args.index c.requires)

pub returns-clause-there : goal.returns-clause-there
returns-clause-there c = omega (arith, c.self.invariant.0, ap length c.self.view_is)
