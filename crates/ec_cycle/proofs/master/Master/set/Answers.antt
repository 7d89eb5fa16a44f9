use Rattle.std.proofs.Common.{arith, subst, sym}
use Rattle.std.proofs.lemmas.Grind.{common_steps}
use Rattle.ec_link.specs.Usable.{IsUsable}
use Rattle.ec_cycle.proofs.master.Master.set.Goals as goal

pub invariant_of-self : goal.invariant_of-self
invariant_of-self c = grind (arith, common_steps)

pub write_variable-requires-clause-usable : goal.write_variable-requires-clause-usable
write_variable-requires-clause-usable c = subst IsUsable (sym c.plan.ensures) c.self.invariant.usable
