use Rattle.std.proofs.Common.{subst, sym}
use Rattle.ec_link.specs.Usable.{IsUsable}
use Rattle.ec_cycle.proofs.master.Master.can_set.Goals as goal

pub can_hold-requires : goal.can_hold-requires
can_hold-requires c = subst IsUsable (sym c.plan.ensures) c.self.invariant.usable
