use Rattle.std.proofs.Common.{subst}
use Rattle.ec_table.specs.Contents.{Contents}
use Rattle.ec_link.specs.Plan.{plan_of}
use Rattle.ec_link.specs.Sound.{IsSound}
use Rattle.ec_link.specs.Usable.{IsUsable}
use Rattle.ec_link.proofs.Soundness.{plan_sound}
use Rattle.ec_link.proofs.UsableLaws.{plan_usable}
use Rattle.ec_link.proofs.machine.Machine.plan.Goals as goal

pub returns-clause-sound : goal.returns-clause-sound
returns-clause-sound c =
    subst (λ (t : Contents). IsSound t (plan_of t)) c.self.view_is (plan_sound c.self.inside.table c.is_sound.ensures c.self.invariant.0)

pub returns-clause-usable : goal.returns-clause-usable
returns-clause-usable c =
    subst (λ (t : Contents). IsUsable (plan_of t)) c.self.view_is (plan_usable c.self.inside.table c.is_sound.ensures c.self.invariant.0)
