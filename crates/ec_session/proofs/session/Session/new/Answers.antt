use Rattle.std.proofs.Common.{◌∙◌, sym}
use Rattle.std.specs.Arc.{arc_value}
use Rattle.ec_session.proofs.Plans.{has_few_assigned, is_new, is_usable}
use Rattle.ec_session.proofs.session.Session.new.Goals as goal

pub of-startup-requires : goal.of-startup-requires
of-startup-requires c =
    has_few_assigned c.deref.result.now (arc_value c.in_ok-clone.field-0) c.plan.ensures.table c.plan.ensures.accepted (c.in_ok-clone.ensures.cases ∙ sym c.deref.ensures)

pub of-requires : goal.of-requires
of-requires c =
    is_usable c.deref.result.now (arc_value c.in_ok-clone-2.field-0) c.plan.ensures.usable (c.in_ok-clone-2.ensures.cases ∙ sym c.deref.ensures)

pub invariant_of-result : goal.invariant_of-result
invariant_of-result c =
    is_new (arc_value c.in_ok-machine.machine) (arc_value c.in_ok-clone.field-0) (arc_value c.in_ok-clone-2.field-0) c.of-startup.result c.in_ok-master.master c.in_ok-clone.ensures.cases c.in_ok-clone-2.ensures.cases
    c.of-startup.ensures.begun c.in_ok-master.ensures
