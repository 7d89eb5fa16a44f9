use Rattle.ec_bringup.proofs.Words.{◌≡◌, ◌∙◌, ap, length, subst, sym, List, Identity, SlavePlan, PlanState, plan_sound}
use Rattle.ec_bringup.proofs.switching.slaves_of.Goals as goal

pub switched_on-requires : goal.switched_on-requires
switched_on-requires c =
    ap (λ (xs : List Identity). length xs) c.as_slice.ensures.value
    ∙ ((c.in_ok-identities.ensures {u = tt}).one_each
    ∙ (sym (subst (λ (p : PlanState). length p.slaves ≡ length c.args.table.now.slaves) (sym c.requires.plan)
    (plan_sound c.args.table.now c.is_sound.ensures c.requires.accepted).as_many)
    ∙ ap (λ (xs : List SlavePlan). length xs) (sym c.slaves.ensures.value)))
