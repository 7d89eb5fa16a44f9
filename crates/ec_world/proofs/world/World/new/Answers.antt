use Rattle.ec_world.proofs.Words.{◌∙◌, ap, length, sym, List, SlavePlan, StartState, MasterState, PlanState, plan_sound, feeds_of}
use Rattle.ec_world.proofs.Refinement.StepsRefine.{begun_feeds, begun_plan}
use Rattle.ec_world.proofs.StartUp.IsNew.{usable-of, few-of}
use Rattle.std.proofs.Common.{rules}
use Rattle.ec_world.proofs.world.World.new.Goals as goal

pub ends_of-requires-clause-few : goal.ends_of-requires-clause-few
ends_of-requires-clause-few c = few-of c.args.table.now c.args.plan.now c.is_sound.ensures c.requires.accepted c.requires.plan

pub ends_of-requires-clause-usable : goal.ends_of-requires-clause-usable
ends_of-requires-clause-usable c = usable-of c.args.table.now c.args.plan.now c.is_sound.ensures c.requires.accepted c.requires.plan

pub switched_on-requires : goal.switched_on-requires
switched_on-requires c =
    c.requires.one_each ∙ (sym (ap (λ (p : PlanState). length p.slaves) c.requires.plan ∙ (plan_sound c.args.table.now c.is_sound.ensures c.requires.accepted).as_many) ∙ ap (λ (xs : List SlavePlan). length xs) (sym c.slaves.ensures.value))

pub invariant_of-result : goal.invariant_of-result
invariant_of-result c = record {
  usable = usable-of c.args.table.now c.args.plan.now c.is_sound.ensures c.requires.accepted c.requires.plan;
  start = ap (λ (x : StartState). x.plan) c.in_ok-start.ensures.start ∙ begun_plan c.args.plan.now.slaves (feeds_of c.args.plan.now) 0;
  feeds = ap (λ (x : StartState). x.feeds) c.in_ok-start.ensures.start ∙ begun_feeds c.args.plan.now.slaves (feeds_of c.args.plan.now) 0;
  master = ap (λ (x : MasterState). x.plan) c.in_ok-start.ensures.master;
}

pub returns : goal.returns
returns c = search rules
