use Rattle.ec_world.proofs.Words.{subst, IsStep}
use Rattle.ec_world.proofs.Headline.HeadlineLaw.{headline_law}
use Rattle.ec_world.proofs.Runs.PlanLaw.{plan_stays}
use Rattle.ec_world.proofs.Refinement.StepsRefine.{steps_refine}
use Rattle.ec_world.proofs.world.World.step.Goals as goal

pub returns-clause-plan : goal.returns-clause-plan
returns-clause-plan c = plan_stays c.args.self.now c.args.event c.make.new.self c.make.result c.make.ensures

pub returns-clause-refines : goal.returns-clause-refines
returns-clause-refines c = steps_refine c.args.self.now c.args.event c.make.new.self c.make.result c.is_sound.ensures c.make.ensures

pub returns-clause-headline : goal.returns-clause-headline
returns-clause-headline c = λ t ids first events made n h up yes. headline_law t ids first events c.args.self.now made n h up c.args.event c.make.new.self (subst (λ b. IsStep c.args.self.now c.args.event c.make.new.self b) yes c.make.ensures)
