use Rattle.ec_link.specs.Links.{AreItsLinks}
use Rattle.ec_link.specs.Plan.{PlanState}
use Rattle.ec_link.specs.Sound.{IsSound, IsLaidOut}
use Rattle.ec_link.specs.Usable.{IsUsable}
use Rattle.ec_link.specs.Variables.{AreApart}
use Rattle.ec_link.proofs.CompileParts.{of_the_plan}
use Rattle.ec_link.proofs.PlansHaveTheLinks.{links_are_the_tables}
use Rattle.ec_link.proofs.Soundness.{plan_sound, plan_laid_out}
use Rattle.ec_link.proofs.UsableLaws.{plan_usable}
use Rattle.ec_link.proofs.VariablesApart.{bits_are_apart}
use Rattle.ec_link.proofs.compiling.compile.Goals as goal

pub returns : goal.returns
returns c = record {
  sound = of_the_plan c.args.table.now c.compiled.result (IsSound c.args.table.now) c.compiled.ensures.plan c.compiled.ensures.accepted (plan_sound c.args.table.now c.is_sound.ensures);
  usable = of_the_plan c.args.table.now c.compiled.result IsUsable c.compiled.ensures.plan c.compiled.ensures.accepted (plan_usable c.args.table.now c.is_sound.ensures);
  variables = of_the_plan c.args.table.now c.compiled.result (λ (p : PlanState). AreApart p.variables) c.compiled.ensures.plan c.compiled.ensures.accepted (λ free. bits_are_apart c.args.table.now);
  links = of_the_plan c.args.table.now c.compiled.result (AreItsLinks c.args.table.now) c.compiled.ensures.plan c.compiled.ensures.accepted (links_are_the_tables c.args.table.now c.is_sound.ensures);
  layout = of_the_plan c.args.table.now c.compiled.result (IsLaidOut c.args.table.now) c.compiled.ensures.plan c.compiled.ensures.accepted (λ free. plan_laid_out c.args.table.now);
  plan = c.compiled.ensures.plan;
  accepted = c.compiled.ensures.accepted;
  fault = c.compiled.ensures.fault;
}
