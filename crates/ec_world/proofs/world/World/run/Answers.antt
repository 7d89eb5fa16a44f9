use Rattle.ec_world.proofs.Words.{ℕ, ◌≡◌, ◌≤◌, ◌+◌, ◌∷◌, ◌++◌, [], List, sym, subst, arith, take, get_or, if◌then◌else◌, Bool, true, false, take_more, take_all, Event, StartNext, IsRun}
use Rattle.ec_world.proofs.Runs.PlanLaw.{run_keeps}
use Rattle.ec_world.proofs.Refinement.StepsRefine.{run_more, runs_refine}
use Rattle.ec_world.proofs.StartUp.NewLaw.{comes_up}
use Rattle.ec_world.proofs.StartUp.IsNew.{told-new}
use Rattle.ec_world.proofs.Headline.HeadlineLaw.{each_promised}
use Rattle.ec_world.proofs.world.World.run.Goals as goal
use Rattle.ec_world.proofs.world.World.run.Goals.{then-make, else-make}
use Rattle.std.proofs.Common.{rules}

counted_in : (b : Bool) (more made : ℕ) → b ≡ true → more ≡ made + 1 → more ≡ made + (if b then 1 else 0)
counted_in true more made t e = e
counted_in false more made t e = cc

counted_out : (b : Bool) (more made : ℕ) → b ≡ false → more ≡ made → more ≡ made + (if b then 1 else 0)
counted_out false more made f e = omega arith
counted_out true more made f e = cc

at_most_one : (b : Bool) (more made i : ℕ) → more ≡ made + (if b then 1 else 0) → made ≤ i → more ≤ i + 1
at_most_one true more made i e l = omega arith
at_most_one false more made i e l = omega arith

pub loop-event-preserved : goal.loop-event-preserved
loop-event-preserved c =
    let sum : c.if-make.made ≡ c.loop-event.made + (if c.make.result then 1 else 0) = elim c.if-make.branch [
      | then-make w ↦ counted_in c.make.result c.if-make.made c.loop-event.made w.if-make.true w.made-is
      | else-make w ↦ counted_out c.make.result c.if-make.made c.loop-event.made w.if-make.false w.made-is
    ] in
    let i = c.loop-event.event-index in
    let events = c.args.events.now in
    let split : take (i + 1) events ≡ take i events ++ get_or events i StartNext ∷ [] = take_more events i StartNext (omega arith) in
    record {
      runs = subst (λ (es : List Event). IsRun c.args.self.now es c.make.new.self c.if-make.made) (sym split)
          (subst (λ (n : ℕ). IsRun c.args.self.now (take i events ++ get_or events i StartNext ∷ []) c.make.new.self n) (sym sum)
          (run_more c.args.self.now (take i events) c.loop-event.self c.loop-event.made (get_or events i StartNext) c.make.new.self c.make.result c.loop-event.invariant.runs c.make.ensures));
      few = at_most_one c.make.result c.if-make.made c.loop-event.made i sum c.loop-event.invariant.few;
    }

pub returns-clause-steps : goal.returns-clause-steps
returns-clause-steps c =
    subst (λ (es : List Event). IsRun c.args.self.now es c.loop-event.self c.loop-event.made) (take_all c.loop-event.event-index c.args.events.now (omega arith)) c.loop-event.invariant.runs

pub returns-clause-plan : goal.returns-clause-plan
returns-clause-plan c = run_keeps c.args.self.now c.args.events.now c.loop-event.self c.loop-event.made (returns-clause-steps c)

pub returns-clause-refines : goal.returns-clause-refines
returns-clause-refines c = runs_refine c.args.self.now c.args.events.now c.loop-event.self c.loop-event.made c.is_sound.ensures (returns-clause-steps c)

pub returns-clause-whole : goal.returns-clause-whole
returns-clause-whole c = λ t is new. told-new t is c.args.self.now c.args.events.now c.loop-event.self c.loop-event.made new (returns-clause-steps c)

pub returns-clause-up : goal.returns-clause-up
returns-clause-up c = λ t from turns. comes_up t c.args.self.now from c.args.events.now c.loop-event.self c.loop-event.made turns (returns-clause-steps c)

pub returns-clause-headline : goal.returns-clause-headline
returns-clause-headline c = λ t is first past count new to_here. each_promised t is first past c.args.self.now count c.args.events.now c.loop-event.self c.loop-event.made new to_here (returns-clause-steps c)

pub loop-event-init : goal.loop-event-init
loop-event-init c = search rules
