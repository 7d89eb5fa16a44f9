use Rattle.ec_world.proofs.Words.{◌∙◌, is_accepted}
use Rattle.ec_world.proofs.Refinement.StepsRefine.{taken_plan}
use Rattle.ec_world.proofs.making.answer.Goals as goal

pub ready-requires-clause-same : goal.ready-requires-clause-same
ready-requires-clause-same c = (taken_plan c.args.start.now c.take.new.self c.args.payload.now (is_accepted c.take.result) c.take.ensures).plan ∙ c.requires.same
