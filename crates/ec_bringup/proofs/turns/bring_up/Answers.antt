use Rattle.ec_bringup.specs.BringUp.{rising}
use Rattle.ec_bringup.proofs.StartUp.BringUp.{has-ended, keeps-plan, not-given-up, up}
use Rattle.ec_bringup.proofs.turns.bring_up.Goals as goal

pub returns-clause-plan : goal.returns-clause-plan
returns-clause-plan c = keeps-plan _ (rising c.make_turns.new.startup c.make_turns.new.ring) c.make_turns.ensures

pub returns-clause-ended : goal.returns-clause-ended
returns-clause-ended c = has-ended _ (rising c.make_turns.new.startup c.make_turns.new.ring) c.make_turns.ensures

pub returns-clause-not_given_up : goal.returns-clause-not_given_up
returns-clause-not_given_up c = not-given-up c.args.startup.now c.make_turns.new.startup c.args.ring.now c.make_turns.new.ring c.make_turns.ensures

pub returns-clause-up : goal.returns-clause-up
returns-clause-up c = λ ps fs from. up ps fs from c.args.startup.now c.make_turns.new.startup c.args.ring.now c.make_turns.new.ring c.make_turns.ensures
