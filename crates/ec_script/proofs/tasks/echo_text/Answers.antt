use Rattle.ec_script.proofs.TaskSteps.{text_all, text_more}
use Rattle.ec_script.proofs.tasks.echo_text.Goals as goal

pub loop-word-preserved : goal.loop-word-preserved
loop-word-preserved c = text_more c.in-Some.rest.now c.loop-word.word-index _ c.loop-word.text c.push_word.new.text _ c.loop-word-test.true c.in_ok-push_word.ensures c.loop-word.invariant

pub returns : goal.returns
returns c = text_all c.in-Some.rest.now c.loop-word.word-index c.loop-word.text _ c.loop-word-test.false c.loop-word.invariant
