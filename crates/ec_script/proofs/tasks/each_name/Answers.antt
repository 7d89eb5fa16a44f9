use Rattle.std.proofs.Common.{◌∙◌, sym}
use Rattle.ec_script.proofs.TaskSteps.{names_all, names_bad, names_more}
use Rattle.ec_script.proofs.tasks.each_name.Goals as goal

pub returns-in_default : goal.returns-in_default
returns-in_default c =
    names_bad c.args.table.now c.args.verb.now c.args.names.now c.loop-name.name-index _ c.loop-name.actions _ c.loop-name-test.true (sym c.action_of_words.ensures ∙ c.in_default.is) c.loop-name.invariant

pub loop-name-preserved : goal.loop-name-preserved
loop-name-preserved c =
    names_more c.args.table.now c.args.verb.now c.args.names.now c.loop-name.name-index _ c.loop-name.actions c.push.new.self c.in-Some.action _ c.loop-name-test.true
    (sym c.action_of_words.ensures ∙ c.in-Some.is) c.in_ok-push.ensures.ok c.loop-name.invariant

pub returns : goal.returns
returns c = names_all c.args.table.now c.args.verb.now c.args.names.now c.loop-name.name-index c.loop-name.actions _ c.loop-name-test.false c.loop-name.invariant
