use Rattle.std.proofs.Common.{◌∙◌, ◌*◌, length, sym}
use Rattle.ec_script.proofs.TaskSteps.{next_pair, odd_none, pair_within, pairs_all, settings_all, settings_bad, settings_more}
use Rattle.ec_script.proofs.tasks.each_setting.Goals as goal

pub returns-then-words-eq1 : goal.returns-then-words-eq1
returns-then-words-eq1 c = odd_none c.args.table.now c.args.words.now c.if-words-eq1.true

pub returns-in_default : goal.returns-in_default
returns-in_default c =
    settings_bad c.args.table.now c.args.words.now (2 * c.loop-pair.pair) _ c.loop-pair.actions _ (pair_within c.loop-pair.pair (length c.args.words.now) c.loop-pair-test.true) (sym c.action_of_words.ensures ∙ c.in_default.is)
    c.loop-pair.invariant

pub loop-pair-preserved : goal.loop-pair-preserved
loop-pair-preserved c =
    next_pair c.args.table.now c.args.words.now c.loop-pair.pair c.push.new.self _
    (settings_more c.args.table.now c.args.words.now (2 * c.loop-pair.pair) _ c.loop-pair.actions c.push.new.self c.in-Some.action _ (pair_within c.loop-pair.pair (length c.args.words.now) c.loop-pair-test.true)
    (sym c.action_of_words.ensures ∙ c.in-Some.is) c.in_ok-push.ensures.ok c.loop-pair.invariant)

pub returns : goal.returns
returns c = settings_all c.args.table.now c.args.words.now (2 * c.loop-pair.pair) c.loop-pair.actions _ (pairs_all c.loop-pair.pair (length c.args.words.now) c.if-words-eq1.false c.loop-pair-test.false) c.loop-pair.invariant
