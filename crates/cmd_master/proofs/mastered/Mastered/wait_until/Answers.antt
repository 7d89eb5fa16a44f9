use Rattle.std.proofs.Common.{◌∙◌, ◌-◌, ◌+◌, sym, subst}
use Rattle.ec_script.specs.declared.output.LineOutput.TheVariants.{Unmet}
use Rattle.cmd_master.specs.Doing.{Waits}
use Rattle.cmd_master.proofs.Doing.{ended_there, holds_now, looked, none_left, one_less, went_on}
use Rattle.cmd_master.proofs.mastered.Mastered.wait_until.Goals as goal

pub returns-then-not-is_unmet : goal.returns-then-not-is_unmet
returns-then-not-is_unmet g c =
    c.loop.invariant c.expect-seen.new.self c.expect-seen.result
    (subst (λ n. Waits n c.args.expected c.loop.self c.expect-seen.new.self c.expect-seen.result) (sym (one_less c.args.times c.loop.counter c.loop-test.true))
    (holds_now (c.args.times - (c.loop.counter + 1)) c.args.expected c.loop.self c.expect-seen.new.self c.expect-seen.result c.expect-seen.ensures (sym c.is_unmet.ensures ∙ c.if-not-is_unmet.true)))

pub returns-then-not-is_done : goal.returns-then-not-is_done
returns-then-not-is_done g c =
    c.loop.invariant c.run_cycle.new.self Unmet
    (subst (λ n. Waits n c.args.expected c.loop.self c.run_cycle.new.self Unmet) (sym (one_less c.args.times c.loop.counter c.loop-test.true))
    (ended_there (c.args.times - (c.loop.counter + 1)) c.args.expected c.loop.self c.expect-seen.new.self c.run_cycle.new.self c.expect-seen.result c.run_cycle.result c.expect-seen.ensures (sym c.is_unmet.ensures ∙ c.if-not-is_unmet.false)
    c.run_cycle.ensures (sym c.is_done.ensures ∙ c.if-not-is_done.true)))

pub loop-preserved : goal.loop-preserved
loop-preserved g c = λ t said ahead.
    c.loop.invariant t said
    (subst (λ n. Waits n c.args.expected c.loop.self t said) (sym (one_less c.args.times c.loop.counter c.loop-test.true))
    (went_on (c.args.times - (c.loop.counter + 1)) c.args.expected c.loop.self c.expect-seen.new.self c.run_cycle.new.self t c.expect-seen.result c.run_cycle.result said c.expect-seen.ensures (sym c.is_unmet.ensures ∙ c.if-not-is_unmet.false)
    c.run_cycle.ensures (sym c.is_done.ensures ∙ c.if-not-is_done.false) ahead))

pub returns : goal.returns
returns g c =
    c.loop.invariant c.expect.new.self c.expect.result
    (subst (λ n. Waits n c.args.expected c.loop.self c.expect.new.self c.expect.result) (sym (none_left c.args.times c.loop.counter c.loop-test.false))
    (looked c.args.expected c.loop.self c.expect.new.self c.expect.result c.expect.ensures))
