use Rattle.std.proofs.Common.{sym, subst}
use Rattle.std.specs.Prelude.{option_map}
use Rattle.ec_args.specs.Requests.{arguments_of, command_of}
use Rattle.ec_console.specs.Given.{given_by}
use Rattle.ec_app.specs.Running.{LeavesAlone, Runs}
use Rattle.ec_app.proofs.RunLemmas.{segment_alone, segment_runs}
use Rattle.ec_app.proofs.run.run_request.Goals as goal

pub returns-in-Sim-true-default-default-default-clause-alone : goal.returns-in-Sim-true-default-default-default-clause-alone
returns-in-Sim-true-default-default-default-clause-alone g c = subst
    (λ request. LeavesAlone (command_of request) c.args.console.now.input c.run_work.new.console.input c.args.app.now (c.args.app.now.0, c.run_work.new.app)) (sym c.in-Sim-true-default-default-default.is) c.run_work.ensures.alone

pub returns-in-Sim-false-default-default-default-clause-alone : goal.returns-in-Sim-false-default-default-default-clause-alone
returns-in-Sim-false-default-default-default-clause-alone g c = subst
    (λ request. LeavesAlone (command_of request) c.args.console.now.input c.run_work-in-Sim-false-default-default-default.new.console.input c.args.app.now (c.args.app.now.0, c.run_work-in-Sim-false-default-default-default.new.app))
    (sym c.in-Sim-false-default-default-default.is) c.run_work-in-Sim-false-default-default-default.ensures.alone

pub returns-in-Master-clause-alone : goal.returns-in-Master-clause-alone
returns-in-Master-clause-alone g c = subst
    (λ request. LeavesAlone (command_of request) c.args.console.now.input c.run_work-in-Master.new.console.input c.args.app.now (c.args.app.now.0, c.run_work-in-Master.new.app)) (sym c.in-Master.is)
    c.run_work-in-Master.ensures.alone

pub returns-in-Segment-clause-runs : goal.returns-in-Segment-clause-runs
returns-in-Segment-clause-runs g c =
    let ran = c.run_work-in-Segment in
    let work = c.segment_work.ensures in
    subst (λ request. Runs (option_map (λ x. x.now) c.args.inputs.table) (command_of request) (given_by g.R.Read.remaining c.args.console.now.input ran.new.console.input) (record { old = c.args.console.now.output; new = ran.new.console.output })
    (record { old = c.args.console.now.faults; new = ran.new.console.faults }) ran.result) (sym c.in-Segment.is)
    (segment_runs (option_map (λ x. x.now) c.args.inputs.table) (arguments_of c.in-Segment.options) c.in-Segment.explained work.0 c.segment_work.result (option_map (λ x. x.now) c.in-Segment.capture) _ _ _ ran.result work.1 work.2 ran.ensures.runs)

pub returns-in-Segment-clause-alone : goal.returns-in-Segment-clause-alone
returns-in-Segment-clause-alone g c =
    let ran = c.run_work-in-Segment in
    let work = c.segment_work.ensures in
    subst (λ request. LeavesAlone (command_of request) c.args.console.now.input ran.new.console.input c.args.app.now (c.args.app.now.0, ran.new.app)) (sym c.in-Segment.is)
    (segment_alone (arguments_of c.in-Segment.options) c.in-Segment.explained work.0 c.segment_work.result _ _ work.2 ran.ensures.alone)
