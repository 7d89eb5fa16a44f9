use Rattle.std.proofs.Common.{◌∙◌, ◌+◌, ℕ, Ok, subst, arith}
use Rattle.ec_wire.specs.Running.{IsRun}
use Rattle.cmd_loop.specs.Looping.{IsCycleRefusal, with_outputs}
use Rattle.ec_console.specs.Printing.{IsCutOff, IsPrinted}
use Rattle.cmd_loop.proofs.LoopLemmas.{cut_between, cut_ready, cut_report, none_reported, one_reported, since_ready}
use Rattle.cmd_loop.proofs.looping.print_cycles.Goals as goal

pub returns-in_err-print_text-clause-part : goal.returns-in_err-print_text-clause-part
returns-in_err-print_text-clause-part g c =
    cut_ready _ c.in_err-print_text.field-0.0 c.args.cycles c.args.machine.now c.args.master.now (g.W.Wire.state c.args.wire.now) _ _ c.from_residual.ensures.1 c.in_err-print_text.ensures.fault
    (subst (IsCutOff _ _) c.as_bytes.ensures.value c.in_err-print_text.ensures.part)

pub loop-cycle-init : goal.loop-cycle-init
loop-cycle-init g c = record { can = c.requires.ready; printed = none_reported _ _ _ _; within = omega arith }

pub returns-in_err-line-clause-part : goal.returns-in_err-line-clause-part
returns-in_err-line-clause-part g c =
    cut_between _ c.in_err-line.field-0.0 c.args.cycles c.args.machine.now c.args.master.now c.loop-cycle.master
    (g.W.Wire.state c.args.wire.now) (g.W.Wire.state c.loop-cycle.wire) (g.W.Wire.state c.cycle_line.new.wire) _ _ c.loop-cycle.cycle c.from_residual-in_err-line.ensures.1
    (subst (λ (n : ℕ). IsCycleRefusal (with_outputs c.loop-cycle.master (n + 1)) (g.W.Wire.state c.loop-cycle.wire) (g.W.Wire.state c.cycle_line.new.wire) c.in_err-line.field-0.0)
    c.from.ensures c.in_err-line.ensures.refused)
    (since_ready _ _ _ _ _ _ _ _ _ (subst (IsPrinted _ _) c.as_bytes.ensures.value c.in_ok-print_text.ensures.all) c.loop-cycle.invariant.printed) c.loop-cycle-test.true

pub returns-in_err-print_text-2-clause-part : goal.returns-in_err-print_text-2-clause-part
returns-in_err-print_text-2-clause-part g c =
    let line = c.in_ok-line.ensures.line in
    cut_report _ c.in_err-print_text-2.field-0.0 c.args.cycles c.args.machine.now c.args.master.now c.loop-cycle.master c.cycle_line.new.master
    (g.W.Wire.state c.args.wire.now) (g.W.Wire.state c.loop-cycle.wire) (g.W.Wire.state c.cycle_line.new.wire) _ _ _ _ c.loop-cycle.cycle _ line.0
    c.from_residual-in_err-print_text-2.ensures.1 c.in_err-print_text-2.ensures.fault
    (subst (IsPrinted _ _) c.as_bytes.ensures.value c.in_ok-print_text.ensures.all) c.loop-cycle.invariant.printed
    (subst (λ (n : ℕ). IsRun (with_outputs c.loop-cycle.master (n + 1)) (g.W.Wire.state c.loop-cycle.wire) (g.W.Wire.state c.cycle_line.new.wire) (Ok line.0) c.cycle_line.new.master) c.from.ensures line.1)
    c.loop-cycle-test.true
    (c.as_bytes-in-loop-cycle.ensures.value ∙ line.2) c.in_err-print_text-2.ensures.part

pub loop-cycle-preserved : goal.loop-cycle-preserved
loop-cycle-preserved g c =
    let line = c.in_ok-line.ensures.line in
    let lt = c.loop-cycle-test.true in
    record {
      can = c.in_ok-line.ensures.ready;
      printed = one_reported _ _ _ _ _ _ _ _ _ _ _ _ line.0 c.loop-cycle.invariant.printed
          (subst (λ (n : ℕ). IsRun (with_outputs c.loop-cycle.master (n + 1)) (g.W.Wire.state c.loop-cycle.wire) (g.W.Wire.state c.cycle_line.new.wire) (Ok line.0) c.cycle_line.new.master) c.from.ensures line.1)
          (c.as_bytes-in-loop-cycle.ensures.value ∙ line.2) c.in_ok-print_text-2.ensures.all;
      within = omega (arith, lt);
    }

pub returns-clause-all : goal.returns-clause-all
returns-clause-all g c =
    let p = since_ready c.args.machine.now _ _ _ _ _ _ _ _ (subst (IsPrinted _ _) c.as_bytes.ensures.value c.in_ok-print_text.ensures.all) c.loop-cycle.invariant.printed in
    let count = p.count in
    let within = c.loop-cycle.invariant.within in
    let end = c.loop-cycle-test.false in
    (p.reports, p.run, omega (arith, count, within, end), p.printed)
