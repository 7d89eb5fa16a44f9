use Rattle.std.proofs.Common.{◌≡◌, ◌∙◌, ℕ, arith, subst}
use Rattle.ec_start.specs.Held.{IsAtStep}
use Rattle.ec_start.proofs.Startups.{begins, advances, step_found, step_past}
use Rattle.ec_start.proofs.steps.step_at.Goals as goal

pub loop-init : goal.loop-init
loop-init c = rw c.first_step-step.ensures (begins c.slaves-slaves.result.now)

pub settle-requires : goal.settle-requires
settle-requires c =
    let few = c.slaves-slaves.ensures.planned.few in
    rw c.slaves-slaves.ensures.value (record { few = few; assigned = c.requires; low = c.loop.invariant.low })

pub loop-preserved : goal.loop-preserved
loop-preserved c = (advances c.slaves-slaves.result.now c.loop.counter c.loop.step c.in_ok-step.step c.loop.invariant c.in_ok-step.ensures).at_step

pub returns-in_err-step : goal.returns-in_err-step
returns-in_err-step c =
    c.from_residual.ensures
    ∙ step_past c.slaves-slaves.result.now c.args.plan.now.slaves c.loop.counter c.args.number c.loop.step c.slaves-slaves.ensures.value c.loop-test.true c.loop.invariant c.in_err-step.ensures

pub returns : goal.returns
returns c =
    let most = c.loop.auto.counter-end in
    let last : c.loop.counter ≡ c.args.number = omega (arith, most, c.loop-test.false) in
    let at = subst (λ (n : ℕ). IsAtStep c.slaves-slaves.result.now n c.loop.step) last c.loop.invariant in
    step_found c.slaves-slaves.result.now c.args.plan.now.slaves c.args.number c.loop.step c.slaves-slaves.ensures.value at
