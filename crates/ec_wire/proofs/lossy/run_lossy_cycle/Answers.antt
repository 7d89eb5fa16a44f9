use Rattle.std.proofs.Common.{◌∙◌, ap, is_some, refl}
use Rattle.ec_cycle.specs.Master.{MasterState}
use Rattle.ec_wire.proofs.TakenPayloads.{inputs-stay, not_none, stays-open}
use Rattle.ec_wire.proofs.lossy.run_lossy_cycle.Goals as goal

-- what was taken changed no input, and then the cycle was dropped
pub returns-then-not-exchange-clause-unchanged : goal.returns-then-not-exchange-clause-unchanged
returns-then-not-exchange-clause-unchanged g c = λ _.
    let x = c.exchange.ensures.heard in
    ap (λ (m : MasterState). m.inputs) c.abandon.ensures ∙ inputs-stay c.begin.new.self c.exchange.new.master x.got x.taken
    ∙ ap (λ (m : MasterState). m.inputs) c.in_ok-begin.ensures.begun.1.is

-- a cycle that was begun and not dropped is open
pub returns-in_err-close-clause-run : goal.returns-in_err-close-clause-run
returns-in_err-close-clause-run g c = λ _.
    let x = c.exchange.ensures.heard in
    let begun = ap (λ (m : MasterState). is_some m.cycle) c.in_ok-begin.ensures.begun.1.is in
    let there = stays-open c.begin.new.self c.exchange.new.master x.got x.taken begun in
    absurd (not_none _ there (c.in_err-close.ensures.not_open.0 refl))

pub returns-in_err-close-clause-unchanged : goal.returns-in_err-close-clause-unchanged
returns-in_err-close-clause-unchanged g c = λ _.
    let x = c.exchange.ensures.heard in
    let begun = ap (λ (m : MasterState). is_some m.cycle) c.in_ok-begin.ensures.begun.1.is in
    let there = stays-open c.begin.new.self c.exchange.new.master x.got x.taken begun in
    absurd (not_none _ there (c.in_err-close.ensures.not_open.0 refl))
