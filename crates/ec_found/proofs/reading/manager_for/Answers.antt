use Rattle.std.proofs.Common.{ℕ, ◌+◌, ◌/◌, ◌<◌, ◌≤◌, ◌≡◌, ◌≢◌, List, length, get_or, sym, ap, ◌∙◌, arith}
use Rattle.ec_found.specs.Founds.{managers_in, used_from}
use Rattle.ec_found.proofs.FirstWords.{manager_passed, manager_past}
use Rattle.ec_found.proofs.reading.manager_for.Goals as goal

pub loop-number-preserved : goal.loop-number-preserved
loop-number-preserved c =
    let few : c.loop-number.number < 16 = omega arith in
    let l : 4 ≤ length c.loop-number.rest.now = omega arith in
    let e : get_or c.loop-number.rest.now 3 0 / 256 ≢ c.args.usage = λ z. c.if-high-usage.false (c.high.ensures ∙ z) in
    c.loop-number.invariant
    ∙ manager_passed c.args.usage c.loop-number.number c.loop-number.rest.now few l e
    ∙ ap (λ (ws : List ℕ). used_from c.args.usage (c.loop-number.number + 1) (managers_in ws)) (sym c.behind-next.ensures)

pub returns : goal.returns
returns c =
    let n : c.loop-number.number ≡ 16 = omega arith in
    sym (c.loop-number.invariant
    ∙ ap (λ (k : ℕ). used_from c.args.usage k (managers_in c.loop-number.rest.now)) n
    ∙ manager_past c.args.usage c.loop-number.rest.now)
