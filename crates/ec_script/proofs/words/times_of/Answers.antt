use Rattle.std.proofs.Common.{◌∙◌, ◌≤◌, refl, sym, arith}
use Rattle.ec_script.specs.Words.{times_of}
use Rattle.ec_script.proofs.Values.{never, often, too_often}
use Rattle.ec_script.proofs.words.times_of.Goals as goal
use Rattle.ec_script.proofs.words.times_of.Goals.{then-times-eq0-via-then-times-eq0, then-times-eq0-via-else-times-eq0+then-times-gt1000000}

pub returns-in_err-times : goal.returns-in_err-times
unfolding times_of
returns-in_err-times c = rw (← c.number_of.ensures, c.in_err-times.was) c.from_residual.ensures

pub returns-then-times-eq0 : goal.returns-then-times-eq0
unfolding times_of
returns-then-times-eq0 c =
    let read = sym c.number_of.ensures ∙ c.in_ok-times.was in
    elim c.then-times-eq0.branch [
      | then-times-eq0-via-then-times-eq0 w ↦ never c.in_ok-times.times _ read w.if-times-eq0.true
      | then-times-eq0-via-else-times-eq0+then-times-gt1000000 w ↦ too_often c.in_ok-times.times _ read w.if-times-gt1000000.true
    ]

pub returns : goal.returns
unfolding times_of
returns c =
    let some : 1 ≤ c.in_ok-times.times = omega arith in
    let few : c.in_ok-times.times ≤ 1000000 = omega arith in
    rw (← c.number_of.ensures, c.in_ok-times.was, often c.in_ok-times.times some few) refl
