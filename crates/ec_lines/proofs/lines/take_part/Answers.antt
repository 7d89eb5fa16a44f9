use Rattle.std.proofs.Common.{List, ℕ, subst, sym}
use Rattle.ec_lines.specs.Inputs.{bytes_left}
use Rattle.ec_lines.specs.Kept.{TakesKept}
use Rattle.ec_lines.specs.Taking.{IsSoFar, IsTaken, max_kept}
use Rattle.ec_lines.proofs.TakeLemmas.{is_whole_now, stays_part}
use Rattle.ec_lines.proofs.TextLemmas.{taken_line}
use Rattle.ec_lines.proofs.lines.take_part.Goals as goal

pub returns-then-not-branch-clause-goes : goal.returns-then-not-branch-clause-goes
returns-then-not-branch-clause-goes g c = λ start h.
    stays_part start (bytes_left g.R.Read.remaining c.take_more.new.input) c.take_more.new.line.items c.in_ok-take_more.field-0 c.if-not-branch.true
    (c.in_ok-take_more.ensures.more start (subst (λ (l : List ℕ). IsSoFar start (bytes_left g.R.Read.remaining c.args.input.now) max_kept l) (sym c.part.view_is) h))

pub returns-clause-goes : goal.returns-clause-goes
returns-clause-goes g c = λ start h.
    let new = bytes_left g.R.Read.remaining c.take_more.new.input in
    let kept = c.take_more.new.line.items in
    let whole : TakesKept start new max_kept kept = is_whole_now start new kept c.in_ok-take_more.field-0 c.if-not-branch.false
    (c.in_ok-take_more.ensures.more start (subst (λ (l : List ℕ). IsSoFar start (bytes_left g.R.Read.remaining c.args.input.now) max_kept l) (sym c.part.view_is) h)) in
    let line = taken_line start new kept c.in_ok-next.next whole (subst (λ (l : List ℕ). IsTaken l c.in_ok-next.next) c.deref.ensures.value c.in_ok-next.ensures) in
    (line.0, line.1, line.2, c.clear.ensures.items)
