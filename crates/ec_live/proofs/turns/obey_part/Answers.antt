use Rattle.std.proofs.Common.{◌≡◌, ℕ, List, Option, ap, subst, arith}
use Rattle.ec_lines.specs.Inputs.{bytes_left}
use Rattle.ec_lines.specs.Taking.{GoesOn, IsSoFar, max_kept}
use Rattle.ec_lines.specs.declared.lines.NextLine.{NextLine}
use Rattle.ec_live.specs.Living.{RunState}
use Rattle.ec_live.specs.Stages.{FitsLines, LinesState, ObeysCut}
use Rattle.ec_live.proofs.Running.{known_err, no_done, none_more, part_taken, whole_cut, whole_obeyed}
use Rattle.ec_live.proofs.turns.obey_part.Goals as goal

pub returns-in-Ok-None-clause-obeyed : goal.returns-in-Ok-None-clause-obeyed
returns-in-Ok-None-clause-obeyed g c = λ s a b h.
    let i = c.lines.inside in
    part_taken s _ _ c.args.lines.now i.part c.take_part.new.part i.draft i.count i.unmet i.is_open _ _ c.in-Ok-None.field-0 c.lines.view_is c.if-not-lines.false c.take_part.ensures.taken c.in-Ok-None.ensures.goes
    c.in-Ok-None.field-0-is a b h

pub returns-in-Err-Unread-clause-obeyed : goal.returns-in-Err-Unread-clause-obeyed
returns-in-Err-Unread-clause-obeyed g c = λ s a b h.
    let i = c.lines.inside in
    none_more s _ _ c.args.lines.now i.part c.take_part.new.part i.draft i.count i.unmet i.is_open _ _ c.lines.view_is c.take_part.ensures.taken a b h

pub returns-in_ok-unmet-in-Ok-Some : goal.returns-in_ok-unmet-in-Ok-Some
returns-in_ok-unmet-in-Ok-Some g c =
    let i = c.lines.inside in
    let l = c.args.lines.now in
    let old = bytes_left g.R.Read.remaining c.args.input.now in
    let new = bytes_left g.R.Read.remaining c.take_part.new.input in
    let same : i.count ≡ l.count = ap (λ (x : LinesState). x.count) c.lines.view_is in
    let took = c.in-Ok-Some.taken in
    let goes = subst (λ (o : Option NextLine). (start : Option (List ℕ)) → IsSoFar start old max_kept i.part → GoesOn start new c.take_part.new.part o) c.in-Ok-Some.field-0-is c.in-Ok-Some.ensures.goes in
    record {
      obeyed = λ s a b h. whole_obeyed s c.args.live.now c.obey_taken.new.target c.args.output.now c.obey_taken.new.output l i.part c.take_part.new.part i.draft c.obey_taken.new.draft i.count i.unmet
          c.saturating_add-lines-inside.result c.in_ok-unmet-in-Ok-Some.unmet c.saturating_add-lines-inside-in-Ok-Some.result i.is_open _ old new took c.lines.view_is c.if-not-lines.false (omega (arith, c.requires))
          c.saturating_add-lines-inside.ensures c.saturating_add-lines-inside-in-Ok-Some.ensures goes c.in_ok-unmet-in-Ok-Some.ensures.all c.in_ok-unmet-in-Ok-Some.ensures.draft a b h;
      cut = tt;
      taken = c.take_part.ensures.taken;
      count = omega (arith, c.saturating_add-lines-inside.ensures);
    }

pub returns-in_err-unmet-in-Ok-Some : goal.returns-in_err-unmet-in-Ok-Some
returns-in_err-unmet-in-Ok-Some g c =
    let i = c.lines.inside in
    let l = c.args.lines.now in
    let live = c.args.live.now in
    let next = c.obey_taken.new.target in
    let before = c.args.output.now in
    let after = c.obey_taken.new.output in
    let old = bytes_left g.R.Read.remaining c.args.input.now in
    let new = bytes_left g.R.Read.remaining c.take_part.new.input in
    let n = c.saturating_add-lines-inside.result in
    let same : i.count ≡ l.count = ap (λ (x : LinesState). x.count) c.lines.view_is in
    let took = c.in-Ok-Some.taken in
    let x = c.in_err-unmet-in-Ok-Some.field-0.0 in
    let ended = c.from_residual.result in
    let goes = subst (λ (o : Option NextLine). (start : Option (List ℕ)) → IsSoFar start old max_kept i.part → GoesOn start new c.take_part.new.part o) c.in-Ok-Some.field-0-is c.in-Ok-Some.ensures.goes in
    record {
      obeyed = no_done _ ended x c.from_residual.ensures.1;
      cut = known_err (λ refusal. (s : RunState) → s.live ≡ live → s.output ≡ before → FitsLines s l old → ObeysCut s next after refusal) ended x c.from_residual.ensures.1
          (λ s a b h. whole_cut s live next before after l i.part c.take_part.new.part i.draft i.count i.unmet n i.is_open old new took x c.lines.view_is c.if-not-lines.false (omega (arith, c.requires))
          c.saturating_add-lines-inside.ensures goes c.in_err-unmet-in-Ok-Some.ensures.part c.in_err-unmet-in-Ok-Some.ensures.late a b h);
      taken = c.take_part.ensures.taken;
      count = omega (arith, c.saturating_add-lines-inside.ensures);
    }
