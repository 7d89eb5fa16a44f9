use Rattle.std.proofs.Common.{◌∙◌, ap, subst}
use Rattle.ec_table.specs.Contents.{Contents}
use Rattle.ec_script.specs.Scripts.{reading_of}
use Rattle.ec_lines.specs.Taking.{IsTaken}
use Rattle.ec_console.specs.Coming.{reading_at}
use Rattle.ec_console.proofs.TakenLines.{came_end, came_none, text_draft, text_due}
use Rattle.ec_console.proofs.running.due_at.Goals as goal

pub returns-in-End-clause-draft : goal.returns-in-End-clause-draft
returns-in-End-clause-draft g c = λ line is.
    c.end.ensures.draft ∙ (came_end (reading_at g.T.Target.takes (g.T.Target.table c.args.target.now)) c.args.draft.now c.args.number line (subst (IsTaken line) c.in-End.is is)).0

pub returns-in-End-clause-due : goal.returns-in-End-clause-due
returns-in-End-clause-due g c = λ line is.
    c.end.ensures.due ∙ (came_end (reading_at g.T.Target.takes (g.T.Target.table c.args.target.now)) c.args.draft.now c.args.number line (subst (IsTaken line) c.in-End.is is)).1

pub returns-in_ok-reading-in-Text-clause-draft : goal.returns-in_ok-reading-in-Text-clause-draft
returns-in_ok-reading-in-Text-clause-draft g c =
    text_draft g.T.Target.takes (g.T.Target.table c.args.target.now) c.gather.result c.args.draft.now c.gather.new.self c.args.number c.args.taken.now c.as_str.result.now c.unindented-text.result.now c.in_ok-reading-in-Text.reading
    c.taken_by.result (λ line is. let of_it = subst (IsTaken line) c.in-Text.is is in (of_it.0, of_it.1, c.as_str.ensures.value ∙ of_it.2)) c.unindented-text.ensures (c.in_ok-reading-in-Text.ensures ∙ ap (λ (t : Contents). reading_of t c.args.number c.unindented-text.result.now) c.table.ensures) c.taken_by.ensures c.gather.ensures.draft

pub returns-in_ok-reading-in-Text-clause-due : goal.returns-in_ok-reading-in-Text-clause-due
returns-in_ok-reading-in-Text-clause-due g c =
    text_due g.T.Target.takes (g.T.Target.table c.args.target.now) c.gather.result c.args.draft.now c.args.number c.args.taken.now c.as_str.result.now c.unindented-text.result.now c.in_ok-reading-in-Text.reading
    c.taken_by.result (λ line is. let of_it = subst (IsTaken line) c.in-Text.is is in (of_it.0, of_it.1, c.as_str.ensures.value ∙ of_it.2)) c.unindented-text.ensures (c.in_ok-reading-in-Text.ensures ∙ ap (λ (t : Contents). reading_of t c.args.number c.unindented-text.result.now) c.table.ensures) c.taken_by.ensures c.gather.ensures.due

pub returns-in-NoText-clause-draft : goal.returns-in-NoText-clause-draft
returns-in-NoText-clause-draft g c = λ line is.
    let none = subst (IsTaken line) c.in-NoText.is is in
    (came_none g.T.Target.takes (g.T.Target.table c.args.target.now) c.args.draft.now c.args.number line none.0 none.1).0

pub returns-in-NoText-clause-due : goal.returns-in-NoText-clause-due
returns-in-NoText-clause-due g c = λ line is.
    let none = subst (IsTaken line) c.in-NoText.is is in
    (came_none g.T.Target.takes (g.T.Target.table c.args.target.now) c.args.draft.now c.args.number line none.0 none.1).1
