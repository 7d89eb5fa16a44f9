use Rattle.ec_console.specs.Coming.{reading_at}
use Rattle.ec_console.proofs.TakenLines.{if_ok, taken_does, taken_stops, taken_unread}
use Rattle.ec_console.proofs.running.obey_taken.Goals as goal

pub returns-in_err-due-clause-part : goal.returns-in_err-due-clause-part
returns-in_err-due-clause-part g c =
    taken_unread g.T.Target.says (g.T.Target.manner c.args.target.now) (reading_at g.T.Target.takes (g.T.Target.table c.args.target.now)) c.from_residual.result c.args.draft.now c.args.target.now c.args.number c.args.taken c.args.output.now

pub returns-clause-all : goal.returns-clause-all
returns-clause-all g c =
    taken_does g.T.Target.says (g.T.Target.manner c.args.target.now) (reading_at g.T.Target.takes (g.T.Target.table c.args.target.now)) c.obey_due.result c.args.draft.now c.args.target.now c.obey_due.new.target c.args.number c.in_ok-due.due c.args.taken c.args.output.now
    c.obey_due.new.output c.in_ok-due.ensures.due c.obey_due.ensures.all

pub returns-clause-draft : goal.returns-clause-draft
returns-clause-draft g c = if_ok c.obey_due.result c.in_ok-due.ensures.draft

pub returns-clause-part : goal.returns-clause-part
returns-clause-part g c =
    taken_stops g.T.Target.says (g.T.Target.manner c.args.target.now) (reading_at g.T.Target.takes (g.T.Target.table c.args.target.now)) c.obey_due.result c.args.draft.now c.args.target.now c.obey_due.new.target c.args.number c.in_ok-due.due c.args.taken c.args.output.now
    c.obey_due.new.output c.in_ok-due.ensures.due c.obey_due.ensures.part
