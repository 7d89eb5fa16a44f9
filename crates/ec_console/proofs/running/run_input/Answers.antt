use Rattle.std.proofs.Common.{◌+◌, ◌∙◌, refl, sym}
use Rattle.ec_lines.specs.Inputs.{bytes_left}
use Rattle.ec_console.specs.Coming.{reading_at}
use Rattle.ec_console.proofs.ComeLemmas.{come_cut, come_on, come_out, come_stop, none_come, same_does, same_draft, same_stops}
use Rattle.ec_console.proofs.PrintLemmas.{if_err}
use Rattle.ec_console.proofs.running.run_input.Goals as goal

pub loop-place-init : goal.loop-place-init
loop-place-init g c = record {
  come = none_come g.T.Target.says g.T.Target.manner (reading_at g.T.Target.takes (g.T.Target.table c.args.target.now)) c.args.target.now (bytes_left g.R.Read.remaining c.args.input.now) c.new-draft.result c.args.output.now c.new-draft.ensures;
  table = refl;
}

pub returns-in_err-taken-clause-part : goal.returns-in_err-taken-clause-part
returns-in_err-taken-clause-part g c =
    if_err _ (come_stop g.T.Target.says g.T.Target.manner (reading_at g.T.Target.takes (g.T.Target.table c.args.target.now)) c.args.target.now c.loop-place.target _ _ c.loop-place.place c.loop-place.draft c.loop-place.unmet _ _ c.loop-place.invariant.come)

pub returns-in_err-count-clause-part : goal.returns-in_err-count-clause-part
returns-in_err-count-clause-part g c =
    if_err _ (come_cut g.T.Target.says g.T.Target.manner (reading_at g.T.Target.takes (g.T.Target.table c.args.target.now)) c.args.target.now c.loop-place.target c.obey_taken.new.target _ _ _ c.loop-place.place c.loop-place.draft c.loop-place.unmet c.in_ok-taken.taken _ _ _
    c.loop-place.invariant.come c.in_ok-taken.ensures.taken
    (same_stops g.T.Target.says g.T.Target.manner (reading_at g.T.Target.takes) (g.T.Target.table c.args.target.now) (g.T.Target.table c.loop-place.target) c.loop-place.draft c.loop-place.target c.obey_taken.new.target
    (c.loop-place.place + 1) c.in_ok-taken.taken _ _ c.loop-place.invariant.table c.in_err-count.ensures.part))

pub returns-in_err-count-clause-table : goal.returns-in_err-count-clause-table
returns-in_err-count-clause-table g c = c.obey_taken.ensures.table ∙ c.loop-place.invariant.table

pub returns-then-has_ended-clause-all : goal.returns-then-has_ended-clause-all
returns-then-has_ended-clause-all g c =
    come_out g.T.Target.says g.T.Target.manner (reading_at g.T.Target.takes (g.T.Target.table c.args.target.now)) c.args.target.now c.loop-place.target c.obey_taken.new.target _ _ _ c.loop-place.place c.loop-place.draft c.in_ok-taken.taken c.loop-place.unmet c.in_ok-count.count
    c.saturating_add-unmet.result _ _ _ c.loop-place.invariant.come c.in_ok-taken.ensures.taken (sym c.is_end-has_ended.ensures ∙ c.if-has_ended.true)
    (same_does g.T.Target.says g.T.Target.manner (reading_at g.T.Target.takes) (g.T.Target.table c.args.target.now) (g.T.Target.table c.loop-place.target) c.loop-place.draft c.loop-place.target c.obey_taken.new.target
    (c.loop-place.place + 1) c.in_ok-count.count c.in_ok-taken.taken _ _ c.loop-place.invariant.table c.in_ok-count.ensures.all) c.saturating_add-unmet.ensures

pub returns-then-has_ended-clause-table : goal.returns-then-has_ended-clause-table
returns-then-has_ended-clause-table g c = c.obey_taken.ensures.table ∙ c.loop-place.invariant.table

pub loop-place-preserved : goal.loop-place-preserved
loop-place-preserved g c = record {
  come = come_on g.T.Target.says g.T.Target.manner (reading_at g.T.Target.takes (g.T.Target.table c.args.target.now)) c.args.target.now c.loop-place.target c.obey_taken.new.target _ _ _ c.loop-place.place c.loop-place.draft c.obey_taken.new.draft c.in_ok-taken.taken c.loop-place.unmet
      c.in_ok-count.count c.saturating_add-unmet.result _ _ _ c.loop-place.invariant.come c.in_ok-taken.ensures.taken (sym c.is_end-has_ended.ensures ∙ c.if-has_ended.false)
      (same_does g.T.Target.says g.T.Target.manner (reading_at g.T.Target.takes) (g.T.Target.table c.args.target.now) (g.T.Target.table c.loop-place.target) c.loop-place.draft c.loop-place.target c.obey_taken.new.target
      (c.loop-place.place + 1) c.in_ok-count.count c.in_ok-taken.taken _ _ c.loop-place.invariant.table c.in_ok-count.ensures.all)
      (same_draft (reading_at g.T.Target.takes) (g.T.Target.table c.args.target.now) (g.T.Target.table c.loop-place.target) c.loop-place.draft c.obey_taken.new.draft (c.loop-place.place + 1) c.in_ok-taken.taken
      c.loop-place.invariant.table c.in_ok-count.ensures.draft) c.saturating_add-unmet.ensures;
  table = c.obey_taken.ensures.table ∙ c.loop-place.invariant.table;
}

pub returns-clause-part : goal.returns-clause-part
returns-clause-part g c =
    come_stop g.T.Target.says g.T.Target.manner (reading_at g.T.Target.takes (g.T.Target.table c.args.target.now)) c.args.target.now c.loop-place.target _ _ c.loop-place.place c.loop-place.draft c.loop-place.unmet _ _ c.loop-place.invariant.come
