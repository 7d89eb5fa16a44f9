use Rattle.std.proofs.Common.{refl, sym, subst}
use Rattle.ec_table.specs.Objects.{entries_of}
use Rattle.ec_link.specs.Objects.{AreEntryRuns}
use Rattle.ec_link.proofs.ObjectLists.{known_at, known_more, cloned, row_is}
use Rattle.ec_link.proofs.objects.runs_at.Goals as goal

pub returns-in-Some-clause-runs : goal.returns-in-Some-clause-runs
returns-in-Some-clause-runs c =
    cloned _ c.in-Some.runs.now c.clone.result _ c.clone.ensures.cases
    (known_at c.args.table.now c.args.direction c.args.known.now (c.index-slaves-slave.result.type_index, c.assigned.result) c.in-Some.runs.now c.args.slave c.slaves.result.now c.index-slaves-slave.result _
    c.requires.old c.in-Some.ensures.value c.slaves.ensures.value c.requires.there c.index-slaves-slave.is refl c.assigned.ensures)

pub returns-clause-new : goal.returns-clause-new
returns-clause-new c =
    known_more c.args.table.now c.args.direction c.args.known.now c.insert.new.self (c.index-slaves-slave.result.type_index, c.assigned.result) c.in_ok-clone.field-0 c.args.slave c.index-slaves-slave.result
    (row_is c.args.table.now c.args.slave c.slaves.result.now c.index-slaves-slave.result _ c.slaves.ensures.value c.requires.there c.index-slaves-slave.is) refl (sym c.assigned.ensures)
    (subst (AreEntryRuns (entries_of c.args.table.now c.args.slave c.args.direction)) (sym c.in_ok-clone.ensures.cases) c.in_ok-runs.ensures) c.in_ok-insert.ensures.updates c.requires.old
