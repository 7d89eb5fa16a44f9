use Rattle.std.proofs.Common.{◌∙◌, sym, subst}
use Rattle.ec_table.specs.Objects.{entries_of}
use Rattle.ec_link.specs.Objects.{IsAssigned}
use Rattle.ec_link.proofs.ObjectLists.{toward_is, object_at}
use Rattle.ec_link.proofs.Links.{run_is, run_short}
use Rattle.ec_link.proofs.link_runs.run_toward.Goals as goal

pub returns-clause-few : goal.returns-clause-few
returns-clause-few c =
    let own = object_at c.args.table.now c.args.objects.now c.args.link.now.slave c.index-objects-link.result c.requires.known c.requires.link.slave c.index-objects-link.is in
    let entries = subst (IsAssigned (entries_of c.args.table.now c.args.link.now.slave c.args.direction)) (sym c.toward.ensures) (toward_is c.args.table.now c.args.link.now.slave c.index-objects-link.result c.args.direction own) in
    run_short c.args.table.now c.args.direction c.args.link.now c.toward.result.now c.run.result entries (c.run.ensures ∙ run_is c.args.table.now c.args.direction c.args.link.now c.toward.result.now entries c.requires.link.subindex)
