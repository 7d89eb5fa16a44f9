use Rattle.toml.specs.View.{table_view}
use Rattle.ec_table.specs.declared.rows.SlaveRow.{SlaveRow}
use Rattle.ec_table.proofs.Apart.{fresh_as_named}
use Rattle.ec_table.proofs.SectionRows.{gives_as}
use Rattle.ec_table.proofs.SlaveFound.{slave_at_named}
use Rattle.ec_table.proofs.slaves.slave_at.Goals as goal

pub returns-clause-value : goal.returns-clause-value
returns-clause-value c =
    gives_as c.slave_named.result _ _
    (slave_at_named c.args.format c.args.types.now c.args.position c.in-Some.values.found (table_view c.args.members.now) c.args.found.now c.in_ok-name.name c.has-is_taken.result c.at.result
    c.in-Some.ensures.keys c.in-Some.ensures.values c.at.ensures c.in_ok-name.ensures c.has-is_taken.ensures)
    (c.slave_named.ensures.value (table_view c.args.members.now) c.in-Some.ensures.values)

pub returns-clause-fresh : goal.returns-clause-fresh
returns-clause-fresh c = fresh_as_named (λ (s : SlaveRow). s.name) c.slave_named.result c.in_ok-name.name c.has-is_taken.result c.args.found.now c.slave_named.ensures.fresh c.has-is_taken.ensures
