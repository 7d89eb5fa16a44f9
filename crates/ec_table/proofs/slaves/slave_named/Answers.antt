use Rattle.std.proofs.Common.{Ok, Err, None, get_or, sym, ◌∙◌}
use Rattle.ec_table.specs.Fields.{viewed}
use Rattle.ec_table.specs.Reading.{written_in}
use Rattle.ec_table.specs.declared.rows.SlaveRow.{SlaveRow}
use Rattle.ec_table.proofs.Apart.{once_named, or_left}
use Rattle.ec_table.proofs.SectionRows.{gives_as, part_gives}
use Rattle.ec_table.proofs.SlaveFound.{checked_once, checked_twice, slave_told}
use Rattle.ec_table.proofs.slaves.slave_named.Goals as goal

pub returns-in_err-written-clause-value : goal.returns-in_err-written-clause-value
returns-in_err-written-clause-value c = λ ms under.
    let found = c.args.values.now.found in
    part_gives c.from_residual-in_err-written.result c.in_err-written.field-0.0
    (written_in c.args.position (viewed (get_or found 2 None)) (viewed (get_or found 3 None)) (viewed (get_or found 4 None)) (viewed (get_or found 5 None)) (viewed (get_or found 6 None))) _
    c.from_residual-in_err-written.ensures c.in_err-written.ensures
    (λ f is. slave_told c.args.types.now c.args.position found ms c.args.name c.args.is_taken (Ok c.in_ok-type_name.type_name) (Err f) c.at.result under c.at.ensures c.in_ok-type_name.ensures is)

pub returns-then-is_twice-clause-value : goal.returns-then-is_twice-clause-value
returns-then-is_twice-clause-value c = λ ms under.
    slave_told c.args.types.now c.args.position c.args.values.now.found ms c.args.name c.args.is_taken (Ok c.in_ok-type_name.type_name) (Ok c.in_ok-written.written) c.at.result under c.at.ensures c.in_ok-type_name.ensures c.in_ok-written.ensures
    ∙ checked_twice c.args.types.now c.args.position c.args.name c.args.is_taken c.in_ok-type_name.type_name c.in_ok-written.written (sym c.is_twice.ensures ∙ c.if-is_twice.true)

pub returns-clause-value : goal.returns-clause-value
returns-clause-value c = λ ms under.
    gives_as c.slave_of_type.result _ _
    (slave_told c.args.types.now c.args.position c.args.values.now.found ms c.args.name c.args.is_taken (Ok c.in_ok-type_name.type_name) (Ok c.in_ok-written.written) c.at.result under c.at.ensures c.in_ok-type_name.ensures c.in_ok-written.ensures
    ∙ checked_once c.args.types.now c.args.position c.args.name c.args.is_taken c.in_ok-type_name.type_name c.in_ok-written.written (sym c.is_twice.ensures ∙ c.if-is_twice.false))
    c.slave_of_type.ensures.value

pub returns-clause-fresh : goal.returns-clause-fresh
returns-clause-fresh c = once_named (λ (s : SlaveRow). s.name) c.slave_of_type.result c.args.name c.args.is_taken c.slave_of_type.ensures.name (or_left _ _ c.if-is_twice.ensures)
