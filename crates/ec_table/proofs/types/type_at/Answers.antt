use Rattle.std.proofs.Common.{◌≡◌, true, false, Ok, Err, get_or, None, refl, sym, ap, ◌∙◌}
use Rattle.std.proofs.lemmas.Bool.{or_left, or_right}
use Rattle.toml.specs.View.{table_view}
use Rattle.ec_table.specs.Fields.{viewed}
use Rattle.ec_table.specs.Parameters.{parameters_in}
use Rattle.ec_table.specs.Reading.{is_possible, type_at}
use Rattle.ec_table.proofs.SectionRows.{told}
use Rattle.ec_table.proofs.TypeFound.{init_failed, neither, stands_twice, tested_impossible, tested_possible, tested_twice, type_told}
use Rattle.ec_table.proofs.types.type_at.Goals.{then-has-via-then-has, then-has-via-else-has+then-is_twice}
use Rattle.ec_table.proofs.types.type_at.Goals as goal

pub returns-in_err-hardware-clause-value : goal.returns-in_err-hardware-clause-value
returns-in_err-hardware-clause-value c =
    told c.from_residual-in_err-hardware.result c.in_err-hardware.field-0.0 _ c.from_residual-in_err-hardware.ensures
    (type_told c.args.format c.args.position c.in-Some.values.found (table_view c.args.members.now) c.args.found.now c.in_ok-name.name c.in_ok-device.device c.in_ok-mailbox.mailbox c.in_ok-process.process c.in_ok-lrw.lrw
    (Err c.in_err-hardware.field-0.0) (parameters_in c.args.position (viewed (get_or c.in-Some.values.found 14 None))) c.at.result c.at-2.result c.at-3.result (get_or c.in-Some.values.found 14 None)
    c.in-Some.ensures.keys c.in-Some.ensures.values c.at.ensures c.at-2.ensures c.at-3.ensures refl
    c.in_ok-name.ensures c.in_ok-device.ensures c.in_ok-mailbox.ensures c.in_ok-process.ensures c.in_ok-lrw.ensures c.in_err-hardware.ensures refl)

pub returns-in_err-init-clause-value : goal.returns-in_err-init-clause-value
returns-in_err-init-clause-value c =
    init_failed c.from_residual-in_err-init.result c.in_err-init.field-0.0 (parameters_in c.args.position (viewed c.at-4.result)) (type_at c.args.format c.args.position (table_view c.args.members.now) c.args.found.now)
    c.from_residual-in_err-init.ensures c.in_err-init.ensures
    (λ f is. type_told c.args.format c.args.position c.in-Some.values.found (table_view c.args.members.now) c.args.found.now c.in_ok-name.name c.in_ok-device.device c.in_ok-mailbox.mailbox c.in_ok-process.process c.in_ok-lrw.lrw
    (Ok c.in_ok-hardware.hardware) (Err f) c.at.result c.at-2.result c.at-3.result c.at-4.result c.in-Some.ensures.keys c.in-Some.ensures.values c.at.ensures c.at-2.ensures c.at-3.ensures c.at-4.ensures
    c.in_ok-name.ensures c.in_ok-device.ensures c.in_ok-mailbox.ensures c.in_ok-process.ensures c.in_ok-lrw.ensures c.in_ok-hardware.ensures is)

pub returns-then-has-clause-value : goal.returns-then-has-clause-value
returns-then-has-clause-value c =
    let twice : stands_twice c.args.found.now c.in_ok-name.name c.in_ok-process.process ≡ true
    = elim c.then-has.branch as (λ _. stands_twice c.args.found.now c.in_ok-name.name c.in_ok-process.process ≡ true) [
      | then-has-via-then-has w ↦ or_left _ _ (sym c.has.ensures ∙ w.if-has.true)
      | then-has-via-else-has+then-is_twice w ↦ or_right _ _ (sym w.is_twice.ensures ∙ w.if-is_twice.true)
    ] in
    type_told c.args.format c.args.position c.in-Some.values.found (table_view c.args.members.now) c.args.found.now c.in_ok-name.name c.in_ok-device.device c.in_ok-mailbox.mailbox c.in_ok-process.process c.in_ok-lrw.lrw
    (Ok c.in_ok-hardware.hardware) (Ok c.in_ok-init.init) c.at.result c.at-2.result c.at-3.result c.at-4.result c.in-Some.ensures.keys c.in-Some.ensures.values c.at.ensures c.at-2.ensures c.at-3.ensures c.at-4.ensures
    c.in_ok-name.ensures c.in_ok-device.ensures c.in_ok-mailbox.ensures c.in_ok-process.ensures c.in_ok-lrw.ensures c.in_ok-hardware.ensures c.in_ok-init.ensures
    ∙ tested_twice c.args.position
    (record { name = c.in_ok-name.name; device = c.in_ok-device.device; mailbox = c.in_ok-mailbox.mailbox; process = c.in_ok-process.process; lrw = c.in_ok-lrw.lrw; hardware = c.in_ok-hardware.hardware; init = c.in_ok-init.init })
    (stands_twice c.args.found.now c.in_ok-name.name c.in_ok-process.process) (is_possible c.in_ok-mailbox.mailbox c.in_ok-hardware.hardware c.in_ok-init.init) twice

pub returns-then-not-is_possible-clause-value : goal.returns-then-not-is_possible-clause-value
returns-then-not-is_possible-clause-value c =
    let once : stands_twice c.args.found.now c.in_ok-name.name c.in_ok-process.process ≡ false
    = neither _ _ (sym c.has.ensures ∙ c.if-has.false) (sym c.is_twice.ensures ∙ c.if-is_twice.false) in
    type_told c.args.format c.args.position c.in-Some.values.found (table_view c.args.members.now) c.args.found.now c.in_ok-name.name c.in_ok-device.device c.in_ok-mailbox.mailbox c.in_ok-process.process c.in_ok-lrw.lrw
    (Ok c.in_ok-hardware.hardware) (Ok c.in_ok-init.init) c.at.result c.at-2.result c.at-3.result c.at-4.result c.in-Some.ensures.keys c.in-Some.ensures.values c.at.ensures c.at-2.ensures c.at-3.ensures c.at-4.ensures
    c.in_ok-name.ensures c.in_ok-device.ensures c.in_ok-mailbox.ensures c.in_ok-process.ensures c.in_ok-lrw.ensures c.in_ok-hardware.ensures c.in_ok-init.ensures
    ∙ tested_impossible c.args.position
    (record { name = c.in_ok-name.name; device = c.in_ok-device.device; mailbox = c.in_ok-mailbox.mailbox; process = c.in_ok-process.process; lrw = c.in_ok-lrw.lrw; hardware = c.in_ok-hardware.hardware; init = c.in_ok-init.init })
    (stands_twice c.args.found.now c.in_ok-name.name c.in_ok-process.process) (is_possible c.in_ok-mailbox.mailbox c.in_ok-hardware.hardware c.in_ok-init.init) once
    (ap (is_possible c.in_ok-mailbox.mailbox c.in_ok-hardware.hardware) (sym c.as_slice.ensures) ∙ sym c.is_possible.ensures ∙ c.if-not-is_possible.true)

pub returns-clause-value : goal.returns-clause-value
returns-clause-value c =
    let once : stands_twice c.args.found.now c.in_ok-name.name c.in_ok-process.process ≡ false
    = neither _ _ (sym c.has.ensures ∙ c.if-has.false) (sym c.is_twice.ensures ∙ c.if-is_twice.false) in
    type_told c.args.format c.args.position c.in-Some.values.found (table_view c.args.members.now) c.args.found.now c.in_ok-name.name c.in_ok-device.device c.in_ok-mailbox.mailbox c.in_ok-process.process c.in_ok-lrw.lrw
    (Ok c.in_ok-hardware.hardware) (Ok c.in_ok-init.init) c.at.result c.at-2.result c.at-3.result c.at-4.result c.in-Some.ensures.keys c.in-Some.ensures.values c.at.ensures c.at-2.ensures c.at-3.ensures c.at-4.ensures
    c.in_ok-name.ensures c.in_ok-device.ensures c.in_ok-mailbox.ensures c.in_ok-process.ensures c.in_ok-lrw.ensures c.in_ok-hardware.ensures c.in_ok-init.ensures
    ∙ tested_possible c.args.position
    (record { name = c.in_ok-name.name; device = c.in_ok-device.device; mailbox = c.in_ok-mailbox.mailbox; process = c.in_ok-process.process; lrw = c.in_ok-lrw.lrw; hardware = c.in_ok-hardware.hardware; init = c.in_ok-init.init })
    (stands_twice c.args.found.now c.in_ok-name.name c.in_ok-process.process) (is_possible c.in_ok-mailbox.mailbox c.in_ok-hardware.hardware c.in_ok-init.init) once
    (ap (is_possible c.in_ok-mailbox.mailbox c.in_ok-hardware.hardware) (sym c.as_slice.ensures) ∙ sym c.is_possible.ensures ∙ c.if-not-is_possible.false)

pub returns-clause-fresh : goal.returns-clause-fresh
returns-clause-fresh c = sym c.has.ensures ∙ c.if-has.false
