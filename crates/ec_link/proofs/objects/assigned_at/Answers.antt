use Rattle.std.proofs.Common.{◌∙◌, ap}
use Rattle.ec_device.specs.Objects.{assigned_entries}
use Rattle.ec_table.specs.Contents.{pdos_toward}
use Rattle.ec_link.proofs.ObjectLists.{few_assigned}
use Rattle.ec_link.proofs.objects.assigned_at.Goals as goal

pub returns-in-Some-clause-entries : goal.returns-in-Some-clause-entries
returns-in-Some-clause-entries c =
    few_assigned c.args.table.now c.args.slave c.args.direction c.slaves.result.now c.index-slaves-slave.result _ c.type_of.result.now c.in-Some.few c.slaves.ensures.value c.requires.there c.index-slaves-slave.is c.slaves.ensures.sound
    c.type_of.ensures.value c.type_of.ensures.sound
    (c.in-Some.ensures ∙ (ap (λ pdos. assigned_entries pdos c.assigned.result.now) c.pdos-pdos.ensures ∙ ap (assigned_entries (pdos_toward c.args.direction c.type_of.result.now)) c.assigned.ensures))
