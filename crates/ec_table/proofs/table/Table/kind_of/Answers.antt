use Rattle.std.proofs.Common.{rules, sym, ap, subst, Option, ◌∙◌}
use Rattle.ec_device.specs.declared.slave_type.Mailbox.{Mailbox}
use Rattle.ec_device.specs.Hardware.{IsHardware}
use Rattle.ec_device.specs.Parameters.{AreParameters}
use Rattle.ec_device.specs.Types.{SlaveKind}
use Rattle.ec_table.proofs.table.Table.kind_of.Goals as goal

pub prepare-requires : goal.prepare-requires
prepare-requires c =
    subst (λ (m : Option Mailbox). AreParameters m c.in_ok-init.init) (sym (ap (λ (k : SlaveKind). k.mailbox) c.new-kind.ensures)) c.in_ok-init.ensures.limits

pub describe-requires : goal.describe-requires
describe-requires c =
    subst (λ (m : Option Mailbox). IsHardware m c.in-Some.hardware) (sym (ap (λ (k : SlaveKind). k.mailbox) (c.prepare.ensures ∙ ap (λ (k : SlaveKind). record k { init = c.in_ok-init.init }) c.new-kind.ensures)))
    (c.type_of-row.ensures.sound.hardware c.in-Some.hardware c.in-Some.is).limits

pub returns : goal.returns
returns c = search rules
