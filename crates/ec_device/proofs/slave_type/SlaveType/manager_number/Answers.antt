use Rattle.std.proofs.Common.{◌<◌, Some, subst, arith}
use Rattle.ec_device.specs.Hardware.{manager_number}
use Rattle.ec_device.proofs.Naming.{numbered_law}
use Rattle.ec_device.proofs.slave_type.SlaveType.manager_number.Goals as goal

pub returns-in-Some-clause-few : goal.returns-in-Some-clause-few
returns-in-Some-clause-few c =
    let few = (numbered_law c.self.inside.mailbox c.self.inside.hardware c.self.invariant.2).few c.args.place c.requires in
    let at : manager_number (Some c.in-Some.hardware) c.args.place < 4 = subst (λ o. manager_number o c.args.place < 4) c.in-Some.is few in
    omega (arith, at, c.number_at.ensures)
