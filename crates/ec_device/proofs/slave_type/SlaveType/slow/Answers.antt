use Rattle.ec_device.proofs.slave_type.SlaveType.slow.Goals as goal

pub returns-in-Some-clause-few : goal.returns-in-Some-clause-few
returns-in-Some-clause-few c = (c.self.invariant.2 c.in-Some.hardware c.in-Some.is).slow
