use Rattle.std.proofs.Common.{arith}
use Rattle.ec_world.proofs.StartUp.HasTurned.{free_counted}
use Rattle.ec_world.proofs.slots.Slots.free.Goals as goal

pub returns : goal.returns
returns c =
    let e = free_counted c.args.self.now c.in_use-used.result.now c.in_use-used.ensures in
    omega (arith, e, c.len.ensures, c.free_of.ensures)
