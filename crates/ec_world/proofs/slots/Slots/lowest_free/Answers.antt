use Rattle.std.proofs.Common.{arith}
use Rattle.ec_world.proofs.StartUp.HasTurned.{lowest_found, lowest_behind, none_lowest}
use Rattle.ec_world.proofs.slots.Slots.lowest_free.Goals as goal

pub returns-in-Some : goal.returns-in-Some
returns-in-Some c = lowest_found c.args.self.now c.in_use-used.result.now c.in-Some.place c.in_use-used.ensures c.in-Some.ensures

pub returns-then-used-len : goal.returns-then-used-len
returns-then-used-len c = lowest_behind c.args.self.now c.in_use-used.result.now c.in_use-used.ensures c.in_default.ensures (omega (arith, c.if-used-len.true, c.len.ensures))

pub returns-else-used-len : goal.returns-else-used-len
returns-else-used-len c = none_lowest c.args.self.now c.in_use-used.result.now c.in_use-used.ensures c.in_default.ensures (omega (arith, c.if-used-len.false, c.len.ensures))
