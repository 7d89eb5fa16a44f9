use Rattle.std.proofs.Common.{◌≡◌, None, take}
use Rattle.ec_sync.specs.Governing.{governor}
use Rattle.ec_exchange.proofs.reach.governor.Given as goal

abbrev pub invariant-loop-place : goal.invariant-loop-place
invariant-loop-place l = governor (take l.place l.managers) l.address ≡ None
