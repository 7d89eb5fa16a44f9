use Rattle.ec_bringup.proofs.Words.{◌≡◌, take, bringup_switched_on as switched_on}
use Rattle.ec_bringup.proofs.switching.switched_on.Given as goal

abbrev pub invariant-loop-place : goal.invariant-loop-place
invariant-loop-place l = l.all.items ≡ switched_on (take l.place l.slaves) (take l.place l.identities)
