use Rattle.std.proofs.Common.{◌≡◌, drop}
use Rattle.std.specs.List.{list_any}
use Rattle.ec_link.specs.SlavePlan.{leaves_ram}
use Rattle.ec_link.proofs.faults.some_leave.Given as goal

abbrev pub invariant-loop-manager : goal.invariant-loop-manager
invariant-loop-manager l = list_any leaves_ram (drop l.manager-index l.managers) ≡ list_any leaves_ram l.managers
