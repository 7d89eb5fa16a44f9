use Rattle.std.proofs.Common.{◌≡◌, drop}
use Rattle.ec_link.specs.Faults.{first_at, too_many_bits}
use Rattle.ec_link.specs.Sizes.{is_too_big}
use Rattle.ec_link.proofs.faults.first_too_many_bits.Given as goal

abbrev pub invariant-loop-slave : goal.invariant-loop-slave
invariant-loop-slave l = first_at (λ n z. is_too_big z) l.slave (drop l.slave l.sizes) ≡ first_at (λ n s. too_many_bits l.table n) 0 l.table.slaves
