-- One slave of a ring, lent.
use Rattle.std.specs.Prelude.{ℕ, List, set}
use Rattle.std.specs.Borrow.{Lends, MutBor, Fml}
use Rattle.ec_slave.specs.State.{SlaveState}
use Rattle.ec_slave.specs.contracts.slave.Slave.{the_row as slave_row}
use Rattle.ec_ring.specs.contracts.ring.Ring.{the_row}

-- the ring ends with the slave at `index` as the borrower left it, and all others as they were
abbrev pub LendsSlave : MutBor (List SlaveState) → ℕ → MutBor SlaveState → Fml
LendsSlave r index s = Lends the_row slave_row r s (λ w. set r.now index w)
