-- What a handle owns: a value in a block of the C library, or nothing.
use Rattle.std.specs.Prelude.{List, Option, None, Some}
use base.Fml.{Fml, ftrue}
use denote.RawPtr.{Ptr}
use Rattle.ec_handles.specs.Keeping.{keeps}
use Rattle.ec_handles.specs.declared.held.HeldMaster.{HeldMaster}
use Rattle.ec_handles.specs.contracts.held.HeldMaster.{the_row as master_row}
use Rattle.ec_ring.specs.contracts.ring.Ring.{the_row as ring_row}
use Rattle.ec_slave.specs.State.{SlaveState}

abbrev pub owns_master : Ptr → Option HeldMaster → Fml
owns_master p None = ftrue
owns_master p (Some m) = keeps master_row p m

abbrev pub owns_slaves : Ptr → Option (List SlaveState) → Fml
owns_slaves p None = ftrue
owns_slaves p (Some slaves) = keeps ring_row p slaves
