-- Datagram after datagram past all slaves ends as slave after slave past all datagrams.
use Rattle.std.proofs.Common.{suc, length, ◌≡◌, List, [], ◌∷◌, refl, sym, ◌∙◌, ap}
use Rattle.ec_frame.specs.Datagram.{Datagram}
use Rattle.ec_frame.specs.Walk.{handled_all, after_all}
use Rattle.ec_slave.specs.State.{SlaveState}
use Rattle.ec_slave.specs.Meeting.{passes, slave_met, datagram_met}
use Rattle.ec_slave.specs.Column.{datagram_past, slaves_met}
use Rattle.ec_ring.specs.Rings.{RingPassed, passes_ring}
use Rattle.ec_ring.specs.Grid.{RingIsColumns}

no_datagram : (ss : List SlaveState) → passes_ring ss [] ≡ record { slaves = ss; datagrams = [] }
no_datagram [] = refl
no_datagram (s ∷ ss) = ap (λ (r : RingPassed). record { slaves = s ∷ r.slaves; datagrams = r.datagrams }) (no_datagram ss)

-- the first datagram passes all slaves before the others do
first_column : (ss : List SlaveState) (d : Datagram) (ds : List Datagram)
    → passes_ring ss (d ∷ ds) ≡ record { slaves = (passes_ring (slaves_met ss d) ds).slaves; datagrams = datagram_past ss d ∷ (passes_ring (slaves_met ss d) ds).datagrams }
first_column [] d ds = refl
first_column (s ∷ ss) d ds =
    ap (λ (r : RingPassed). record { slaves = (passes (slave_met s d) ds).slave ∷ r.slaves; datagrams = r.datagrams }) (first_column ss (datagram_met s d) (passes (slave_met s d) ds).datagrams)

pub by_columns : (ss : List SlaveState) (ds : List Datagram)
    → record { slaves = after_all datagram_past slaves_met ss ds; datagrams = handled_all datagram_past slaves_met ss ds } ≡ passes_ring ss ds
by_columns ss [] = sym (no_datagram ss)
by_columns ss (d ∷ ds) =
    ap (λ (r : RingPassed). record { slaves = r.slaves; datagrams = datagram_past ss d ∷ r.datagrams }) (by_columns (slaves_met ss d) ds) ∙ sym (first_column ss d ds)

pub columns_law : RingIsColumns
columns_law ss ds = sym (by_columns ss ds)

-- no slave is lost
length_met : (ss : List SlaveState) (d : Datagram) → length (slaves_met ss d) ≡ length ss
length_met [] d = refl
length_met (s ∷ ss) d = ap suc (length_met ss (datagram_met s d))

pub length_after : (ss : List SlaveState) (ds : List Datagram) → length (after_all datagram_past slaves_met ss ds) ≡ length ss
length_after ss [] = refl
length_after ss (d ∷ ds) = length_after (slaves_met ss d) ds ∙ length_met ss d
