-- The grid of any slaves and datagrams.
use Rattle.std.proofs.Common.{ℕ, zero, suc, ◌+◌, ◌<◌, ◌≡◌, refl, ◌∙◌, ap, arith, List, [], ◌∷◌, length, get_or, slice_get, Some}
use Rattle.ec_frame.specs.Datagram.{Datagram}
use Rattle.ec_slave.specs.State.{SlaveState}
use Rattle.ec_slave.specs.Meeting.{datagram_met, passes, slave_met}
use Rattle.ec_ring.specs.Grid.{GridExists}
use Rattle.ec_ring.proofs.GridLaws.{row_length}

-- a slave after so many of the datagrams
slave_at : SlaveState → List Datagram → ℕ → SlaveState
slave_at s ds zero = s
slave_at s [] (suc j) = s
slave_at s (d ∷ ds) (suc j) = slave_at (slave_met s d) ds j

module _ (outer : SlaveState) (passing : Datagram) where
  cell_slave : List SlaveState → List Datagram → ℕ → ℕ → SlaveState
  cell_slave [] ds i j = outer
  cell_slave (s ∷ ss) ds zero j = slave_at s ds j
  cell_slave (s ∷ ss) ds (suc i) j = cell_slave ss (passes s ds).datagrams i j

  cell_datagram : List SlaveState → List Datagram → ℕ → ℕ → Datagram
  cell_datagram ss ds zero j = get_or ds j passing
  cell_datagram [] ds (suc i) j = passing
  cell_datagram (s ∷ ss) ds (suc i) j = cell_datagram ss (passes s ds).datagrams i j

  there : (ds : List Datagram) (j : ℕ) → j < length ds → slice_get ds j ≡ Some (get_or ds j passing)
  there [] j l = absurd (omega arith)
  there (d ∷ ds) zero l = refl
  there (d ∷ ds) (suc j) l = there ds j (omega arith)

  slave_on : (s : SlaveState) (ds : List Datagram) (j : ℕ) → j < length ds → slave_at s ds (suc j) ≡ slave_met (slave_at s ds j) (get_or ds j passing)
  unfolding slave_at
  slave_on s [] j l = absurd (omega arith)
  slave_on s (d ∷ ds) zero l = refl
  slave_on s (d ∷ ds) (suc j) l = slave_on (slave_met s d) ds j (omega arith)

  datagram_on : (s : SlaveState) (ds : List Datagram) (j : ℕ) → j < length ds → get_or (passes s ds).datagrams j passing ≡ datagram_met (slave_at s ds j) (get_or ds j passing)
  unfolding slave_at
  datagram_on s [] j l = absurd (omega arith)
  datagram_on s (d ∷ ds) zero l = refl
  datagram_on s (d ∷ ds) (suc j) l = datagram_on (slave_met s d) ds j (omega arith)

  cell_row : (ss : List SlaveState) (ds : List Datagram) (i : ℕ) → i < length ss → slice_get ss i ≡ Some (cell_slave ss ds i 0)
  unfolding cell_slave slave_at
  cell_row [] ds i l = absurd (omega arith)
  cell_row (s ∷ ss) ds zero l = refl
  cell_row (s ∷ ss) ds (suc i) l = cell_row ss (passes s ds).datagrams i (omega arith)

  cell_column : (ss : List SlaveState) (ds : List Datagram) (j : ℕ) → j < length ds → slice_get ds j ≡ Some (cell_datagram ss ds 0 j)
  unfolding cell_datagram
  cell_column ss ds j l = there ds j l

  cell_slave_on : (ss : List SlaveState) (ds : List Datagram) (i j : ℕ) → i < length ss → j < length ds → cell_slave ss ds i (suc j) ≡ slave_met (cell_slave ss ds i j) (cell_datagram ss ds i j)
  unfolding cell_slave cell_datagram
  cell_slave_on [] ds i j l k = absurd (omega arith)
  cell_slave_on (s ∷ ss) ds zero j l k = slave_on s ds j k
  cell_slave_on (s ∷ ss) ds (suc i) j l k = let len = row_length s ds in cell_slave_on ss (passes s ds).datagrams i j (omega arith) (omega (arith, len))

  cell_datagram_on : (ss : List SlaveState) (ds : List Datagram) (i j : ℕ) → i < length ss → j < length ds → cell_datagram ss ds (suc i) j ≡ datagram_met (cell_slave ss ds i j) (cell_datagram ss ds i j)
  unfolding cell_slave cell_datagram
  cell_datagram_on [] ds i j l k = absurd (omega arith)
  cell_datagram_on (s ∷ ss) ds zero j l k = datagram_on s ds j k
  cell_datagram_on (s ∷ ss) ds (suc i) j l k = let len = row_length s ds in cell_datagram_on ss (passes s ds).datagrams i j (omega arith) (omega (arith, len))

pub grid_exists : GridExists
grid_exists outer passing ss ds =
    let more : (n : ℕ) → n + 1 ≡ suc n = λ n. omega arith in (
      cell_slave outer passing ss ds,
      cell_datagram outer passing ss ds,
      record {
        rows = cell_row outer passing ss ds;
        columns = cell_column outer passing ss ds;
        slave_after = λ i j l k. ap (λ n. cell_slave outer passing ss ds i n) (more j) ∙ cell_slave_on outer passing ss ds i j l k;
        datagram_after = λ i j l k. ap (λ n. cell_datagram outer passing ss ds n j) (more i) ∙ cell_datagram_on outer passing ss ds i j l k;
      },
    )
