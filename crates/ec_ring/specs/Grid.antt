-- The ring as a grid, in which slaves and datagrams meet.
use Rattle.std.specs.Prelude.{ℕ, ◌+◌, ◌<◌, ◌≡◌, List, length, slice_get, Some}
use Rattle.ec_frame.specs.Datagram.{Datagram}
use Rattle.ec_frame.specs.Walk.{handled_all, after_all}
use Rattle.ec_slave.specs.State.{SlaveState}
use Rattle.ec_slave.specs.Meeting.{slave_met, datagram_met, passes}
use Rattle.ec_slave.specs.Column.{datagram_past, slaves_met}
use Rattle.ec_ring.specs.Rings.{passes_ring}

-- Cell (i, j) is the meeting of slave i, as datagram j - 1 left it, and datagram j, as slave i - 1 left it. `slave i j` is
-- slave i before datagram j, `datagram i j` is datagram j before slave i.
pub record IsGrid (ss : List SlaveState) (ds : List Datagram) (slave : ℕ → ℕ → SlaveState) (datagram : ℕ → ℕ → Datagram) : Type 0 where
  pub rows : (i : ℕ) → i < length ss → slice_get ss i ≡ Some (slave i 0)
  pub columns : (j : ℕ) → j < length ds → slice_get ds j ≡ Some (datagram 0 j)
  pub slave_after : (i j : ℕ) → i < length ss → j < length ds → slave i (j + 1) ≡ slave_met (slave i j) (datagram i j)
  pub datagram_after : (i j : ℕ) → i < length ss → j < length ds → datagram (i + 1) j ≡ datagram_met (slave i j) (datagram i j)

-- slave after slave ends in the grid's last column and last row
abbrev pub RingIsGrid : Type 0
RingIsGrid =
    (ss : List SlaveState) (ds : List Datagram) (slave : ℕ → ℕ → SlaveState) (datagram : ℕ → ℕ → Datagram) → IsGrid ss ds slave datagram
    → ((i : ℕ) → i < length ss → slice_get (passes_ring ss ds).slaves i ≡ Some (slave i (length ds)))
    × ((j : ℕ) → j < length ds → slice_get (passes_ring ss ds).datagrams j ≡ Some (datagram (length ss) j))

-- A whole frame past one slave after the other leaves what one datagram after the other leaves, each past all slaves before
-- the next one comes.
abbrev pub RingIsColumns : Type 0
RingIsColumns =
    (ss : List SlaveState) (ds : List Datagram)
    → passes_ring ss ds ≡ record {
      slaves = after_all datagram_past slaves_met ss ds;
      datagrams = handled_all datagram_past slaves_met ss ds;
    }

-- Any slaves and datagrams have a grid. Outside its borders it may hold any slave and datagram.
abbrev pub GridExists : Type 0
GridExists =
    (outer : SlaveState) (passing : Datagram) (ss : List SlaveState) (ds : List Datagram)
    → (slave : ℕ → ℕ → SlaveState) × (datagram : ℕ → ℕ → Datagram) × IsGrid ss ds slave datagram

-- the datagrams as they come to slave i are passed by it as the grid's row i says
abbrev pub SlaveIsRow : Type 0
SlaveIsRow =
    (ss : List SlaveState) (ds : List Datagram) (slave : ℕ → ℕ → SlaveState) (datagram : ℕ → ℕ → Datagram) → IsGrid ss ds slave datagram
    → (i : ℕ) (coming : List Datagram) → i < length ss → length coming ≡ length ds → ((j : ℕ) → j < length ds → slice_get coming j ≡ Some (datagram i j))
    → ((passes (slave i 0) coming).slave ≡ slave i (length ds))
    × ((j : ℕ) → j < length ds → slice_get (passes (slave i 0) coming).datagrams j ≡ Some (datagram (i + 1) j))
