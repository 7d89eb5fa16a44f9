-- Which slave of a ring a datagram means (ETG.1000.4, "Addressing": position and station address).
use Rattle.std.specs.Prelude.{ℕ, ◌+◌, ◌-◌, ◌%◌, ◌≤◌, ◌≡◌, ◌≢◌, ◌⊎◌, List, [], ◌∷◌, length, set, slice_get, Some}
use Rattle.ec_frame.specs.declared.command.Command.{Command}
use Rattle.ec_frame.specs.declared.command.Command.TheVariants.{Aprd, Apwr, Aprw, Fprd, Fpwr, Fprw}
use Rattle.ec_frame.specs.Datagram.{Datagram, IsDatagram, adp_of}
use Rattle.ec_frame.specs.Fields.{with_adp}
use Rattle.ec_slave.specs.State.{SlaveState, station_of}
use Rattle.ec_slave.specs.Meeting.{datagram_met, slave_met}
use Rattle.ec_ring.specs.Rings.{passes_ring}

abbrev pub IsByPosition : Command → Type 0
IsByPosition c = (c ≡ Aprd) ⊎ ((c ≡ Apwr) ⊎ (c ≡ Aprw))

abbrev pub IsByStation : Command → Type 0
IsByStation c = (c ≡ Fprd) ⊎ ((c ≡ Fpwr) ⊎ (c ≡ Fprw))

-- A datagram with ADP -i acts at slave i, which receives ADP 0, and at no other. It comes back with as many added to ADP as
-- there are slaves.
abbrev pub PositionMeansOne : Type 0
PositionMeansOne =
    (ss : List SlaveState) (i : ℕ) (s : SlaveState) (d : Datagram) → IsDatagram d → IsByPosition d.command
    → length ss ≤ 65536 → slice_get ss i ≡ Some s → adp_of d ≡ (65536 - i) % 65536
    → passes_ring ss (d ∷ []) ≡ record {
      slaves = set ss i (slave_met s (with_adp d 0));
      datagrams = with_adp (datagram_met s (with_adp d 0)) ((adp_of d + length ss) % 65536) ∷ [];
    }

-- a datagram leaves all slaves as they are that have another station address
abbrev pub StationPassesOthers : Type 0
StationPassesOthers =
    (ss : List SlaveState) (j : ℕ) (t : SlaveState) (d : Datagram) → IsDatagram d → IsByStation d.command
    → slice_get ss j ≡ Some t → adp_of d ≢ station_of t → slice_get (passes_ring ss (d ∷ [])).slaves j ≡ Some t

-- a datagram with a station address that one slave has acts at this slave alone
abbrev pub StationMeansOne : Type 0
StationMeansOne =
    (ss : List SlaveState) (i : ℕ) (s : SlaveState) (d : Datagram) → IsDatagram d → IsByStation d.command
    → slice_get ss i ≡ Some s → ((j : ℕ) (t : SlaveState) → slice_get ss j ≡ Some t → j ≢ i → adp_of d ≢ station_of t)
    → passes_ring ss (d ∷ []) ≡ record { slaves = set ss i (slave_met s d); datagrams = datagram_met s d ∷ [] }
