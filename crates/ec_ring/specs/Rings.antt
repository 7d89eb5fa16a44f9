-- A ring of slaves that a frame passes one after the other (ETG.1000.4, "Topology": a frame passes the slaves in order).
use Rattle.std.specs.Prelude.{ℕ, ◌≡◌, List, [], ◌∷◌, set}
use Rattle.ec_frame.specs.declared.error.FrameError.{FrameError}
use Rattle.ec_frame.specs.Datagram.{Datagram}
use Rattle.ec_frame.specs.Frame.{Payload, IsFrame, with_datagrams}
use Rattle.ec_frame.specs.Refusals.{IsRefused}
use Rattle.ec_slave.specs.State.{SlaveState}
use Rattle.ec_slave.specs.Meeting.{passes}

-- slaves and the datagrams of a frame after they met
pub record RingPassed : Type 0 where
  pub slaves : List SlaveState
  pub datagrams : List Datagram

-- slave after slave
abbrev pub passes_ring : List SlaveState → List Datagram → RingPassed
passes_ring [] ds = record { slaves = []; datagrams = ds }
passes_ring (s ∷ ss) ds = record {
  slaves = (passes s ds).slave ∷ (passes_ring ss (passes s ds).datagrams).slaves;
  datagrams = (passes_ring ss (passes s ds).datagrams).datagrams;
}

-- some test refuses the payload
abbrev pub IsNoFrame : List ℕ → Type 0
IsNoFrame payload = (e : FrameError) × IsRefused payload e

-- slaves and a payload before and after it passed slave s, which stands at `index`
pub record IsPassedAt (old : List SlaveState) (index : ℕ) (s : SlaveState) (before : List ℕ) (new : List SlaveState) (after : List ℕ) : Type 0 where
  pub slaves : (p : Payload) → IsFrame before p → new ≡ set old index (passes s p.datagrams).slave
  pub frame : (p : Payload) → IsFrame before p → IsFrame after (with_datagrams p (passes s p.datagrams).datagrams)

-- slaves and a payload before and after it passed all of them; its header and the bytes after the datagrams stay
pub record HasPassedRing (old : List SlaveState) (before : List ℕ) (new : List SlaveState) (after : List ℕ) : Type 0 where
  pub slaves : (p : Payload) → IsFrame before p → new ≡ (passes_ring old p.datagrams).slaves
  pub frame : (p : Payload) → IsFrame before p → IsFrame after (with_datagrams p (passes_ring old p.datagrams).datagrams)
