-- A segment that answers on a wire. A choice of this project: a payload that is no frame is not answered, and changes nothing.
use Rattle.std.specs.Prelude.{ℕ, ◌+◌, ◌≡◌, ◌≤◌, ◌⊎◌, List, [], ◌∷◌, ◌++◌, length, true}
use Rattle.ec_slave.specs.State.{SlaveState}
use Rattle.ec_ring.specs.Rings.{HasPassedRing, IsNoFrame}
use Rattle.ec_wire.specs.Applications.{AreServed}
use Rattle.ec_wire.specs.Wires.{WireState, Carries, is_fault}

-- A frame passes all slaves, and then each is served. The answer is the frame as it is behind the last slave.
pub record IsAnswer (may_produce : List ℕ → List ℕ → Type 0) (old : List SlaveState) (payload : List ℕ) (new : List SlaveState) (answer : List ℕ) : Type 0 where
  pub is_frame : IsNoFrame payload → ⊥
  pub passed : List SlaveState
  pub ring : HasPassedRing old payload passed answer
  pub served : AreServed may_produce passed new

-- the slaves after a payload, and its answer if it has one
abbrev pub IsTreated : (List ℕ → List ℕ → Type 0) → List SlaveState → List ℕ → List SlaveState → List (List ℕ) → Type 0
IsTreated may_produce old payload new answers =
    ((answer : List ℕ) × (answers ≡ answer ∷ []) × IsAnswer may_produce old payload new answer)
    ⊎ (IsNoFrame payload × (new ≡ old) × (answers ≡ []))

-- payloads one after the other, and their answers in order
abbrev pub AreTreated : (List ℕ → List ℕ → Type 0) → List SlaveState → List (List ℕ) → List SlaveState → List (List ℕ) → Type 0
AreTreated may_produce old [] new answers = (new ≡ old) × (answers ≡ [])
AreTreated may_produce old (p ∷ ps) new answers =
    (mid : List SlaveState) × (first : List (List ℕ)) × (rest : List (List ℕ)) × IsTreated may_produce old p mid first × AreTreated may_produce mid ps new rest × (answers ≡ first ++ rest)

-- A segment received `frames` payloads, sent the answers, and counted both kinds.
pub record HasServed (may_produce : List ℕ → List ℕ → Type 0) (old new : List SlaveState) (before after : WireState) (frames answered refused : ℕ) : Type 0 where
  pub got : List (List ℕ)
  pub sent : List (List ℕ)
  pub carried : Carries before after sent got
  pub treated : AreTreated may_produce old got new sent
  pub all : length got ≡ frames
  pub answers : answered ≡ length sent
  pub others : answered + refused ≡ frames

-- A call of the wire was a fault. Payloads until then were treated; the last answer may be lost, and isn't counted.
pub record WasCutOff (may_produce : List ℕ → List ℕ → Type 0) (old new : List SlaveState) (before after : WireState) (frames answered refused : ℕ) : Type 0 where
  pub got : List (List ℕ)
  pub sent : List (List ℕ)
  pub lost : List (List ℕ)
  pub carried : Carries before after sent got
  pub treated : AreTreated may_produce old got new (sent ++ lost)
  pub one_lost : length lost ≤ 1
  pub few : length got ≤ frames
  pub answers : answered ≡ length sent
  pub others : answered + refused + length lost ≡ length got
  pub fault : is_fault before after ≡ true
