-- What the definitions of a live segment say together.
use Rattle.std.specs.Prelude.{◌≡◌, ◌⊎◌, ℕ, List, [], ◌∷◌, map, false, Option}
use Rattle.ec_slave.specs.State.{SlaveState}
use Rattle.ec_slave.specs.Serving.{served}
use Rattle.ec_ring.specs.Rings.{HasPassedRing, IsNoFrame}
use Rattle.ec_wire.specs.Wires.{Carries}
use Rattle.ec_live.specs.Drops.{DropState, is_dropped}
use Rattle.ec_live.specs.Living.{Payload, RunState, Runs}

-- payloads come to slaves without applications, one after another: each frame passes them, and then each makes a firmware step
abbrev pub PassAll : List SlaveState → (payloads : List (List ℕ)) → List SlaveState → (answers : List (List ℕ)) → Type 0
PassAll old [] new answers = (new ≡ old) × (answers ≡ [])
PassAll old (p ∷ ps) new answers =
    ((passed : List SlaveState) × (first : List ℕ) × (rest : List (List ℕ)) × HasPassedRing old p passed first × PassAll (map served passed) ps new rest × (answers ≡ first ∷ rest))
    ⊎ (IsNoFrame p × PassAll old ps new answers)

-- no frame is dropped
abbrev pub DropsNone : DropState → Type 0
DropsNone d = (part : Option ℕ) → is_dropped d part ≡ false

-- Without lines, and if none of its frames is to be dropped, a run is these payloads and their answers. It prints nothing, and takes nothing
-- of the input.
abbrev pub PayloadsAlone : Type 0
PayloadsAlone = (s t : RunState) (payloads : List (List ℕ)) → Runs s (map Payload payloads) t → DropsNone s.live.drops
    → (answers : List (List ℕ)) × PassAll s.live.world.slaves payloads t.live.world.slaves answers × Carries s.wire t.wire answers payloads × (t.output ≡ s.output) × (t.left ≡ s.left)
