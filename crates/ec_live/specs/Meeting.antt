-- What a payload does to a live segment, and its answer.
use Rattle.std.specs.Prelude.{◌≡◌, ◌⊎◌, ℕ, List, [], ◌∷◌, true, false}
use Rattle.ec_frame.specs.Frame.{IsFrame, Payload}
use Rattle.ec_ring.specs.Rings.{IsNoFrame}
use Rattle.ec_world.specs.Outside.{IsCarried}
use Rattle.ec_world.specs.World.{WorldState}
use Rattle.ec_live.specs.Cyclic.{cyclic_part}
use Rattle.ec_live.specs.Drops.{counted_down, is_dropped}
use Rattle.ec_live.specs.State.{LiveState, one_more}

-- A payload that is no frame is counted, and not answered.
pub record Refuses (s : LiveState) (payload : List ℕ) (t : LiveState) (answers : List (List ℕ)) : Type 0 where
  pub none : IsNoFrame payload
  pub is : t ≡ record s { refused = one_more s.refused }
  pub silent : answers ≡ []

-- A frame is dropped: no slave sees it, and it isn't answered.
pub record DropsIt (s : LiveState) (payload : List ℕ) (t : LiveState) (answers : List (List ℕ)) : Type 0 where
  pub frame : Payload
  pub spelled : IsFrame payload frame
  pub dropped : is_dropped s.drops (cyclic_part s.world.plan.parts frame.datagrams) ≡ true
  pub is : t ≡ record s { drops = counted_down s.drops (cyclic_part s.world.plan.parts frame.datagrams) }
  pub silent : answers ≡ []

-- A frame that isn't dropped passes all slaves, and then each makes a firmware step. The answer is the frame as it is behind the last.
pub record Answers (s : LiveState) (payload : List ℕ) (t : LiveState) (answers : List (List ℕ)) : Type 0 where
  pub kept : (frame : Payload) → IsFrame payload frame → is_dropped s.drops (cyclic_part s.world.plan.parts frame.datagrams) ≡ false
  pub world : WorldState
  pub answer : List ℕ
  pub carried : IsCarried s.world payload world answer
  pub is : t ≡ record s { world = world; answered = one_more s.answered }
  pub answered : answers ≡ answer ∷ []

abbrev pub Meets : LiveState → List ℕ → LiveState → List (List ℕ) → Type 0
Meets s payload t answers = Refuses s payload t answers ⊎ (DropsIt s payload t answers ⊎ Answers s payload t answers)
