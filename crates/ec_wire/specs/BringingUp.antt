-- A start-up over a wire. A choice of this project: a fault of the wire, or 64 payloads in a row that don't answer its frame,
-- ends it as lost.
use Rattle.std.specs.Prelude.{ℕ, ◌<◌, ◌≤◌, ◌≡◌, ◌⊎◌, List, [], ◌∷◌, ◌++◌, length, true, false}
use Rattle.std.specs.List.{All}
use Rattle.ec_frame.specs.Frame.{IsFrame}
use Rattle.ec_frame.specs.Building.{bare_payload}
use Rattle.ec_start.specs.declared.phase.NextFrame.TheVariants.{Send, Waiting, Ended}
use Rattle.ec_start.specs.Actions.{frame_of}
use Rattle.ec_start.specs.Running.{StartState, IsStartTaken, action_of, asked, next_frame, given_up}
use Rattle.ec_wire.specs.Wires.{WireState, Carries, is_fault}

-- the most payloads that are received for one frame
abbrev pub max_foreign : ℕ
max_foreign = 64

-- payloads that don't answer the outstanding frame
abbrev pub AreForeign : StartState → List (List ℕ) → Type 0
AreForeign s payloads = All (λ p. IsStartTaken s p false s) payloads

-- The frame is sent. Fewer than 64 payloads come that don't answer it, and then one that does.
pub record IsAnswered (sent after : StartState) (frame : List ℕ) (old new : WireState) : Type 0 where
  pub foreign : List (List ℕ)
  pub answer : List ℕ
  pub carried : Carries old new (frame ∷ []) (foreign ++ answer ∷ [])
  pub few : length foreign < max_foreign
  pub strange : AreForeign sent foreign
  pub kept : IsStartTaken sent answer true after
  pub fine : is_fault old new ≡ false

-- A call of the wire is a fault, or 64 payloads come that don't answer the frame.
pub record IsUnanswered (sent : StartState) (frame : List ℕ) (old new : WireState) : Type 0 where
  pub frames : List (List ℕ)
  pub foreign : List (List ℕ)
  pub carried : Carries old new frames foreign
  pub is_sent : ((frames ≡ []) × (foreign ≡ [])) ⊎ (frames ≡ frame ∷ [])
  pub few : length foreign ≤ max_foreign
  pub strange : AreForeign sent foreign
  pub lost : (is_fault old new ≡ true) ⊎ (length foreign ≡ max_foreign)

-- the frame that comes next
abbrev pub IsNextFrame : StartState → List ℕ → Type 0
IsNextFrame s frame = IsFrame frame (bare_payload (frame_of (action_of s) s.next))

-- one turn: the next frame is sent and answered
pub record IsTurn (s t : StartState) (w v : WireState) : Type 0 where
  pub frame : List ℕ
  pub sends : next_frame s ≡ Send
  pub is_next : IsNextFrame s frame
  pub answered : IsAnswered (asked s) t frame w v

-- Where a start-up over a wire leads, and the wire. A start-up that has ended or has no number left rests; one whose frame is
-- outstanding is lost. Any other sends its next frame. If the frame is answered the start-up goes on, else it is lost.
pub data IsBroughtUp : StartState → WireState → StartState → WireState → Type 0 where
  Rests : (s : StartState) (w : WireState) → next_frame s ≡ Ended → IsBroughtUp s w (asked s) w
  Waits : (s : StartState) (w : WireState) → next_frame s ≡ Waiting → IsBroughtUp s w (given_up s) w
  Loses : (s : StartState) (w v : WireState) (frame : List ℕ) → next_frame s ≡ Send → IsNextFrame s frame → IsUnanswered (asked s) frame w v → IsBroughtUp s w (given_up (asked s)) v
  Goes : (s t e : StartState) (w v x : WireState) → IsTurn s t w v → IsBroughtUp t v e x → IsBroughtUp s w e x
