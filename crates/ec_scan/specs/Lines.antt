-- A wire over which a scan asks: what it has sent, and how many frames at most.
use Rattle.std.specs.Prelude.{ℕ, ◌+◌, ◌*◌, ◌≡◌, ◌≤◌, ◌<◌, List, [], ◌∷◌, length, Option, Some, All, Contains}
use Rattle.ec_start.specs.declared.action.Action.{Action}
use Rattle.ec_start.specs.declared.action.Action.TheVariants.{CountSlaves}
use Rattle.ec_frame.specs.Building.{bare_payload}
use Rattle.ec_frame.specs.Frame.{IsFrame}
use Rattle.ec_start.specs.Actions.{datagram_of, frame_of}
use Rattle.ec_start.specs.Answered.{IsAnswerIn}
use Rattle.ec_wire.specs.Wires.{Trace, Nothing, Number, Payloads, WireState, Carries, grown}
use Rattle.ec_scan.specs.Scanning.{IsScanFrame}

-- the most frames for one turn, and the most of a scan: those for two turns of 64 slaves, and those for all of them
abbrev pub slave_frames : ℕ
slave_frames = 65536

abbrev pub common_frames : ℕ
common_frames = 4096

abbrev pub most_frames : ℕ
most_frames = common_frames + 128 * slave_frames

-- What a wire sent since it was opened, as far as its state says it: frames of a scan, so many at most.
abbrev pub HasSentFrames : Trace → ℕ → Type 0
HasSentFrames Nothing count = Unit {0}
HasSentFrames (Number told) count = told ≤ count
HasSentFrames (Payloads told) count = (length told ≤ count) × All IsScanFrame told

-- the value of a `Line`
pub record LineState : Type 0 where
  pub wire : WireState
  -- the number of the next frame
  pub number : ℕ
  -- how many frames may be sent before the next turn is begun
  pub left : ℕ
  -- the data of the datagram that came back last
  pub answer : List ℕ
  -- the action that was asked last
  pub asked : Option Action

-- what each line keeps
pub record IsOnLine (wire : WireState) (number left : ℕ) (answer : List ℕ) : Type 0 where
  pub sent : HasSentFrames wire.sent number
  pub bound : number + left ≤ most_frames
  pub short : length answer ≤ 1472

-- a wire that has sent nothing yet, as far as its state says it
abbrev pub IsFresh : Trace → Type 0
IsFresh Nothing = Unit {0}
IsFresh (Number told) = told ≡ 0
IsFresh (Payloads told) = told ≡ []

-- The last payload that came answers the frame of an action with a number, with this working counter; its data are kept.
pub record IsHeard (a : Action) (number : ℕ) (t : LineState) (counter : ℕ) : Type 0 where
  pub payload : List ℕ
  pub part : List ℕ
  pub before : WireState
  pub came : Carries before t.wire [] (payload ∷ [])
  pub answer : IsAnswerIn payload a number part
  pub counted : answer.datagram.counter ≡ counter
  pub kept : answer.datagram.data_bytes ≡ t.answer
  pub long : length t.answer ≡ length (datagram_of a 0).data_bytes

-- The frame of an action was sent, with the line's number, and answered.
pub record IsAnswered (a : Action) (s t : LineState) (counter : ℕ) : Type 0 where
  pub frame : List ℕ
  pub sent : WireState
  pub spelled : IsFrame frame (bare_payload (frame_of a s.number))
  pub carried : Carries s.wire sent (frame ∷ []) []
  pub asked : t.asked ≡ Some a
  pub next : t.number ≡ s.number + 1
  pub heard : IsHeard a s.number t counter

-- ---- how many slaves answered

-- what a wire received before, it has received; and maybe more
pub record Keeps (old new : WireState) : Type 0 where
  pub more : List (List ℕ)
  pub receives : new.received ≡ grown old.received more

-- a payload is one of those that were received, as far as a wire's state says it
abbrev pub HasCome : Trace → List ℕ → Type 0
HasCome Nothing payload = Unit {0}
HasCome (Number told) payload = 1 ≤ told
HasCome (Payloads told) payload = Contains told payload

-- A payload that came answers a frame which counts the slaves, with this working counter: so many have it passed. The line sent so many
-- frames behind it at most. (A scan counts at its begin, too; the count that is meant is that at its end, since more frames follow the first.)
pub record WasCounted (behind : ℕ) (l : LineState) (count : ℕ) : Type 0 where
  pub payload : List ℕ
  pub number : ℕ
  pub part : List ℕ
  pub came : HasCome l.wire.received payload
  pub answer : IsAnswerIn payload CountSlaves number part
  pub counted : answer.datagram.counter ≡ count
  pub sent : number < l.number
  pub last : l.number ≤ number + 1 + behind
