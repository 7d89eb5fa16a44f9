-- A wire whose payloads are noted in a capture.
use Rattle.std.specs.Prelude.{ℕ, ◌≡◌, not, List, [], ◌∷◌, map, Bool, None, if◌then◌else◌}
use Rattle.ec_capture.specs.Captures.{Captured}
use Rattle.ec_capture.specs.Recordings.{Notes, Recording}
use Rattle.ec_wire.specs.Wires.{Nothing, Number, Payloads, Trace, WireState}
use Rattle.ec_wire.specs.declared.tap.Side.{Side}
use Rattle.ec_wire.specs.declared.tap.Side.TheVariants.{Master, Segment}

-- A payload that was sent or received, and when, in microseconds.
pub record Carried : Type 0 where
  pub is_sent : Bool
  pub time : ℕ
  pub payload : List ℕ

-- the payloads that were sent, and those that were received, in order
abbrev pub sent_of : List Carried → List (List ℕ)
sent_of [] = []
sent_of (c ∷ cs) = if c.is_sent then c.payload ∷ sent_of cs else sent_of cs

abbrev pub received_of : List Carried → List (List ℕ)
received_of [] = []
received_of (c ∷ cs) = if c.is_sent then received_of cs else c.payload ∷ received_of cs

-- whether a payload has passed slaves, by the end at which it was seen: a payload that comes from a segment has
abbrev pub has_passed : Side → Bool → Bool
has_passed Master is_sent = not is_sent
has_passed Segment is_sent = is_sent

-- what a capture notes of a payload, at interface 0
abbrev pub captured_of : Side → Carried → Captured
captured_of side c = record { interface = 0; time = c.time; passed = has_passed side c.is_sent; payload = c.payload; comment = None }

-- If a wire's state has its payloads, they are these. If it has their number or nothing, this says nothing.
abbrev pub IsTraceOf : Trace → List (List ℕ) → Type 0
IsTraceOf Nothing payloads = Unit {0}
IsTraceOf (Number count) payloads = Unit {0}
IsTraceOf (Payloads told) payloads = told ≡ payloads

-- All that a wire carried is noted, in order: one packet for each payload, up to the first refused write.
pub record IsTapped (side : Side) (wire : WireState) (capture : Recording) : Type 0 where
  pub carried : List Carried
  pub sent : IsTraceOf wire.sent (sent_of carried)
  pub received : IsTraceOf wire.received (received_of carried)
  -- the capture before the first payload
  pub begun : Recording
  pub notes : Notes (map (captured_of side) carried) begun capture

-- What is known of such a wire.
pub record Tap : Type 0 where
  pub side : Side
  pub wire : WireState
  pub capture : Recording
