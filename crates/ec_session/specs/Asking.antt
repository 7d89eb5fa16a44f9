-- What a session asks over a wire apart from start-ups and cycles. `ec_asking` defines a question over one.
use Rattle.std.specs.Prelude.{ℕ, ◌≡◌, ◌+◌, ◌%◌, List, [], ◌∷◌, length, nat_lt, Bool, true, false, Option, None, Result, Ok, Err}
use Rattle.ec_wire.specs.declared.error.RunError.{RunError}
use Rattle.ec_wire.specs.declared.error.RunError.TheVariants.{Wire}
use Rattle.ec_wire.specs.declared.error.SocketFault.{SocketFault}
use Rattle.ec_wire.specs.Wires.{WireState}
use Rattle.ec_asking.specs.declared.answer.AlStatus.{AlStatus}
use Rattle.ec_asking.specs.declared.question.Question.{Question}
use Rattle.ec_asking.specs.declared.question.Question.TheVariants.{Init, Status}
use Rattle.ec_wire.specs.Asked.{Asks}
use Rattle.ec_session.specs.Sessions.{SessionState, outputs_cleared}
use Rattle.ec_session.specs.Wired.{LosesAndCycles, start_again}

-- one question more was asked
abbrev pub with_asked : SessionState → SessionState
with_asked s = record s { asked = (s.asked + 1) % 65536 }

-- A question is asked over the wire. Of the session only the count of questions changes.
pub record IsQuestioned (q : Question) (s : SessionState) (w : WireState) (t : SessionState) (v : WireState) (told : Result (Option AlStatus) SocketFault) : Type 0 where
  pub asks : Asks q s.asked w v told
  pub is : t ≡ with_asked s

-- The AL status of a slave is read. If there is no such slave, nothing is sent.
abbrev pub ReadsBy : Bool → ℕ → SessionState → WireState → SessionState → WireState → Result (Option AlStatus) SocketFault → Type 0
ReadsBy true slave s w t v told = IsQuestioned (Status slave) s w t v told
ReadsBy false slave s w t v told = (t ≡ s) × (v ≡ w) × (told ≡ Ok None)

abbrev pub ReadsStatus : ℕ → SessionState → WireState → SessionState → WireState → Result (Option AlStatus) SocketFault → Type 0
ReadsStatus slave s w t v told = ReadsBy (nat_lt slave (length s.master.plan.slaves)) slave s w t v told

-- slave after slave, the first being number k
abbrev pub AreRead : ℕ → SessionState → WireState → List (Option AlStatus) → SessionState → WireState → Type 0
AreRead k s w [] t v = (t ≡ s) × (v ≡ w)
AreRead k s w (told ∷ more) t v = (mid : SessionState) × (between : WireState) × ReadsStatus k s w mid between (Ok told) × AreRead (k + 1) mid between more t v

-- All of them are read, or some, and then a call of the wire was a fault.
pub record IsReadPart (s : SessionState) (w : WireState) (t : SessionState) (v : WireState) : Type 0 where
  pub told : List (Option AlStatus)
  pub mid : SessionState
  pub between : WireState
  pub read : AreRead 0 s w told mid between
  pub fault : SocketFault
  pub cut : ReadsStatus (length told) mid between t v (Err fault)

abbrev pub ReadsStates : SessionState → WireState → List (Option AlStatus) → SessionState → WireState → Result Unit SocketFault → Type 0
ReadsStates s w told t v (Ok done) = AreRead 0 s w told t v
ReadsStates s w told t v (Err fault) = IsReadPart s w t v

-- ---- the machine is stopped

-- its slaves must be brought up again before the next cycle
abbrev pub stopped : SessionState → SessionState
stopped s = record s { startup = start_again s }

-- how it ends: by what came of the question
abbrev pub EndsAsked : SessionState → Result (Option AlStatus) SocketFault → SessionState → Result Unit RunError → Type 0
EndsAsked s (Ok told) t answer = (t ≡ stopped s) × (answer ≡ Ok tt)
EndsAsked s (Err fault) t answer = (t ≡ s) × (answer ≡ Err Wire)

-- all slaves are asked for INIT
pub record AsksInit (s : SessionState) (w : WireState) (t : SessionState) (v : WireState) (answer : Result Unit RunError) : Type 0 where
  pub told : Result (Option AlStatus) SocketFault
  pub mid : SessionState
  pub asked : IsQuestioned Init s w mid v told
  pub ends : EndsAsked mid told t answer

-- behind the cycle, if no call of the wire was a fault in it
abbrev pub GoesOn : Result Unit RunError → SessionState → WireState → SessionState → WireState → Result Unit RunError → Type 0
GoesOn (Ok done) s w t v answer = AsksInit s w t v answer
GoesOn (Err error) s w t v answer = (t ≡ s) × (v ≡ w) × (answer ≡ Err error)

-- all outputs are 0
abbrev pub cleared : SessionState → SessionState
cleared s = record s { master = outputs_cleared s.master }

-- All outputs become 0, a cycle is run, and all slaves are asked for INIT.
pub record Stops (s : SessionState) (w : WireState) (t : SessionState) (v : WireState) (answer : Result Unit RunError) : Type 0 where
  pub mid : SessionState
  pub between : WireState
  pub ran : Result Unit RunError
  pub cycles : LosesAndCycles (cleared s) w mid between ran
  pub goes_on : GoesOn ran mid between t v answer
