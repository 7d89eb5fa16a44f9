-- A question over a wire. A choice of this project: an answer that doesn't come while the wire's patience lasts is no answer.
use Rattle.std.specs.Prelude.{ℕ, ◌≡◌, ◌⊎◌, List, [], ◌∷◌, Option, None, Result, Ok, Err, true, false}
use Rattle.ec_frame.specs.Building.{bare_payload}
use Rattle.ec_frame.specs.Frame.{Payload, IsFrame}
use Rattle.ec_wire.specs.declared.error.SocketFault.{SocketFault}
use Rattle.ec_wire.specs.Wires.{WireState, Carries, is_fault}
use Rattle.ec_asking.specs.declared.answer.AlStatus.{AlStatus}
use Rattle.ec_asking.specs.declared.question.Question.{Question}
use Rattle.ec_asking.specs.Questions.{IsAnswerTo, question_frame, told_in}

-- the payload doesn't answer the question
abbrev pub IsNoAnswer : Question → ℕ → List ℕ → Type 0
IsNoAnswer q count payload = (p : Payload) → IsFrame payload p → IsAnswerTo q count p.datagrams → ⊥

-- it does, and says this
pub record Answers (q : Question) (count : ℕ) (payload : List ℕ) (told : Option AlStatus) : Type 0 where
  pub frame : Payload
  pub spelled : IsFrame payload frame
  pub answers : IsAnswerTo q count frame.datagrams
  pub is : told ≡ told_in frame.datagrams

-- What came, in order: the first payload that answers the question ends it. If none does, nothing is told.
abbrev pub AreHeard : Question → ℕ → List (List ℕ) → Option AlStatus → Type 0
AreHeard q count [] told = told ≡ None
AreHeard q count (p ∷ ps) told = (Answers q count p told × (ps ≡ [])) ⊎ (IsNoAnswer q count p × AreHeard q count ps told)

-- payloads came until the question was answered, the patience was over, or the most came; or a call of the wire was a fault
abbrev pub Hears : Question → ℕ → WireState → WireState → Result (Option AlStatus) SocketFault → Type 0
Hears q count old new (Ok told) = (got : List (List ℕ)) × Carries old new [] got × AreHeard q count got told × (new.failed ≡ old.failed)
Hears q count old new (Err fault) = is_fault old new ≡ true

-- The frame of the question is sent, and then payloads come.
pub record IsAsked (q : Question) (count : ℕ) (old new : WireState) (told : Option AlStatus) : Type 0 where
  pub frame : List ℕ
  pub spelled : IsFrame frame (bare_payload (question_frame q count))
  pub got : List (List ℕ)
  pub carried : Carries old new (frame ∷ []) got
  pub heard : AreHeard q count got told
  pub fine : is_fault old new ≡ false

-- Or a call of the wire was a fault.
abbrev pub Asks : Question → ℕ → WireState → WireState → Result (Option AlStatus) SocketFault → Type 0
Asks q count old new (Ok told) = IsAsked q count old new told
Asks q count old new (Err fault) = is_fault old new ≡ true
