-- A payload that answers a question, and where its asking datagram stands. It serves private code and its proofs alone.
use Rattle.std.specs.Prelude.{ℕ, ◌≡◌, ◌≤◌, List, [], ◌∷◌, length, false, slice_range}
use Rattle.ec_frame.specs.Datagram.{Datagram, IsDatagram, spelling}
use Rattle.ec_frame.specs.Frame.{Payload, IsFrame}
use Rattle.ec_frame.specs.declared.cursor.DatagramSpan.{DatagramSpan}
use Rattle.ec_frame.specs.Names.{name_datagram}
use Rattle.ec_start.specs.Running.{last_number}
use Rattle.ec_asking.specs.declared.question.Question.{Question}
use Rattle.ec_asking.specs.Questions.{IsAnswerTo}

-- the data of the first datagram of question number `count`
abbrev pub question_name : ℕ → List ℕ
question_name count = (name_datagram last_number count).data_bytes

pub record IsAnswerAt (payload : List ℕ) (q : Question) (count : ℕ) (span : DatagramSpan) : Type 0 where
  pub frame : Payload
  pub first : Datagram
  pub datagram : Datagram
  pub spelled : IsFrame payload frame
  pub both : frame.datagrams ≡ first ∷ datagram ∷ []
  pub good : IsDatagram datagram
  pub answer : IsAnswerTo q count frame.datagrams
  pub within : (span.from ≤ span.to) × (span.to ≤ length payload)
  pub there : slice_range payload span.from span.to ≡ spelling false datagram
