-- AL states that are asked for by hand: one question at a time, and of each slave what the last answer said.
use Rattle.std.specs.Prelude.{◌≡◌, ◌+◌, ◌%◌, ℕ, Bool, true, false, List, Option, None, Some, get_or, set}
use Rattle.ec_frame.specs.Frame.{Payload, IsFrame}
use Rattle.ec_asking.specs.declared.answer.AlStatus.{AlStatus}
use Rattle.ec_asking.specs.declared.question.Question.TheVariants.{Status}
use Rattle.ec_asking.specs.Questions.{IsAnswerTo, told_in}
use Rattle.ec_handles.specs.declared.statuses.Statuses.{Statuses}
use Rattle.ec_handles.specs.declared.statuses.Told.{Told}

-- the number of the next question
abbrev pub next_count : Statuses → ℕ
next_count s = (s.count + 1) % 65536

-- a slave is asked, and no other any more
abbrev pub status_asked : Statuses → ℕ → Statuses
status_asked s slave = record s { count = next_count s; asked = Some slave }

-- the answer says this of the slave
abbrev pub status_said : Statuses → ℕ → Option AlStatus → Statuses
status_said s slave told = record s { asked = None; said = set s.said slave told }

-- the payload answers the last question, which is for the slave
pub record IsStatusAnswer (s : Statuses) (slave : ℕ) (payload : List ℕ) (p : Payload) : Type 0 where
  pub asked : s.asked ≡ Some slave
  pub spelled : IsFrame payload p
  pub answers : IsAnswerTo (Status slave) s.count p.datagrams

-- An answer is kept; any other payload changes nothing.
abbrev pub TakesStatus : Statuses → List ℕ → Bool → Statuses → Type 0
TakesStatus old payload true new = (slave : ℕ) × (p : Payload) × IsStatusAnswer old slave payload p × (new ≡ status_said old slave (told_in p.datagrams))
TakesStatus old payload false new = ((slave : ℕ) (p : Payload) → IsStatusAnswer old slave payload p → ⊥) × (new ≡ old)

-- what the last answer said of a slave
abbrev pub told_of : Statuses → ℕ → Option AlStatus
told_of s slave = get_or s.said slave None

abbrev pub state_result : Option AlStatus → Told
state_result None = record { is_known = false; word = 0; code = 0 }
state_result (Some said) = record { is_known = true; word = said.word; code = said.code }
