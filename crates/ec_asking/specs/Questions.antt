-- What a master asks apart from start-ups and cycles: the AL status of one slave, or INIT of all (ETG.1000.4, "AL control", "AL status").
use Rattle.std.specs.Prelude.{ℕ, ◌<◌, ◌≡◌, ◌==◌, ◌&&◌, List, [], ◌∷◌, length, map, if◌then◌else◌, Option, Some, None}
use Rattle.ec_bits.specs.Bits.{zeros}
use Rattle.ec_regs.specs.Memory.{al_control, al_status}
use Rattle.ec_frame.specs.declared.command.Command.TheVariants.{Bwr, Fprd}
use Rattle.ec_frame.specs.Datagram.{Datagram}
use Rattle.ec_start.specs.Actions.{sent, station}
use Rattle.ec_frame.specs.Names.{name_datagram, name_of, shape}
use Rattle.ec_start.specs.Running.{last_number, second}
use Rattle.ec_start.specs.Verdicts.{word_at}
use Rattle.ec_asking.specs.declared.answer.AlStatus.{AlStatus}
use Rattle.ec_asking.specs.declared.question.Question.{Question}
use Rattle.ec_asking.specs.declared.question.Question.TheVariants.{Status, Init}

-- a slave that a table can have
abbrev pub IsAskable : Question → Type 0
IsAskable (Status slave) = slave < 64
IsAskable Init = Unit {0}

-- ---- the frame

-- The frames have a number that no frame of a start-up or of a cycle has.
abbrev pub datagram_of : Question → Datagram
datagram_of (Status slave) = sent Fprd (station slave) al_status (zeros 6) last_number
datagram_of Init = sent Bwr 0 al_control (0x11 ∷ 0 ∷ []) last_number

-- question number `count`
abbrev pub question_frame : Question → ℕ → List Datagram
question_frame q count = name_datagram last_number count ∷ datagram_of q ∷ []

-- ---- the answer

-- commands, Idx, lengths, order and name are those of the frame that was sent
pub record IsAnswerTo (q : Question) (count : ℕ) (ds : List Datagram) : Type 0 where
  pub shapes : map shape ds ≡ map shape (question_frame q count)
  pub named : name_of ds ≡ (name_datagram last_number count).data_bytes

-- the AL status, and at 4 its code, if one slave answered
abbrev pub told_by : Datagram → Option AlStatus
told_by d = if (d.counter == 1) && (length d.data_bytes == 6) then Some (record { word = word_at d.data_bytes 0; code = word_at d.data_bytes 4 }) else None

abbrev pub told_of : Option Datagram → Option AlStatus
told_of None = None
told_of (Some d) = told_by d

-- what an answer says
abbrev pub told_in : List Datagram → Option AlStatus
told_in ds = told_of (second ds)
