-- What a verdict looks at: the counter and the data of a datagram; and which payloads answer an action.
use Rattle.std.specs.Prelude.{ℕ, ◌≡◌, ◌==◌, List, ◌∷◌, [], false, if◌then◌else◌, map}
use Rattle.std.specs.Int.{to_le_bytes, w64}
use Rattle.ec_frame.specs.declared.command.Command.TheVariants.{Nop}
use Rattle.ec_frame.specs.Datagram.{Datagram, IsDatagram, spelling}
use Rattle.ec_frame.specs.Building.{new_datagram}
use Rattle.ec_frame.specs.Frame.{Payload, IsFrame}
use Rattle.ec_start.specs.declared.action.Action.{Action}
use Rattle.ec_start.specs.declared.verdict.Verdict.{Verdict}
use Rattle.ec_start.specs.declared.verdict.Verdict.TheVariants.{Next, Again}
use Rattle.ec_start.specs.Actions.{frame_of}
use Rattle.ec_start.specs.Verdicts.{word_at}
use Rattle.ec_start.specs.Running.{shape, number_in}

abbrev pub answered : ℕ → List ℕ → Datagram
answered counter bytes = record (new_datagram Nop 0 0 bytes) { counter = counter }

abbrev pub init_verdict : List ℕ → Verdict
init_verdict bytes = if word_at bytes 0 == 1 then Next else Again

-- commands, Idx, lengths, order and number of the frame of an action
pub record Answers (a : Action) (number : ℕ) (ds : List Datagram) : Type 0 where
  pub shapes : map shape ds ≡ map shape (frame_of a number)
  pub number_is : number_in ds ≡ to_le_bytes w64 number

-- the payload is a frame that answers it, and the part spells its second datagram
pub record IsAnswerIn (payload : List ℕ) (a : Action) (number : ℕ) (part : List ℕ) : Type 0 where
  pub frame : Payload
  pub first : Datagram
  pub datagram : Datagram
  pub spelled : IsFrame payload frame
  pub both : frame.datagrams ≡ first ∷ datagram ∷ []
  pub good : IsDatagram datagram
  pub answer : Answers a number frame.datagrams
  pub there : part ≡ spelling false datagram
