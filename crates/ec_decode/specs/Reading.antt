-- What a text of frames stands for: the frames that its lines state, one after another (this project's profile).
use Rattle.std.specs.Prelude.{◌≡◌, ℕ, ◌+◌, ◌==◌, ◌||◌, nat_le, Bool, if◌then◌else◌, List, [], ◌∷◌, ◌++◌, length, slice_index, Option, Some, None, option_map, Result, Ok, Err, codes}
use Rattle.std.specs.Str.Lines.{lines}
use Rattle.std.specs.declared.vec.Vec.{Vec}
use Rattle.std.specs.declared.alloc.Global.{Global}
use Rattle.ec_frame.specs.Datagram.{Datagram, opened}
use Rattle.ec_frame.specs.Frame.{IsFrame, Payload}
use Rattle.ec_decode.specs.declared.error.DecodeError.{DecodeError}
use Rattle.ec_decode.specs.declared.error.DecodeError.TheVariants.{Memory, BadScript}
use Rattle.ec_decode.specs.FrameText.{Text}
use Rattle.ec_decode.specs.Lines.{Heading, datagram_in, heading_in}
use Rattle.ec_decode.specs.Words.{◌>>=◌, words_of}

-- a frame whose line was read, and its datagrams so far
pub record Begun : Type 0 where
  pub heading : Heading
  pub datagrams : List Datagram

-- what a line leaves of such a frame, and the frame that it makes whole
pub record Step : Type 0 where
  pub left : Option Begun
  pub frame : Option Payload

-- ---- a line

-- an empty line and an indented one say nothing
abbrev pub is_skipped : Text → Bool
is_skipped line = length line == 0 || (slice_index line 0 == 32 || slice_index line 0 == 9)

abbrev pub begins : Heading → Step
begins h = record { left = Some (record { heading = h; datagrams = [] }); frame = None }

abbrev pub with_datagram : Begun → Datagram → Begun
with_datagram b d = record b { datagrams = b.datagrams ++ d ∷ [] }

-- the frame that a last datagram makes whole
abbrev pub whole_of : Begun → Datagram → Payload
whole_of b d = record { reserved = b.heading.reserved; datagrams = b.datagrams ++ d ∷ []; rest = b.heading.rest }

abbrev pub grown : Begun → Datagram → Step
grown b d =
    if length b.datagrams + 1 == b.heading.count
    then record { left = None; frame = Some (whole_of b d) }
    else record { left = Some (with_datagram b d); frame = None }

-- all datagrams together have 1470 bytes at most
abbrev pub grows : Begun → Datagram → Option Step
grows b d = if nat_le (length (opened (b.datagrams ++ d ∷ []))) 1470 then Some (grown b d) else None

-- what the words of a line do: they are the line of a frame, or of the next datagram of one that isn't whole
abbrev pub step_by : Option Begun → List Text → Option Step
step_by None words = option_map begins (heading_in words)
step_by (Some b) words = datagram_in (length b.datagrams) words >>= grows b

-- none if the line is out of form
abbrev pub step_of : Option Begun → Text → Option Step
step_of begun line = if is_skipped line then Some (record { left = begun; frame = None }) else step_by begun (words_of line)

-- ---- a text

-- the frames before others
abbrev pub before : Option Payload → Result (List Payload) ℕ → Result (List Payload) ℕ
before None read = read
before (Some p) (Ok ps) = Ok (p ∷ ps)
before (Some p) (Err n) = Err n

-- the result of a text's end that comes as line n
abbrev pub ended : ℕ → Option Begun → Result (List Payload) ℕ
ended n None = Ok []
ended n (Some b) = Err n

abbrev pub on_step : ℕ → Option Step → (Option Begun → Result (List Payload) ℕ) → Result (List Payload) ℕ
on_step n None rest = Err n
on_step n (Some s) rest = before s.frame (rest s.left)

-- lines of which the first has number n
unfoldable pub frames_from : ℕ → Option Begun → List Text → Result (List Payload) ℕ
frames_from n begun [] = ended n begun
frames_from n begun (line ∷ lines) = on_step n (step_of begun line) (λ left. frames_from (n + 1) left lines)

-- The frames of a text, whose lines are counted from 1; or the number of its first line that is out of form. A text that ends
-- within a frame lacks the line behind its last.
abbrev pub frames_of : Text → Result (List Payload) ℕ
frames_of text = frames_from 1 None (lines text)

-- ---- errors

abbrev pub error_number : DecodeError → ℕ
error_number Memory = 1
error_number (BadScript n) = 39

abbrev pub error_name : DecodeError → Text
error_name Memory = codes "Memory"
error_name (BadScript n) = codes "BadScript"

abbrev pub error_line : DecodeError → Option ℕ
error_line Memory = None
error_line (BadScript n) = Some n

-- ---- what readers return

-- what line n does to a reader, and what it returns; nothing if it is out of form or memory ran out
abbrev pub ReadsLine : Option Begun → ℕ → Text → Option Begun → Result (Option (Vec ℕ Global)) DecodeError → Type 0
ReadsLine old n line new (Ok None) = step_of old line ≡ Some (record { left = new; frame = None })
ReadsLine old n line new (Ok (Some payload)) =
    (p : Payload) × IsFrame payload.items p × (step_of old line ≡ Some (record { left = new; frame = Some p }))
ReadsLine old n line new (Err Memory) = new ≡ old
ReadsLine old n line new (Err (BadScript k)) = (k ≡ n) × (step_of old line ≡ None) × (new ≡ old)
