-- What private code returns. You don't need it to read what a live segment does.
use Rattle.std.specs.Prelude.{◌≡◌, ◌==◌, ◌⊎◌, ℕ, ◌+◌, ◌-◌, List, [], ◌∷◌, length, Bool, true, false, Option, Some, None, Result, Ok, Err, is_ok}
use Rattle.ec_lines.specs.Taking.{IsSoFar, TakesPart, max_kept}
use Rattle.ec_wire.specs.Wires.{Carries, WireState, is_fault}
use Rattle.ec_wire.specs.declared.trouble.Trouble.TheVariants.{Silence}
use Rattle.ec_console.specs.declared.refusal.Refusal.{Refusal}
use Rattle.ec_console.specs.declared.refusal.Refusal.TheVariants.{Socket}
use Rattle.ec_console.specs.Printing.{OutputState}
use Rattle.ec_console.specs.Unmet.{counted}
use Rattle.ec_script.specs.Drafts.{DraftState}
use Rattle.ec_live.specs.Living.{Came, EndsTurns, IsCut, ObeysOne, RunState, Runs, payloads_of}
use Rattle.ec_live.specs.Meeting.{Meets}
use Rattle.ec_live.specs.State.{LiveState}
use Rattle.ec_frame.specs.declared.command.Command.{Command}
use Rattle.ec_frame.specs.declared.cursor.Datagrams.{Datagrams}
use Rattle.ec_frame.specs.Commands.{number_of}
use Rattle.ec_frame.specs.Cursor.{IsAhead}
use Rattle.ec_frame.specs.Datagram.{Datagram}
use Rattle.ec_frame.specs.Frame.{IsFrame, Payload}
use Rattle.ec_live.specs.Cyclic.{cyclic_part}
use Rattle.ec_live.specs.Drops.{is_dropped}

-- a cursor went past the first of these datagrams, and `has` says whether it has a command; there may be none
abbrev pub HasOver : List ℕ → Datagrams → Command → List Datagram → (has : Bool) → Type 0
HasOver payload places command [] has = has ≡ false
HasOver payload places command (d ∷ ds) has = (has ≡ (number_of d.command == number_of command)) × IsAhead payload places ds

-- ---- a payload, and a line

-- a payload is no frame that is dropped
abbrev pub IsReturned : LiveState → List ℕ → Type 0
IsReturned s payload = (frame : Payload) → IsFrame payload frame → is_dropped s.drops (cyclic_part s.world.plan.parts frame.datagrams) ≡ false

-- ---- one thing that comes

-- the lines so far: the bytes that are kept of one that isn't whole, the lines of a block that isn't, how many came, how often what they expect
-- wasn't so, and whether more may come
pub record LinesState : Type 0 where
  pub part : List ℕ
  pub draft : DraftState
  pub count : ℕ
  pub unmet : ℕ
  pub is_open : Bool

-- a run is where these lines are, and what the input has left
pub record FitsLines (t : RunState) (lines : LinesState) (left : Option (List ℕ)) : Type 0 where
  pub draft : lines.draft ≡ t.draft
  pub number : lines.count ≡ t.number
  pub unmet : lines.unmet ≡ counted t.unmet
  pub rest : TakesPart t.left left
  pub part : lines.is_open ≡ true → IsSoFar t.left left max_kept lines.part

-- nothing is done but that bytes of a line may be taken; or a line is done
abbrev pub ObeysSome : RunState → LiveState → LinesState → (left : Option (List ℕ)) → OutputState → Type 0
ObeysSome s live lines left output =
    ((live ≡ s.live) × (output ≡ s.output) × FitsLines s lines left)
    ⊎ ((line : List ℕ) × (t : RunState) × ObeysOne s line t × (t.live ≡ live) × (t.output ≡ output) × FitsLines t lines left)

-- a line is cut short, by a refusal
abbrev pub ObeysCut : RunState → LiveState → OutputState → Refusal → Type 0
ObeysCut s live output refusal = (t : RunState) × IsCut s t refusal × (t.live ≡ live) × (t.output ≡ output)

-- how many payloads are to come, after k of them
abbrev pub FramesLeft : Option ℕ → ℕ → Option ℕ → Type 0
FramesLeft None k None = Unit {0}
FramesLeft None k (Some n) = ⊥
FramesLeft (Some m) k None = ⊥
FramesLeft (Some m) k (Some n) = n + k ≡ m

-- a run ends since no payload comes: as one that is cut short if more were to come
abbrev pub Closes : Option ℕ → Result Unit Refusal → Type 0
Closes None ended = ended ≡ Ok tt
Closes (Some n) ended = ended ≡ Err (Socket Silence)

-- where a run is, by what the code has
pub record IsAt (t : RunState) (now : LiveState) (on : WireState) (part : LinesState) (left : Option (List ℕ)) (printed : OutputState) : Type 0 where
  pub live : t.live ≡ now
  pub wire : t.wire ≡ on
  pub output : t.output ≡ printed
  pub lines : FitsLines t part left

-- a run so far
pub record HasCome (all : Option ℕ) (s : RunState) (live : LiveState) (wire : WireState) (lines : LinesState) (left : Option (List ℕ)) (output : OutputState) (now : Option ℕ) : Type 0 where
  pub came : List Came
  pub last : RunState
  pub runs : Runs s came last
  pub at : IsAt last live wire lines left output
  pub frames : FramesLeft all (length (payloads_of came)) now

-- how the turns end, and where the run is then
pub record TurnsEnd (frames : Option ℕ) (s : RunState) (now : LiveState) (left : Option (List ℕ)) (printed : OutputState) (unmet : ℕ) (ended : Result Unit Refusal) : Type 0 where
  pub last : RunState
  pub ends : EndsTurns frames s last left ended
  pub live : last.live ≡ now
  pub output : last.output ≡ printed
  pub expects : is_ok ended ≡ true → unmet ≡ counted last.unmet

-- one payload less is to come, if their number is known
abbrev pub one_less_frame : Option ℕ → Option ℕ
one_less_frame None = None
one_less_frame (Some n) = Some (n - 1)

-- a payload that came is met, and its answer is sent, if it has one
pub record AnswersOne (payload : List ℕ) (s t : LiveState) (w v : WireState) : Type 0 where
  pub answers : List (List ℕ)
  pub carried : Carries w v answers []
  pub fine : v.failed ≡ w.failed
  pub meets : Meets s payload t answers

-- or it isn't sent
pub record KeepsAnswer (payload : List ℕ) (s t : LiveState) (w v : WireState) : Type 0 where
  pub answer : List ℕ
  pub carried : Carries w v [] []
  pub fault : is_fault w v ≡ true
  pub meets : Meets s payload t (answer ∷ [])

-- a payload comes, and its answer is sent, if it has one
pub record MeetsPayload (payload : List ℕ) (s t : LiveState) (w v : WireState) : Type 0 where
  pub answers : List (List ℕ)
  pub carried : Carries w v answers (payload ∷ [])
  pub fine : v.failed ≡ w.failed
  pub meets : Meets s payload t answers

-- nothing comes
pub record MeetsNothing (s t : LiveState) (w v : WireState) : Type 0 where
  pub carried : Carries w v [] []
  pub fine : v.failed ≡ w.failed
  pub same : t ≡ s

-- a payload comes, or nothing
abbrev pub MeetsSome : (s t : LiveState) → (w v : WireState) → (before after : Option ℕ) → Type 0
MeetsSome s t w v before after =
    (MeetsNothing s t w v × (after ≡ before)) ⊎ ((payload : List ℕ) × MeetsPayload payload s t w v × (after ≡ one_less_frame before))

-- the answer to a payload isn't sent
pub record MissesAnswer (s t : LiveState) (w v : WireState) : Type 0 where
  pub payload : List ℕ
  pub answer : List ℕ
  pub carried : Carries w v [] (payload ∷ [])
  pub fault : is_fault w v ≡ true
  pub meets : Meets s payload t (answer ∷ [])

-- a call of the wire is a fault
abbrev pub MeetsFault : (s t : LiveState) → (w v : WireState) → Type 0
MeetsFault s t w v = ((t ≡ s) × Carries w v [] [] × (is_fault w v ≡ true)) ⊎ MissesAnswer s t w v
