-- A run of a live segment: frames and lines, in the order in which they come, and what came of each.
use Rattle.std.specs.Prelude.{◌≡◌, ◌⊎◌, ℕ, ◌+◌, List, [], ◌∷◌, length, true, Option, Some, None, Result, Ok, Err}
use Rattle.ec_lines.specs.Taking.{TakesLine, TakesPart}
use Rattle.ec_wire.specs.Wires.{Carries, WireState, is_fault}
use Rattle.ec_table.specs.Contents.{Contents}
use Rattle.ec_script.specs.Drafts.{DraftState, empty_draft}
use Rattle.ec_console.specs.declared.refusal.Refusal.{Refusal}
use Rattle.ec_console.specs.declared.refusal.Refusal.TheVariants.{Memory, Output, Socket}
use Rattle.ec_console.specs.Coming.{Reader, SaysDue, StopsIn, come, reading_at}
use Rattle.ec_console.specs.Printing.{IsCutOff, IsPrinted, OutputState}
use Rattle.ec_console.specs.Unmet.{EndsUnmet}
use Rattle.ec_live.specs.Doing.{SaysLive, served_line, takes_action}
use Rattle.ec_live.specs.Meeting.{Meets}
use Rattle.ec_live.specs.State.{LiveState}

-- ---- what comes

pub data Came : Type 0 where
  -- a payload on the wire
  Payload : List ℕ → Came
  -- a line of the input, with its end; an empty one is the end of the input
  Line : List ℕ → Came

-- the payloads among them
abbrev pub payloads_of : List Came → List (List ℕ)
payloads_of [] = []
payloads_of (Payload p ∷ cs) = p ∷ payloads_of cs
payloads_of (Line l ∷ cs) = payloads_of cs

-- ---- how far a run is

-- the segment and its wire; what the input had left behind the last whole line, the number of that line, the lines of a block that isn't
-- whole, and how often what lines expect wasn't so; and the output
pub record RunState : Type 0 where
  pub live : LiveState
  pub wire : WireState
  pub left : Option (List ℕ)
  pub number : ℕ
  pub draft : DraftState
  pub unmet : ℕ
  pub output : OutputState

-- no line was taken yet
abbrev pub begun : LiveState → WireState → Option (List ℕ) → OutputState → RunState
begun live wire left output = record { live = live; wire = wire; left = left; number = 0; draft = empty_draft; unmet = 0; output = output }

-- what line n of an input is to it
abbrev pub line_read : Contents → Reader
line_read t = reading_at takes_action t

-- A payload comes, and its answer is sent, if it has one.
pub record MeetsOne (s : RunState) (payload : List ℕ) (t : RunState) : Type 0 where
  pub answers : List (List ℕ)
  pub carried : Carries s.wire t.wire answers (payload ∷ [])
  pub fine : t.wire.failed ≡ s.wire.failed
  pub meets : Meets s.live payload t.live answers
  pub is : t ≡ record s { live = t.live; wire = t.wire }

-- A line is taken, and what is due then is done. Its text is printed.
pub record ObeysOne (s : RunState) (line : List ℕ) (t : RunState) : Type 0 where
  pub taken : TakesLine s.left t.left line
  pub printed : List ℕ
  pub unmet : ℕ
  pub says : SaysDue SaysLive s.live.manner s.live (come (line_read s.live.table) s.draft (s.number + 1) line).1 t.live printed unmet
  pub prints : IsPrinted s.output t.output printed
  pub is : t ≡ record s { live = t.live; left = t.left; number = s.number + 1; draft = (come (line_read s.live.table) s.draft (s.number + 1) line).0; unmet = s.unmet + unmet; output = t.output }

abbrev pub Step : RunState → Came → RunState → Type 0
Step s (Payload payload) t = MeetsOne s payload t
Step s (Line line) t = ObeysOne s line t

-- one thing after another
abbrev pub Runs : RunState → List Came → RunState → Type 0
Runs s [] t = t ≡ s
Runs s (c ∷ cs) t = (mid : RunState) × Step s c mid × Runs mid cs t

-- ---- how it is cut short, behind its last step

-- the answer to a payload isn't sent
pub record LosesAnswer (s t : RunState) : Type 0 where
  pub payload : List ℕ
  pub answer : List ℕ
  pub carried : Carries s.wire t.wire [] (payload ∷ [])
  pub fault : is_fault s.wire t.wire ≡ true
  pub meets : Meets s.live payload t.live (answer ∷ [])
  pub is : t ≡ record s { live = t.live; wire = t.wire }

-- nothing could be received
pub record HearsNone (s t : RunState) : Type 0 where
  pub carried : Carries s.wire t.wire [] []
  pub fault : is_fault s.wire t.wire ≡ true
  pub is : t ≡ record s { wire = t.wire }

-- what is due at a line is done in part, or not at all
pub record StopsInLine (s t : RunState) : Type 0 where
  pub line : List ℕ
  pub taken : TakesLine s.left t.left line
  pub stops : StopsIn SaysLive s.live.manner (line_read s.live.table) s.draft s.live (s.number + 1) line t.live s.output t.output
  pub is : t ≡ record s { live = t.live; left = t.left; output = t.output }

-- by the refusal: of a socket, of memory, or of a write
abbrev pub IsCut : RunState → RunState → Refusal → Type 0
IsCut s t (Socket trouble) = (t ≡ s) ⊎ (HearsNone s t ⊎ LosesAnswer s t)
IsCut s t Memory = (t ≡ s) ⊎ StopsInLine s t
IsCut s t Output = StopsInLine s t × (t.output.is_refused ≡ true)
IsCut s t _ = ⊥

-- ---- the whole

-- These things came, and the run is at `t`. Of the input, bytes of a line that isn't whole may be taken too.
pub record HasRun (s : RunState) (came : List Came) (t : RunState) (left : Option (List ℕ)) : Type 0 where
  pub runs : Runs s came t
  pub rest : TakesPart t.left left

-- as many payloads came as there were to come; without a number any may be all, since then none came in time
abbrev pub AreAll : Option ℕ → List Came → Type 0
AreAll None came = Unit {0}
AreAll (Some frames) came = length (payloads_of came) ≡ frames

-- how a run ends, before the counts are printed
abbrev pub EndsTurns : (frames : Option ℕ) → (s t : RunState) → (left : Option (List ℕ)) → Result Unit Refusal → Type 0
EndsTurns frames s t left (Ok done) = (came : List Came) × HasRun s came t left × AreAll frames came
EndsTurns frames s t left (Err refusal) = (came : List Came) × (mid : RunState) × HasRun s came mid left × IsCut mid t refusal

-- a run that came to its end, and the counts are printed
pub record RunsOut (frames : Option ℕ) (s : RunState) (left : Option (List ℕ)) (new : OutputState) (unmet : ℕ) : Type 0 where
  pub last : RunState
  pub ends : EndsTurns frames s last left (Ok tt)
  pub expects : last.unmet ≡ unmet
  pub prints : IsPrinted last.output new (served_line last.live.answered last.live.refused)

-- a run that was cut short, and the counts are printed
pub record RunsShort (frames : Option ℕ) (s : RunState) (left : Option (List ℕ)) (new : OutputState) (refusal : Refusal) : Type 0 where
  pub last : RunState
  pub ends : EndsTurns frames s last left (Err refusal)
  pub prints : IsPrinted last.output new (served_line last.live.answered last.live.refused)

-- a run whose counts can't be printed as a whole
pub record RunsUnprinted (frames : Option ℕ) (s : RunState) (left : Option (List ℕ)) (new : OutputState) (refusal : Refusal) : Type 0 where
  pub last : RunState
  pub ended : Result Unit Refusal
  pub ends : EndsTurns frames s last left ended
  pub refused : refusal ≡ Output
  pub prints : IsCutOff last.output new (served_line last.live.answered last.live.refused)

-- How a live segment ends: all is as lines expect; or it isn't, so many times; or the run is cut short; or the counts can't be printed.
abbrev pub LivesOn : (frames : Option ℕ) → (s : RunState) → (left : Option (List ℕ)) → (new : OutputState) → Result Unit Refusal → Type 0
LivesOn frames s left new (Ok done) = RunsOut frames s left new 0
LivesOn frames s left new (Err refusal) =
    EndsUnmet refusal (RunsOut frames s left new) ⊎ (RunsShort frames s left new refusal ⊎ RunsUnprinted frames s left new refusal)
