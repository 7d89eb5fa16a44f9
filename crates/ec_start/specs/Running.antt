-- A start-up as it runs.
use Rattle.std.specs.Prelude.{ℕ, ◌+◌, ◌-◌, ◌^◌, ◌≡◌, ◌==◌, ◌↔◌, List, [], ◌∷◌, length, map, take, get_or, Bool, true, false, if◌then◌else◌, nat_lt, slice_get, Option, Some, None, Result, Ok, Err}
use Rattle.std.specs.Int.{to_le_bytes, w64}
use Rattle.ec_device.specs.declared.slave_type.Device.{Device}
use Rattle.ec_device.specs.Types.{SlaveKind, plain_kind}
use Rattle.ec_device.specs.Hardware.{takes_any_revision}
use Rattle.ec_al.specs.declared.state.State.{State}
use Rattle.ec_al.specs.declared.state.State.TheVariants.{Init, PreOp, SafeOp, Op}
use Rattle.ec_frame.specs.Datagram.{Datagram}
use Rattle.ec_frame.specs.Frame.{Payload, IsFrame}
use Rattle.ec_frame.specs.Names.{name_of}
pub use Rattle.ec_frame.specs.Names.{Shape, shape}
use Rattle.ec_link.specs.declared.settings.SlavePlan.{SlavePlan}
use Rattle.ec_start.specs.declared.action.Action.{Action}
use Rattle.ec_start.specs.declared.action.Action.TheVariants.{CountSlaves, AwaitWord, AskState, AwaitState, FeedPart}
use Rattle.ec_start.specs.declared.action.Feed.{Feed}
use Rattle.ec_start.specs.declared.error.StartError.{StartError}
use Rattle.ec_start.specs.declared.error.StartError.TheVariants.{TooSlow, Lost, NumbersSpent}
use Rattle.ec_start.specs.declared.aside.Heard.{Heard}
use Rattle.ec_start.specs.declared.verdict.Verdict.{Verdict}
use Rattle.ec_start.specs.declared.verdict.Verdict.TheVariants.{Next, Word, Fed, Again, Aside, Fails}
use Rattle.ec_start.specs.declared.verdict.WantedDevice.{WantedDevice}
use Rattle.ec_start.specs.declared.phase.Phase.{Phase}
use Rattle.ec_start.specs.declared.phase.Phase.TheVariants.{Idle, Sent, Ready, Failed}
use Rattle.ec_start.specs.declared.phase.NextFrame.{NextFrame}
use Rattle.ec_start.specs.declared.phase.NextFrame.TheVariants.{Send, Waiting, Ended}
use Rattle.ec_start.specs.declared.phase.Taken.{Taken}
use Rattle.ec_start.specs.declared.phase.Taken.TheVariants.{Accepted, Foreign}
use Rattle.ec_start.specs.Actions.{frame_of}
use Rattle.ec_start.specs.Scripts.{script}
use Rattle.ec_start.specs.Verdicts.{nothing_read, with_word, verdict}

-- the value of a `Startup`
pub record StartState : Type 0 where
  pub plan : List SlavePlan
  -- the parts whose outputs are fed with zeros before a frame that asks for OP or looks for it; none without `hardware`
  pub feeds : List Feed
  -- the number of the next frame
  pub next : ℕ
  -- the place in the script
  pub place : ℕ
  -- how many of the parts were fed before the frame of this place that comes next
  pub fed : ℕ
  -- how many polls of the wait there have been
  pub polls : ℕ
  -- what was read of the identity so far
  pub seen : Device
  -- the message that was set aside last, in this start-up
  pub heard : Option Heard
  pub phase : Phase

-- as it begins: no frame was sent
unfoldable pub begun : List SlavePlan → List Feed → ℕ → StartState
begun plan feeds number = record { plan = plan; feeds = feeds; next = number; place = 0; fed = 0; polls = 0; seen = nothing_read; heard = None; phase = Idle }

-- the action of the step that it is at
abbrev pub step_of : StartState → Action
step_of s = get_or (script s.plan) s.place CountSlaves

-- whether parts are fed before each frame of an action: it asks for OP, or looks for it
abbrev pub is_op : State → Bool
is_op Op = true
is_op Init = false
is_op PreOp = false
is_op SafeOp = false

abbrev pub is_fed : Action → Bool
is_fed (AskState i state) = is_op state
is_fed (AwaitState i state) = is_op state
is_fed _ = false

abbrev pub feed_or : Option Feed → Action → Action
feed_or None a = a
feed_or (Some f) a = FeedPart f

-- what its next frame does: it feeds the next part, or else is the step's own
abbrev pub action_of : StartState → Action
action_of s = if is_fed (step_of s) then feed_or (slice_get s.feeds s.fed) (step_of s) else step_of s

abbrev pub wanted_of : SlaveKind → WantedDevice
wanted_of k = record { device = k.device; any_revision = takes_any_revision k.hardware }

-- the device that slave i must be, by its type
abbrev pub type_of : List SlavePlan → ℕ → WantedDevice
type_of ps i = wanted_or (slice_get ps i)
  where
    wanted_or : Option SlavePlan → WantedDevice
    wanted_or None = wanted_of plain_kind
    wanted_or (Some p) = wanted_of p.kind

-- ---- sending

-- the number that no frame has: when it would be next, the numbers are spent
abbrev pub last_number : ℕ
last_number = 2 ^ 64 - 1

-- the frame of the next number is sent
abbrev pub sending : StartState → StartState
sending s = record s { next = s.next + 1; phase = Sent s.next }

-- a running start-up without an outstanding frame sends one, or has no number left
abbrev pub asked_by : StartState → Phase → StartState
asked_by s Idle = if s.next == last_number then record s { phase = Failed NumbersSpent } else sending s
asked_by s (Sent number) = s
asked_by s Ready = s
asked_by s (Failed error) = s

-- the start-up after `next`
abbrev pub asked : StartState → StartState
asked s = asked_by s s.phase

abbrev pub next_frame_by : StartState → Phase → NextFrame
next_frame_by s Idle = if s.next == last_number then Ended else Send
next_frame_by s (Sent number) = Waiting
next_frame_by s Ready = Ended
next_frame_by s (Failed error) = Ended

-- what `next` returns
abbrev pub next_frame : StartState → NextFrame
next_frame s = next_frame_by s s.phase

-- ---- judging

-- the place after an action; behind the last one it is Ready
abbrev pub advanced : StartState → Device → StartState
advanced s seen = record s {
  place = s.place + 1;
  fed = 0;
  polls = 0;
  seen = seen;
  phase = if nat_lt (s.place + 1) (length (script s.plan)) then Idle else Ready;
}

abbrev pub with_identity : StartState → Action → ℕ → Device
with_identity s (AwaitWord i which) value = with_word s.seen which value
with_identity s _ value = s.seen

-- how often a wait is tried
abbrev pub max_polls : ℕ
max_polls = 1000

-- a wait goes on with one more poll, or ends behind the last
abbrev pub polled : StartState → StartState
polled s = if s.polls + 1 == max_polls then record s { phase = Failed (TooSlow s.place) } else record s { fed = 0; polls = s.polls + 1; phase = Idle }

abbrev pub judged : StartState → Verdict → StartState
judged s Next = advanced s s.seen
judged s (Word value) = advanced s (with_identity s (action_of s) value)
judged s Fed = record s { fed = s.fed + 1; phase = Idle }
judged s Again = polled s
judged s (Aside heard) = polled (record s { heard = Some heard })
judged s (Fails error) = record s { phase = Failed error }

-- the returned datagram of the outstanding frame is taken
abbrev pub taken : StartState → Datagram → StartState
taken s d = judged s (verdict (length s.plan) s.place s.seen (type_of s.plan) (action_of s) d)

-- ---- which payloads are taken

abbrev pub number_in : List Datagram → List ℕ
number_in ds = take 8 (name_of ds)

-- commands, Idx, lengths and order are those of the frame that was sent, and so is its number
pub record IsStartAnswer (s : StartState) (number : ℕ) (ds : List Datagram) : Type 0 where
  pub shapes : map shape ds ≡ map shape (frame_of (action_of s) number)
  pub number_is : number_in ds ≡ to_le_bytes w64 number

-- the second datagram of a frame
abbrev pub second : List Datagram → Option Datagram
second [] = None
second (d ∷ []) = None
second (d ∷ e ∷ ds) = Some e

-- the payload answers the outstanding frame
pub record IsOutstanding (s : StartState) (payload : List ℕ) : Type 0 where
  pub number : ℕ
  pub frame : Payload
  pub sent : s.phase ≡ Sent number
  pub spelled : IsFrame payload frame
  pub answer : IsStartAnswer s number frame.datagrams

abbrev pub is_accepted : Taken → Bool
is_accepted Accepted = true
is_accepted Foreign = false

-- what `take` does: an answer to the outstanding frame is kept and judged by its second datagram; any other payload changes
-- nothing
pub record IsStartTaken (old : StartState) (payload : List ℕ) (is_accepted : Bool) (new : StartState) : Type 0 where
  pub answers : (number : ℕ) (p : Payload) → old.phase ≡ Sent number → IsFrame payload p → (is_accepted ≡ true) ↔ IsStartAnswer old number p.datagrams
  pub only : is_accepted ≡ true → IsOutstanding old payload
  pub kept : (p : Payload) (d : Datagram) → is_accepted ≡ true → IsFrame payload p → second p.datagrams ≡ Some d → new ≡ taken old d
  pub foreign : is_accepted ≡ false → new ≡ old

-- ---- the end

abbrev pub given_up_by : StartState → Phase → StartState
given_up_by s Idle = record s { phase = Failed Lost }
given_up_by s (Sent number) = record s { phase = Failed Lost }
given_up_by s Ready = s
given_up_by s (Failed error) = s

-- a running start-up is given up; an ended one stays
abbrev pub given_up : StartState → StartState
given_up s = given_up_by s s.phase

-- after a failure it may begin again, with the next number
abbrev pub has_failed : Phase → Bool
has_failed (Failed error) = true
has_failed Idle = false
has_failed (Sent number) = false
has_failed Ready = false

abbrev pub restarted : StartState → StartState
restarted s = begun s.plan s.feeds s.next

abbrev pub is_ended : Phase → Bool
is_ended Ready = true
is_ended (Failed error) = true
is_ended Idle = false
is_ended (Sent number) = false

abbrev pub is_sent : Phase → Bool
is_sent (Sent number) = true
is_sent Idle = false
is_sent Ready = false
is_sent (Failed error) = false

-- how a start-up ended, if it has
abbrev pub outcome_of : Phase → Option (Result Unit StartError)
outcome_of Idle = None
outcome_of (Sent number) = None
outcome_of Ready = Some (Ok tt)
outcome_of (Failed error) = Some (Err error)
