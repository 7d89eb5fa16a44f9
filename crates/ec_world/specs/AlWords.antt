-- The AL word of a report: what the slaves said as the frames of the cycle passed them.
use Rattle.std.specs.Prelude.{ℕ, ◌<◌, ◌≡◌, List, length, get_or, true, false, Option, Some, None, is_some, option_map}
use Rattle.ec_device.specs.declared.slave_type.Identity.{Identity}
use Rattle.ec_al.specs.Al.{Al, status_word}
use Rattle.ec_al.specs.declared.state.State.TheVariants.{Op}
use Rattle.ec_table.specs.Contents.{Contents}
use Rattle.ec_link.specs.declared.plan.ExpectedCounters.{ExpectedCounters}
use Rattle.ec_link.specs.Plan.{plan_of}
use Rattle.ec_cycle.specs.Closing.{ReportState, joined}
use Rattle.ec_cycle.specs.Master.{OpenCycle}
use Rattle.ec_world.specs.declared.event.Event.{Event}
use Rattle.ec_world.specs.declared.event.Event.TheVariants.{Close}
use Rattle.ec_world.specs.World.{WorldState, slave_of, is_up, IsStep}
use Rattle.ec_world.specs.Laws.{IsRun}
use Rattle.ec_world.specs.Whole.{IsNew}
use Rattle.ec_world.specs.Headline.{IsBegun, HasPassed}

-- what slave s says in a broadcast read of the AL status: its state, and whether there is an error (ETG.1000.6, "AL status")
abbrev pub said_by : WorldState → ℕ → ℕ
said_by w s = status_word (slave_of w s).al

-- in OP without error
abbrev pub in_op : Al
in_op = record { state = Op; error = false; code = 0; requested = false; waited = 0 }

-- the word is what slave s said as the frame of part k, of the cycle with this number, passed it
pub record IsHeard (old : WorldState) (events : List Event) (new : WorldState) (number k s word : ℕ) : Type 0 where
  pub pass : HasPassed old events new number k s
  pub word_is : word ≡ said_by pass.event.at s

-- word s is what slave s said
abbrev pub AreHeard : WorldState → List Event → WorldState → ℕ → ℕ → List ℕ → Type 0
AreHeard old events new number k words = (s : ℕ) → s < length words → IsHeard old events new number k s (get_or words s 0)

-- What part k adds to the report: nothing if its frame isn't back, else what all slaves said, joined by OR.
pub data PartSays (t : Contents) (old : WorldState) (events : List Event) (new : WorldState) (number k : ℕ) (counters : Option ExpectedCounters) (word : ℕ) : Type 0 where
  IsNotBack : counters ≡ None → word ≡ 0 → PartSays t old events new number k counters word
  IsBack : is_some counters ≡ true → (words : List ℕ) → length words ≡ length t.slaves → AreHeard old events new number k words → word ≡ joined words → PartSays t old events new number k counters word

-- The open cycle is closed: the report's AL word is what its parts say, joined by OR.
pub record WordShows (t : Contents) (old : WorldState) (events : List Event) (w v : WorldState) : Type 0 where
  -- the number of the open cycle
  pub number : ℕ
  pub is_open : option_map (λ (c : OpenCycle). c.number) w.master.cycle ≡ Some number
  pub begun : IsBegun old events w number
  pub report : ReportState
  pub reported : v.report ≡ Some report
  -- the report has a place for the counters of each part
  pub counted : length report.counters ≡ length (plan_of t).parts
  pub words : List ℕ
  pub count : length words ≡ length (plan_of t).parts
  pub each : (k : ℕ) → k < length words → PartSays t begun.event.next begun.event.behind w number k (get_or report.counters k None) (get_or words k 0)
  pub word : report.al_word ≡ joined words

-- A close in a new world of a table that `compile` accepts, after any list of events that ends with a Ready start-up.
abbrev pub WordLaw : Type 0
WordLaw =
    (t : Contents) (identities : List Identity) (old : WorldState) (events : List Event) (w : WorldState) (made : ℕ)
    → IsNew t identities old → IsRun old events w made → is_up w.start ≡ true
    → (v : WorldState) → IsStep w Close v true → WordShows t old events w v

-- If the frames of the cycle passed only slaves in OP without error, and one of them is back, the word is 8.
abbrev pub OpWordLaw : Type 0
OpWordLaw =
    (t : Contents) (old : WorldState) (events : List Event) (w v : WorldState) (x : WordShows t old events w v) → 0 < length t.slaves
    → ((k s : ℕ) (pass : HasPassed x.begun.event.next x.begun.event.behind w x.number k s) → said_by pass.event.at s ≡ status_word in_op)
    → (k : ℕ) → k < length x.words → is_some (get_or x.report.counters k None) ≡ true → x.report.al_word ≡ 8
