-- Laws over the definitions.
use Rattle.std.specs.Prelude.{ℕ, ◌+◌, ◌-◌, ◌*◌, ◌^◌, ◌<◌, ◌≡◌, List, [], ◌∷◌, ◌++◌, length, map, get_or, Bool, true, if◌then◌else◌, is_some, unwrap_or, bit_or}
use Rattle.std.specs.List.{fold, Contains}
use Rattle.ec_bits.specs.Bits.{bit}
use Rattle.ec_al.specs.Al.{status_word}
use Rattle.ec_frame.specs.Datagram.{Datagram}
use Rattle.ec_slave.specs.State.{SlaveState, manager_at}
use Rattle.ec_slave.specs.Exchange.{with_outputs, inputs_of}
use Rattle.ec_ring.specs.Rings.{passes_ring, RingPassed}
use Rattle.ec_link.specs.Shares.{share_in}
use Rattle.ec_link.specs.Meaning.{Meaning, share_of, slave_at, area_at, meaning}
use Rattle.ec_link.specs.Plan.{PlanState, part_at}
use Rattle.ec_link.specs.Usable.{IsUsable}
use Rattle.ec_cycle.specs.Closing.{bytes_at}
use Rattle.ec_cycle.specs.Frames.{cyclic_datagrams, sent_datagrams}
use Rattle.ec_world.specs.declared.event.Event.{Event}
use Rattle.ec_world.specs.declared.event.Event.TheVariants.{Stop}
use Rattle.ec_world.specs.Plain.{Plain, PlainSlave, PlainFrame, Working, Note, step, run, met_note, no_plain_slave, linked_outputs}
use Rattle.ec_world.specs.World.{WorldState, IsStep, no_slave, is_up}
use Rattle.ec_world.specs.Refines.{Refines}
use Rattle.ec_world.specs.SlaveRefines.{IsWorking, SlaveRefines}
use Rattle.ec_world.specs.FrameRefines.{DatagramsRefine}
use Rattle.ec_world.specs.Exchanging.{slave_left}

-- ---- a frame round the ring

abbrev pub notes_round : Meaning → ℕ → PlainFrame → List PlainSlave → List Note
notes_round m t f [] = []
notes_round m t f (q ∷ qs) = met_note m t f q ∷ notes_round m (t + 1) f qs

-- the slaves refine these plain slaves; the first of both has number t
abbrev pub SlavesFrom : PlanState → ℕ → List SlaveState → List PlainSlave → Type 0
SlavesFrom plan t ss qs = (i : ℕ) → i < length ss → SlaveRefines (t + i) (slave_at plan (t + i)) (get_or ss i no_slave) (get_or qs i no_plain_slave)

-- a cyclic frame brings this AL word, which has one byte
abbrev pub BringsWord : List Datagram → ℕ → Type 0
BringsWord ds word = bytes_at ds 1 ≡ word ∷ 0 ∷ []

-- a word with what slaves say of their AL status joined to it by OR: 8 in OP, 20 after a fault, 1 after a reset (ETG.1000.6, "AL
-- status")
abbrev pub word_past : ℕ → List SlaveState → ℕ
word_past word ss = fold (λ w s. bit_or w (status_word s.al)) word ss

pub record RoundTripped (plan : PlanState) (f : PlainFrame) (ss : List SlaveState) (qs : List PlainSlave) (ds : List Datagram) (after : RingPassed) : Type 0 where
  pub slaves : (i : ℕ) → i < length ss → get_or after.slaves i no_slave ≡ slave_left (meaning plan) (length f.notes + i) f (get_or qs i no_plain_slave) (get_or ss i no_slave)
  pub frame : DatagramsRefine plan (record f { notes = f.notes ++ notes_round (meaning plan) (length f.notes) f qs }) after.datagrams
  pub word : (w : ℕ) → BringsWord ds w → BringsWord after.datagrams (word_past w ss)

-- A cyclic frame that goes round leaves each slave, working or not, as the plain machine says, and brings back what it says.
abbrev pub RoundTrip : Type 0
RoundTrip =
    (plan : PlanState) (f : PlainFrame) (ss : List SlaveState) (qs : List PlainSlave) (ds : List Datagram)
    → IsUsable plan → length f.notes + length ss ≡ length plan.slaves → length qs ≡ length ss
    → SlavesFrom plan (length f.notes) ss qs → DatagramsRefine plan f ds → RoundTripped plan f ss qs ds (passes_ring ss ds)

-- ---- a cycle past slaves in OP

-- what a slave in OP holds, as a plain slave
abbrev pub in_op : SlaveState → PlainSlave
in_op s = record { health = Working; outputs = (manager_at s.managers 2).buffer; inputs = (manager_at s.managers 3).buffer }

pub record CycleDone (plan : PlanState) (number k : ℕ) (image : List ℕ) (ss : List SlaveState) (after : RingPassed) : Type 0 where
  -- each slave of the part with outputs publishes the linked image bits and zeros, and nothing else of any slave changes
  pub slaves : (t : ℕ) → t < length ss → get_or after.slaves t no_slave
      ≡ (if (share_in k (share_of (meaning plan) t)).wrote then with_outputs (get_or ss t no_slave) (linked_outputs (meaning plan) t image) else get_or ss t no_slave)
  -- the frame comes back with the predicted working counters: every slave of the part gave its whole share
  pub al : List ℕ
  -- and with the AL word of slaves in OP
  pub in_op : 0 < length ss → al ≡ 8 ∷ 0 ∷ []
  pub sent : List ℕ
  pub returned : List ℕ
  pub back : after.datagrams ≡ cyclic_datagrams (part_at plan.parts k) number k (length ss) al sent returned (map (λ s. share_in k s.share) plan.slaves)
  -- and with the published inputs in their places
  pub inputs : (t o : ℕ) → t < length ss → (share_of (meaning plan) t).part ≡ k → o < (area_at plan t).ins
      → bit returned ((area_at plan t).in_at + o - 8 * (part_at plan.parts k).address) ≡ bit (inputs_of (get_or ss t no_slave)) o

abbrev pub CycleLaw : Type 0
CycleLaw =
    (plan : PlanState) (number k : ℕ) (image : List ℕ) (ss : List SlaveState)
    → IsUsable plan → number < 2 ^ 64 → k < length plan.parts → length ss ≡ length plan.slaves
    → ((t : ℕ) → t < length ss → IsWorking t (slave_at plan t) (get_or ss t no_slave) (in_op (get_or ss t no_slave)))
    → CycleDone plan number k image ss (passes_ring ss (sent_datagrams plan number k image))

-- ---- one event, and a run

-- From a Ready world no `Stop` was made: only a stop changes its start-up (`UnstoppedLaw`).
abbrev pub IsUnstopped : WorldState → WorldState → Type 0
IsUnstopped old new = new.start ≡ old.start

-- One event: a world that refines a plain state refines the plain machine's next one, and the two make the same events, but for a
-- stop.
pub record StepRefines (old : WorldState) (event : Event) (new : WorldState) (made : Bool) : Type 0 where
  pub same_plan : (p : Plain) → Refines old p → new.plan ≡ old.plan
  pub made_is : (p : Plain) → Refines old p → IsUnstopped old new → made ≡ is_some (step (meaning old.plan) p event)
  pub shown : (p : Plain) → Refines old p → IsUnstopped old new → Refines new (unwrap_or (step (meaning old.plan) p event) p)

abbrev pub StepsRefine : Type 0
StepsRefine =
    (old : WorldState) (event : Event) (new : WorldState) (made : Bool) → IsUsable old.plan
    → IsStep old event new made → StepRefines old event new made

-- No event changes the plan, whether it can be made or not.
abbrev pub PlanLaw : Type 0
PlanLaw = (old : WorldState) (event : Event) (new : WorldState) (made : Bool) → IsStep old event new made → new.plan ≡ old.plan

-- a run: step after step, and how many were made
abbrev pub IsRun : WorldState → List Event → WorldState → ℕ → Type 0
IsRun old [] new made = (new ≡ old) × (made ≡ 0)
IsRun old (e ∷ es) new made =
    (mid : WorldState) × (one : Bool) × (rest : ℕ) × IsStep old e mid one × IsRun mid es new rest × (made ≡ (if one then 1 else 0) + rest)

-- A run from a world that refines a plain state ends in one that refines the plain run's, and makes as many events, if it makes no
-- stop.
pub record RunRefines (old : WorldState) (events : List Event) (new : WorldState) (made : ℕ) : Type 0 where
  pub shown : (p : Plain) → Refines old p → IsUnstopped old new → Refines new (run (meaning old.plan) p events).plain
  pub made_is : (p : Plain) → Refines old p → IsUnstopped old new → made ≡ (run (meaning old.plan) p events).made

abbrev pub RunsRefine : Type 0
RunsRefine =
    (old : WorldState) (events : List Event) (new : WorldState) (made : ℕ) → IsUsable old.plan
    → IsRun old events new made → RunRefines old events new made

-- Events that are no `Stop` leave the start-up of a Ready world as it is.
abbrev pub UnstoppedLaw : Type 0
UnstoppedLaw =
    (old : WorldState) (events : List Event) (new : WorldState) (made : ℕ) → is_up old.start ≡ true → (Contains events Stop → ⊥)
    → IsRun old events new made → IsUnstopped old new

-- Two runs, one after the other, are one.
abbrev pub RunsJoin : Type 0
RunsJoin =
    (old : WorldState) (first : List Event) (mid : WorldState) (made : ℕ) (second : List Event) (new : WorldState) (more : ℕ)
    → IsRun old first mid made → IsRun mid second new more → IsRun old (first ++ second) new (made + more)
