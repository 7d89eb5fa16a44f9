-- What a user is promised, in words of the image, the links and the values of slaves. It is proved of every world that shows a
-- plain state, so of every world after the step that makes it Ready.
use Rattle.std.specs.Prelude.{ℕ, ◌+◌, ◌*◌, ◌<◌, ◌≡◌, ◌≢◌, ◌⊎◌, ◌==◌, ◌&&◌, ◌||◌, List, ◌∷◌, ◌++◌, length, map, get_or, set, Bool, true, false, if◌then◌else◌, nat_le, Option, Some, None, slice_get}
use Rattle.std.specs.List.{list_any}
use Rattle.ec_bits.specs.Bits.{bit, bytes_of_bits}
use Rattle.ec_slave.specs.Exchange.{with_outputs}
use Rattle.ec_link.specs.Shares.{has_outs, has_ins, predicted, unit_of_part}
use Rattle.ec_link.specs.Meaning.{Meaning, Linked, share_of, meaning}
use Rattle.ec_link.specs.Plan.{PlanState}
use Rattle.ec_link.specs.Usable.{IsUsable}
use Rattle.ec_cycle.specs.Closing.{ReturnedPart, ReportState, nones}
use Rattle.ec_cycle.specs.Master.{OpenCycle}
use Rattle.ec_world.specs.declared.event.Event.{Event}
use Rattle.ec_world.specs.declared.event.Event.TheVariants.{StartNext, Set, Begin, Pass, Lose, Return, Close, Serve, AppPut, AppGet, Fault, Reset as ResetSlave, Stop}
use Rattle.ec_world.specs.Plain.{Plain, PlainSlave, PlainFrame, Note, Short, Full, Cycle, Working, Faulted, Reset, unit_full, met_note, plain_slave, frame_at, step, run}
use Rattle.ec_world.specs.World.{WorldState, Flight, IsStep, slave_of, flight_progress}
use Rattle.ec_world.specs.FrameRefines.{out_bit}
use Rattle.ec_world.specs.Refines.{Refines}

-- ---- a cyclic frame passes a slave in OP

-- the outputs of slave s for an image, in whole bytes: each linked bit is the image's, and every other bit is 0
pub record AreLinked (m : Meaning) (s : ℕ) (image bytes : List ℕ) : Type 0 where
  pub size : length bytes ≡ bytes_of_bits (share_of m s).outs
  pub each : (b : ℕ) → b < 8 * length bytes → bit bytes b ≡ out_bit m s image b

-- the slave that a frame passes next
abbrev pub next_slave : PlainFrame → ℕ
next_slave f = length f.notes

-- the frame carries outputs of the slave
abbrev pub has_outputs_for : Meaning → PlainFrame → ℕ → Bool
has_outputs_for m f s = ((share_of m s).part == f.part) && has_outs (share_of m s)

-- The frame in slot k passed the slave. If it carries outputs of the slave, the slave publishes them: they are exactly the linked
-- bits of the image that the frame was made of, and 0 elsewhere. Nothing else of the slave changes, and no other slave, nor the
-- image. The frame is one slave further, and no other slot changes.
pub record IsPublished (old : WorldState) (k : ℕ) (f : PlainFrame) (new : WorldState) : Type 0 where
  pub value : List ℕ
  pub linked : AreLinked (meaning old.plan) (next_slave f) f.snapshot value
  pub slave : slave_of new (next_slave f)
      ≡ (if has_outputs_for (meaning old.plan) f (next_slave f) then with_outputs (slave_of old (next_slave f)) value else slave_of old (next_slave f))
  pub others : (t : ℕ) → t ≢ next_slave f → slave_of new t ≡ slave_of old t
  pub count : length new.slaves ≡ length old.slaves
  pub flight : Flight
  pub goes_on : flight_progress flight ≡ record { number = f.number; part = f.part; passed = next_slave f + 1 }
  pub slots : new.slots ≡ set old.slots k (Some flight)
  pub rest : new ≡ record old { slaves = new.slaves; slots = new.slots }

abbrev pub OutputsLaw : Type 0
OutputsLaw =
    (old : WorldState) (p : Plain) (k : ℕ) (f : PlainFrame) (new : WorldState) → IsUsable old.plan → Refines old p → frame_at p k ≡ Some f
    → (plain_slave p (next_slave f)).health ≡ Working → IsStep old (Pass k) new true → IsPublished old k f new

-- ---- what a frame notes of a slave

-- the slave has so many bits and such a health that it gives less than its share
abbrev pub FallsShort : Meaning → ℕ → PlainSlave → Type 0
FallsShort m s q =
    ((q.health ≡ Reset) × ((has_outs (share_of m s) || has_ins (share_of m s)) ≡ true))
    ⊎ ((q.health ≡ Faulted) × (has_outs (share_of m s) ≡ true))

-- Only a slave that was reset and has bits, or one that had a fault and has outputs, falls short; and what is noted of every
-- other slave of the part is what it publishes as the frame passes.
pub record IsNotedAs (m : Meaning) (s : ℕ) (f : PlainFrame) (q : PlainSlave) : Type 0 where
  pub short : met_note m s f q ≡ Short → ((share_of m s).part ≡ f.part) × FallsShort m s q
  pub full : (v : List ℕ) → met_note m s f q ≡ Full v → v ≡ q.inputs.published

abbrev pub NotesLaw : Type 0
NotesLaw = (m : Meaning) (s : ℕ) (f : PlainFrame) (q : PlainSlave) → IsNotedAs m s f q

-- ---- a cycle is closed

-- the frame of part k came back, and slave s published v as it passed
pub record IsNoted (c : Cycle) (k s : ℕ) (v : List ℕ) : Type 0 where
  pub notes : List Note
  pub back : get_or c.kept k None ≡ Some notes
  pub note : slice_get notes s ≡ Some (Full v)

-- why a unit isn't taken: the frame of one of its parts was lost or isn't back, or it passed a slave that fell short
pub data IsMissed (m : Meaning) (c : Cycle) (u : ℕ) : Type 0 where
  NotBack : (k : ℕ) → k < length c.kept → unit_of_part m k ≡ u → get_or c.kept k None ≡ None → IsMissed m c u
  FellShort : (k s : ℕ) (notes : List Note) → unit_of_part m k ≡ u → get_or c.kept k None ≡ Some notes → slice_get notes s ≡ Some Short → IsMissed m c u

-- the unit of a slave
abbrev pub unit_of_slave : Meaning → ℕ → ℕ
unit_of_slave m s = unit_of_part m (share_of m s).part

-- Part k came back: every slave answered its broadcast, and its working counters, which the report gives, are the predicted ones.
pub record IsCounted (plan : PlanState) (kept : List (Option ReturnedPart)) (report : ReportState) (k : ℕ) : Type 0 where
  pub part : ReturnedPart
  pub back : get_or kept k None ≡ Some part
  pub broadcast : part.broadcast ≡ length plan.slaves
  pub counters : part.counters ≡ predicted plan k
  pub told : get_or report.counters k None ≡ Some part.counters

-- A cycle was closed. If a unit is taken, each linked bit of its inputs is the one that its slave published as the frame
-- passed it. No bit of another unit changes, nor does a bit without a link. Each part of a unit that is taken came back with
-- the predicted working counters. The report names the units of the plan, whether each was taken, and how many
-- parts are missing. Nothing else of the world changes.
pub record IsClosedAs (old : WorldState) (c : Cycle) (new : WorldState) : Type 0 where
  pub taken : (b : ℕ) (i : Linked) → b < 8 * length old.master.inputs → (meaning old.plan).in_source b ≡ Some i
      → unit_full (meaning old.plan) c (unit_of_slave (meaning old.plan) i.slave) ≡ true
      → (v : List ℕ) × IsNoted c (share_of (meaning old.plan) i.slave).part i.slave v × (bit new.master.inputs b ≡ bit v i.bit_of)
  pub untaken : (b : ℕ) (i : Linked) → b < 8 * length old.master.inputs → (meaning old.plan).in_source b ≡ Some i
      → unit_full (meaning old.plan) c (unit_of_slave (meaning old.plan) i.slave) ≡ false → bit new.master.inputs b ≡ bit old.master.inputs b
  pub unlinked : (b : ℕ) → b < 8 * length old.master.inputs → (meaning old.plan).in_source b ≡ None → bit new.master.inputs b ≡ bit old.master.inputs b
  pub size : length new.master.inputs ≡ length old.master.inputs
  pub missed : (u : ℕ) → unit_full (meaning old.plan) c u ≡ false → IsMissed (meaning old.plan) c u
  pub report : ReportState
  pub reported : new.report ≡ Some report
  pub units : report.units ≡ (meaning old.plan).units
  pub says : report.taken ≡ map (unit_full (meaning old.plan) c) (meaning old.plan).units
  pub missing : report.missing ≡ nones c.kept
  pub cycle : OpenCycle
  pub was_open : old.master.cycle ≡ Some cycle
  pub counted : (k : ℕ) → k < length old.plan.parts → unit_full (meaning old.plan) c (unit_of_part (meaning old.plan) k) ≡ true → IsCounted old.plan cycle.kept report k
  pub rest : new ≡ record old { master = record old.master { inputs = new.master.inputs; cycle = None }; report = new.report }

abbrev pub InputsLaw : Type 0
InputsLaw =
    (old : WorldState) (p : Plain) (c : Cycle) (new : WorldState) → IsUsable old.plan → Refines old p → p.cycle ≡ Some c
    → IsStep old Close new true → IsClosedAs old c new

-- ---- over a run

-- no frame is on its way
abbrev pub HasNoFrame : Plain → Type 0
HasNoFrame p = (k : ℕ) → frame_at p k ≡ None

-- a cycle is begun after some events, and no frame was on its way before them
pub record IsBegun (m : Meaning) (p begun : Plain) : Type 0 where
  pub first : Plain
  pub no_frame : HasNoFrame first
  pub before : List Event
  pub reached : p ≡ (run m first before).plain
  pub begins : step m p Begin ≡ Some begun

-- The frames of a cycle, wherever they are and whatever happened since, carry the image as it was when the cycle began.
abbrev pub SnapshotsLaw : Type 0
SnapshotsLaw =
    (m : Meaning) (p begun : Plain) (after : List Event) → IsBegun m p begun
    → (k : ℕ) (f : PlainFrame) → frame_at (run m begun after).plain k ≡ Some f → f.number ≡ p.next → f.snapshot ≡ p.outputs

-- As the frame of part k of the cycle with this number passed slave s, it noted n. That pass is one of the events since the
-- cycle began. The note is of the slave as it was then: what it published, if it gave its whole share.
pub record IsNotedAt (m : Meaning) (begun : Plain) (number : ℕ) (after : List Event) (k s : ℕ) (n : Note) : Type 0 where
  -- the pass, and the events before and behind it
  pub before : List Event
  pub slot : ℕ
  pub behind : List Event
  pub split : after ≡ before ++ (Pass slot ∷ behind)
  -- it was made, by the frame in its slot
  pub next : Plain
  pub made : step m (run m begun before).plain (Pass slot) ≡ Some next
  pub frame : PlainFrame
  pub there : frame_at (run m begun before).plain slot ≡ Some frame
  pub number_is : frame.number ≡ number
  pub part_is : frame.part ≡ k
  pub meets : next_slave frame ≡ s
  -- and this is the note
  pub is : n ≡ met_note m s frame (plain_slave (run m begun before).plain s)
  pub published : (v : List ℕ) → n ≡ Full v → v ≡ (plain_slave (run m begun before).plain s).inputs.published

-- What an open cycle keeps of a slave was noted as the frame of its part passed the slave, since the cycle began.
abbrev pub PublishedLaw : Type 0
PublishedLaw =
    (m : Meaning) (p begun : Plain) (after : List Event) (c : Cycle) → IsBegun m p begun
    → (run m begun after).plain.cycle ≡ Some c → c.number ≡ p.next
    → (k s : ℕ) (notes : List Note) (n : Note) → get_or c.kept k None ≡ Some notes → slice_get notes s ≡ Some n
    → IsNotedAt m begun p.next after k s n

-- A slave in OP stays there until it has a fault or is reset.
abbrev pub WorkingLaw : Type 0
WorkingLaw =
    (m : Meaning) (p : Plain) (e : Event) (q : Plain) (s : ℕ) → step m p e ≡ Some q → e ≢ Fault s → e ≢ ResetSlave s
    → (plain_slave p s).health ≡ Working → (plain_slave q s).health ≡ Working

-- a frame of a part of unit u, in the cycle with this number
abbrev pub is_of_unit : Meaning → (number u : ℕ) → PlainFrame → Bool
is_of_unit m number u f = (f.number == number) && (unit_of_part m f.part == u)

-- the slot holds one
abbrev pub holds_of_unit : Meaning → (number u : ℕ) → Option PlainFrame → Bool
holds_of_unit m number u None = false
holds_of_unit m number u (Some f) = is_of_unit m number u f

-- the frame of slave s's part, in the cycle with this number, is in the slot, and hasn't passed the slave yet
abbrev pub still_comes : Meaning → (number s : ℕ) → Option PlainFrame → Bool
still_comes m number s None = false
still_comes m number s (Some f) = (f.number == number) && ((f.part == (share_of m s).part) && nat_le (next_slave f) s)

-- that frame is on its way to the slave
abbrev pub is_awaited : Meaning → (number s : ℕ) → Plain → Bool
is_awaited m number s p = list_any (still_comes m number s) p.slots

-- An event disturbs unit u in a cycle: the loss of a frame of one of its parts, or what makes one of its slaves fall short while
-- the frame of its part is on its way to it: a fault if the slave has outputs, or a reset if it has bits at all.
abbrev pub disturbs : Meaning → (number u : ℕ) → Plain → Event → Bool
disturbs m number u p StartNext = false
disturbs m number u p (Set v x) = false
disturbs m number u p Begin = false
disturbs m number u p (Pass k) = false
disturbs m number u p (Lose k) = holds_of_unit m number u (frame_at p k)
disturbs m number u p (Return k) = false
disturbs m number u p Close = false
disturbs m number u p (Serve s) = false
disturbs m number u p (AppPut s i x) = false
disturbs m number u p (AppGet s i) = false
disturbs m number u p (Fault s) = (unit_of_slave m s == u) && (has_outs (share_of m s) && is_awaited m number s p)
disturbs m number u p (ResetSlave s) = (unit_of_slave m s == u) && ((has_outs (share_of m s) || has_ins (share_of m s)) && is_awaited m number s p)
disturbs m number u p Stop = false

-- A cycle is quiet for unit u: as it begins no slave of the unit falls short, no event that was made since then disturbs the
-- unit, and none of the unit's frames is still on its way.
pub record IsQuiet (m : Meaning) (p begun : Plain) (after : List Event) (u : ℕ) : Type 0 where
  pub whole : (s : ℕ) → s < length p.slaves → unit_of_slave m s ≡ u → FallsShort m s (plain_slave p s) → ⊥
  pub undisturbed : (before behind : List Event) (e : Event) (next : Plain) → after ≡ before ++ (e ∷ behind) → step m (run m begun before).plain e ≡ Some next
      → disturbs m p.next u (run m begun before).plain e ≡ false
  pub back : (k : ℕ) (f : PlainFrame) → frame_at (run m begun after).plain k ≡ Some f → is_of_unit m p.next u f ≡ false

-- Only a loss, a fault, a reset or an early close can keep a unit from being taken, and only of its own frames and slaves and in
-- time: if a cycle is quiet for a unit, a close takes the unit. This does not depend on other units, or on what happens to a
-- slave after its frame.
abbrev pub TakenLaw : Type 0
TakenLaw =
    (m : Meaning) (p begun : Plain) (after : List Event) (c : Cycle) (u : ℕ) → IsBegun m p begun → IsQuiet m p begun after u
    → (run m begun after).plain.cycle ≡ Some c → c.number ≡ p.next → unit_full m c u ≡ true

-- Each of these does keep a unit from being taken: a close takes a unit only if the cycle was quiet for it. So no input
-- bit is set in a cycle in which a slave of its unit fell short as its frame came, or a frame of the unit got lost or was late.
abbrev pub QuietLaw : Type 0
QuietLaw =
    (m : Meaning) (p begun : Plain) (after : List Event) (c : Cycle) (u : ℕ) → ((s : ℕ) → s < length p.slaves → (share_of m s).part < length m.parts) → IsBegun m p begun
    → (run m begun after).plain.cycle ≡ Some c → c.number ≡ p.next → unit_full m c u ≡ true → IsQuiet m p begun after u
