-- Laws of the definitions of this crate: what they amount to, in other words.
use Rattle.std.specs.Prelude.{ℕ, ◌+◌, ◌*◌, ◌<◌, ◌≤◌, ◌≡◌, ◌≢◌, ◌↔◌, List, length, map, get_or, slice_get, slice_range, true, false, Option, None}
use Rattle.std.specs.Option.{option_map_or}
use Rattle.ec_bits.specs.Bits.{bit, bytes_of_bits, within, zeros}
use Rattle.ec_frame.specs.Datagram.{Datagram}
use Rattle.ec_link.specs.Shares.{Gave, nothing_given, counters_of, predicted, share_in, same_counters, lwr_count, lrd_count}
use Rattle.ec_link.specs.Meaning.{slave_at, area_at, out_source}
use Rattle.ec_link.specs.Plan.{PlanState, part_at}
use Rattle.ec_link.specs.Usable.{IsUsable}
use Rattle.ec_link.specs.Variables.{AreApart}
use Rattle.ec_cycle.specs.Closing.{ReturnedPart, inputs_closed}
use Rattle.ec_cycle.specs.Copies.{outputs_copied, inputs_copied}
use Rattle.ec_cycle.specs.Frames.{process_bytes, sent_datagrams}
use Rattle.ec_cycle.specs.Master.{MasterState, OpenCycle, Begun, Answers, shape, name_of, process_addresses, holds_value, value_at, variable_set, frame_of}

-- ---- one copy for each link

-- the data of a frame, from zeros by one copy for each link of outputs
abbrev pub ProcessByLinks : Type 0
ProcessByLinks = (p : PlanState) (k : ℕ) (image : List ℕ) → IsUsable p → outputs_copied p k image p.out_links (zeros (part_at p.parts k).bytes) ≡ process_bytes p k image

-- the inputs after a closing, by one copy for each link of inputs
abbrev pub InputsByLinks : Type 0
InputsByLinks = (p : PlanState) (kept : List (Option ReturnedPart)) (image : List ℕ) → IsUsable p → inputs_copied p kept p.in_links image ≡ inputs_closed p kept image

-- ---- the bits of a frame's process data

-- an output bit of a slave is the bit of the image that is linked to it, and 0 if none is
abbrev pub OutputsBySource : Type 0
OutputsBySource =
    (p : PlanState) (k s o i : ℕ) (image : List ℕ) → IsUsable p → s < length p.slaves → (slave_at p s).share.part ≡ k → o < (slave_at p s).share.outs
    → i < 8 * (part_at p.parts k).bytes → 8 * (part_at p.parts k).address + i ≡ (area_at p s).out_at + o
    → bit (process_bytes p k image) i ≡ option_map_or (bit image) (out_source p.out_links s o) false

-- a bit that is no output bit of a slave of the part is 0
abbrev pub OtherBitsAreZero : Type 0
OtherBitsAreZero =
    (p : PlanState) (k i : ℕ) (image : List ℕ) → i < 8 * (part_at p.parts k).bytes
    → ((s : ℕ) → s < length p.slaves → (slave_at p s).share.part ≡ k → within (area_at p s).out_at (slave_at p s).share.outs (8 * (part_at p.parts k).address + i) ≡ false)
    → bit (process_bytes p k image) i ≡ false

-- ---- the bits of a begun frame

-- The process data that go out in the frame of part k: they begin behind 2 bytes of the frame's header, 22 of the datagram that
-- names it, 14 of the broadcast, and the 10 before a datagram's data.
abbrev pub outgoing : MasterState → ℕ → List ℕ
outgoing m k = slice_range (frame_of m.cycle k) 48 (48 + (part_at m.plan.parts k).bytes)

-- an output bit that no link names goes out as 0, whatever the image holds and whatever went before
abbrev pub UnlinkedGoOutAsZero : Type 0
UnlinkedGoOutAsZero =
    (old new : MasterState) (c : OpenCycle) (k s o i : ℕ) → IsUsable old.plan → Begun old new c → k < length old.plan.parts → s < length old.plan.slaves → (slave_at old.plan s).share.part ≡ k
    → o < (slave_at old.plan s).share.outs → out_source old.plan.out_links s o ≡ None → i < 8 * (part_at old.plan.parts k).bytes → 8 * (part_at old.plan.parts k).address + i ≡ (area_at old.plan s).out_at + o
    → bit (outgoing new k) i ≡ false

-- ---- answers

-- datagrams answer part k exactly if they have the shapes, the name and the process addresses of the frame that was sent,
-- whatever image it was sent with
abbrev pub AnswersBySent : Type 0
AnswersBySent =
    (p : PlanState) (number k : ℕ) (image : List ℕ) (ds : List Datagram)
    → Answers p number k ds
    ↔ ((map shape ds ≡ map shape (sent_datagrams p number k image)) × (name_of ds ≡ name_of (sent_datagrams p number k image)) × (process_addresses ds ≡ process_addresses (sent_datagrams p number k image)))

-- ---- counters

-- no slave gives more than its share of part k
abbrev pub GaveAtMost : PlanState → ℕ → List Gave → Type 0
GaveAtMost p k gave =
    (length gave ≡ length p.slaves)
    × ((s : ℕ) → s < length p.slaves → (lwr_count (get_or gave s nothing_given) ≤ lwr_count (share_in k (slave_at p s).share)) × (lrd_count (get_or gave s nothing_given) ≤ lrd_count (share_in k (slave_at p s).share)))

-- Predicted counters mean that every slave gave its whole share.
abbrev pub PredictedMeansWhole : Type 0
PredictedMeansWhole =
    (p : PlanState) (k : ℕ) (gave : List Gave) → GaveAtMost p k gave → same_counters (counters_of (part_at p.parts k).split gave) (predicted p k) ≡ true
    → (s : ℕ) → s < length p.slaves → get_or gave s nothing_given ≡ share_in k (slave_at p s).share

-- ---- variables

-- the image has room for the output variables
abbrev pub HasRoom : MasterState → Type 0
HasRoom m = length m.outputs ≡ bytes_of_bits m.plan.out_bits

-- the variable that is set has the value
abbrev pub SetReadsBack : Type 0
SetReadsBack =
    (m : MasterState) (variable value : ℕ) → IsUsable m.plan → HasRoom m → holds_value value (slice_get m.plan.variables variable) ≡ true
    → value_at (variable_set m variable value) (slice_get m.plan.variables variable) ≡ value

-- no other variable changes, of the inputs or of the outputs
abbrev pub SetKeepsOthers : Type 0
SetKeepsOthers =
    (m : MasterState) (variable other value : ℕ) → AreApart m.plan.variables → other ≢ variable → holds_value value (slice_get m.plan.variables variable) ≡ true
    → value_at (variable_set m variable value) (slice_get m.plan.variables other) ≡ value_at m (slice_get m.plan.variables other)

-- ---- variables and frames

-- setting a variable changes no frame that was made
abbrev pub SetKeepsFrames : Type 0
SetKeepsFrames = (m : MasterState) (variable value k : ℕ) → frame_of (variable_set m variable value).cycle k ≡ frame_of m.cycle k
