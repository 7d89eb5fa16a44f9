-- What the crates above may know of a master of cycles: its words, handed on, and laws of its frames on their way and of what is
-- kept of them. Nothing above opens a definition of this crate; what is not said here can change without them.
use Rattle.std.specs.Prelude.{ℕ, ◌^◌, ◌<◌, ◌≡◌, ◌≢◌, Bool, List, [], length}
use Rattle.ec_link.specs.Plan.{PlanState, part_at}
use Rattle.ec_link.specs.Shares.{Gave, counters_of}
use Rattle.ec_link.specs.declared.plan.PartPlan.{PartPlan}
pub use Rattle.ec_cycle.specs.Closing.{ReturnedPart, returned_part_of, nones, is_good, unit_taken, bytes_of, returned_bit, inputs_closed, report_of, bytes_at, ReportState, joined, word_of_returned, all_from}
pub use Rattle.ec_cycle.specs.Frames.{process_bytes, returned_first, name_datagram, cyclic_datagrams, sent_datagrams, status_datagram, process_datagrams, process_datagram}
pub use Rattle.ec_cycle.specs.Master.{MasterState, Answers, IsTaken, OpenCycle, cycle_limit, readied, Begun, frame_of, value_at, value_of, IsAnswer, closed, holds_value, value_put, variable_set, name_of, with_returned}

-- ---- a frame

-- The process data of a frame as it is sent fill its part, and so does what it brings back before any slave.
pub record FillTheirPart (p : PlanState) (k : ℕ) (image : List ℕ) : Type 0 where
  pub sent : length (process_bytes p k image) ≡ (part_at p.parts k).bytes
  pub returned : length (returned_first (part_at p.parts k) (process_bytes p k image)) ≡ (part_at p.parts k).bytes

abbrev pub ProcessDataFillTheirPart : Type 0
ProcessDataFillTheirPart = (p : PlanState) (k : ℕ) (image : List ℕ) → FillTheirPart p k image

-- the name of a frame says of which cycle and part it is
abbrev pub NamesAreDistinct : Type 0
NamesAreDistinct =
    (number other k l : ℕ) → number < 2 ^ 64 → other < 2 ^ 64 → k < 2 ^ 16 → l < 2 ^ 16 → (name_datagram number k).data_bytes ≡ (name_datagram other l).data_bytes
    → (number ≡ other) × (k ≡ l)

-- ---- a frame on its way

-- whatever slaves it passed, and whatever they did to its data, it answers its part
abbrev pub FramesOnTheirWayAnswer : Type 0
FramesOnTheirWayAnswer =
    (p : PlanState) (number k passed : ℕ) (al sent returned : List ℕ) (gave : List Gave) → length al ≡ 2 → length sent ≡ (part_at p.parts k).bytes → length returned ≡ (part_at p.parts k).bytes
    → Answers p number k (cyclic_datagrams (part_at p.parts k) number k passed al sent returned gave)

-- What is kept of it: how many slaves it passed, its working counters, and what it brings back. If the part has no bytes, nobody
-- gave anything to its counters.
pub record IsReturned (part : PartPlan) (passed : ℕ) (returned : List ℕ) (gave : List Gave) (q : ReturnedPart) : Type 0 where
  pub broadcast : q.broadcast ≡ passed
  pub counters : part.bytes ≢ 0 → q.counters ≡ counters_of part.split gave
  pub no_bytes : part.bytes ≡ 0 → q.counters ≡ counters_of part.split []
  pub bytes : part.bytes ≢ 0 → q.bytes ≡ returned

abbrev pub FramesAreReturned : Type 0
FramesAreReturned =
    (part : PartPlan) (number k passed : ℕ) (al sent returned : List ℕ) (gave : List Gave) → IsReturned part passed returned gave (returned_part_of part (cyclic_datagrams part number k passed al sent returned gave))

-- ---- a master

-- a master keeps its plan, whatever payload it is given
abbrev pub MastersKeepTheirPlan : Type 0
MastersKeepTheirPlan = (old new : MasterState) (payload : List ℕ) (is_accepted : Bool) → IsTaken old payload is_accepted new → new.plan ≡ old.plan
