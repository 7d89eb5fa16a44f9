-- What a master keeps of the frames that came back, when it takes a sync unit's inputs, and what it reports. A choice of this
-- project: a unit's inputs are taken all at once or not at all, judged by the unit's own parts.
use Rattle.std.specs.Prelude.{ℕ, ◌+◌, ◌-◌, ◌*◌, ◌==◌, ◌&&◌, List, [], ◌∷◌, length, map, get_or, Bool, true, false, if◌then◌else◌, Option, Some, None, option_and_then, option_map, slice_index, bit_or}
use Rattle.std.specs.List.{fold}
use Rattle.ec_bits.specs.Bits.{bit, overlay}
use Rattle.ec_frame.specs.Datagram.{Datagram}
use Rattle.ec_link.specs.declared.plan.ExpectedCounters.{ExpectedCounters}
use Rattle.ec_link.specs.declared.plan.ExpectedCounters.TheVariants.{Lrw, Split}
use Rattle.ec_link.specs.Shares.{same_counters, predicted}
use Rattle.ec_link.specs.Meaning.{Linked, area_at, slave_at, in_source}
use Rattle.ec_link.specs.Plan.{PlanState, part_at}
use Rattle.ec_link.specs.declared.plan.PartPlan.{PartPlan}

-- ---- lists of options, and lists by place

-- how many are missing
abbrev pub nones : {X : Type 0} → List (Option X) → ℕ
nones [] = 0
nones (None ∷ os) = 1 + nones os
nones (Some x ∷ os) = nones os

-- a test of each element and its place, the first having place k
abbrev pub all_from : {X : Type 0} → (ℕ → X → Bool) → ℕ → List X → Bool
all_from p k [] = true
all_from p k (x ∷ xs) = p k x && all_from p (k + 1) xs

-- ---- what is kept

-- What is kept of a part that came back: the broadcast's working counter and word, the working counters of its process
-- datagrams, and the data that holds the inputs.
pub record ReturnedPart : Type 0 where
  pub broadcast : ℕ
  pub al_word : ℕ
  pub counters : ExpectedCounters
  pub bytes : List ℕ

-- the working counter of datagram n, 0 if there is none
abbrev pub counter_at : List Datagram → ℕ → ℕ
counter_at [] n = 0
counter_at (d ∷ ds) n = if n == 0 then d.counter else counter_at ds (n - 1)

-- the data of datagram n, none if there is no such datagram
abbrev pub bytes_at : List Datagram → ℕ → List ℕ
bytes_at [] n = []
bytes_at (d ∷ ds) n = if n == 0 then d.data_bytes else bytes_at ds (n - 1)

-- which datagram brings the inputs: the LRD of a split part, else the LRW
abbrev pub input_index : Bool → ℕ
input_index split = if split then 3 else 2

-- the working counters of the process datagrams
abbrev pub counters_by : Bool → List Datagram → ExpectedCounters
counters_by split ds = if split then Split (counter_at ds 2) (counter_at ds 3) else Lrw (counter_at ds 2)

abbrev pub returned_part_by : Bool → List Datagram → ReturnedPart
returned_part_by split ds = record {
  broadcast = counter_at ds 1;
  al_word = slice_index (bytes_at ds 1) 0 + 256 * slice_index (bytes_at ds 1) 1;
  counters = counters_by split ds;
  bytes = bytes_at ds (input_index split);
}

-- what is kept of a frame of the part
abbrev pub returned_part_of : PartPlan → List Datagram → ReturnedPart
returned_part_of part ds = returned_part_by part.split ds

abbrev pub bytes_of : Option ReturnedPart → List ℕ
bytes_of None = []
bytes_of (Some q) = q.bytes

-- ---- judging

-- so many slaves answered the broadcast, and the working counters are these
abbrev pub came_back_as : ℕ → ExpectedCounters → Option ReturnedPart → Bool
came_back_as slaves counters None = false
came_back_as slaves counters (Some q) = (q.broadcast == slaves) && same_counters q.counters counters

-- Part k was kept and is good: every slave answered the broadcast, and the working counters are the predicted ones, each by
-- itself.
abbrev pub is_good : PlanState → ℕ → Option ReturnedPart → Bool
is_good p k o = came_back_as (length p.slaves) (predicted p k) o

-- A unit is taken if each of its own parts was kept and is good.
abbrev pub unit_taken : PlanState → List (Option ReturnedPart) → ℕ → Bool
unit_taken p kept u = all_from (λ k q. if (part_at p.parts k).unit == u then is_good p k q else true) 0 kept

-- ---- closing

-- the part of a slave
abbrev pub part_of_slave : PlanState → ℕ → ℕ
part_of_slave p s = (slave_at p s).share.part

-- The bit that was returned for an input bit of a slave, if its unit is taken.
abbrev pub returned_bit : PlanState → List (Option ReturnedPart) → Linked → Option Bool
returned_bit p kept i =
    let k = part_of_slave p i.slave in
    if unit_taken p kept (part_at p.parts k).unit
    then Some (bit (bytes_of (get_or kept k None)) ((area_at p i.slave).in_at + i.bit_of - 8 * (part_at p.parts k).address))
    else None

-- The image of the inputs: each linked bit of a taken unit becomes the returned one, all others stay.
abbrev pub inputs_closed : PlanState → List (Option ReturnedPart) → List ℕ → List ℕ
inputs_closed p kept image = overlay image (λ b. option_and_then (returned_bit p kept) (in_source p.in_links b))

-- ---- the report

-- the AL word that came back, 0 if none did
abbrev pub word_of_returned : Option ReturnedPart → ℕ
word_of_returned None = 0
word_of_returned (Some q) = q.al_word

-- words joined by OR
abbrev pub joined : List ℕ → ℕ
joined words = fold bit_or 0 words

-- the AL words that came back
abbrev pub or_words : List (Option ReturnedPart) → ℕ
or_words kept = joined (map word_of_returned kept)

-- the value of a `Report`
pub record ReportState : Type 0 where
  -- the units in rising number, and whether each was taken
  pub units : List ℕ
  pub taken : List Bool
  -- how many parts were not kept
  pub missing : ℕ
  -- the working counters of each part that was kept
  pub counters : List (Option ExpectedCounters)
  pub al_word : ℕ

abbrev pub report_of : PlanState → List (Option ReturnedPart) → ReportState
report_of p kept = record {
  units = p.units;
  taken = map (unit_taken p kept) p.units;
  missing = nones kept;
  counters = map (λ o. option_map (λ q. q.counters) o) kept;
  al_word = or_words kept;
}
