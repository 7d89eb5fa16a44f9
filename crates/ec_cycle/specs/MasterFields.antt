-- What holds of a master's fields.
use Rattle.std.specs.Prelude.{ℕ, ◌^◌, ◌<◌, ◌≡◌, List, [], length, get_or, Option, Some, None}
use Rattle.ec_bits.specs.Bits.{bytes_of_bits}
use Rattle.ec_frame.specs.Frame.{IsFrame}
use Rattle.ec_frame.specs.Building.{bare_payload}
use Rattle.ec_link.specs.declared.plan.ExpectedCounters.{ExpectedCounters}
use Rattle.ec_link.specs.Plan.{PlanState, part_at}
use Rattle.ec_link.specs.Shares.{predicted}
use Rattle.ec_link.specs.Usable.{IsUsable}
use Rattle.ec_cycle.specs.declared.run.BitRun.{BitRun}
use Rattle.ec_cycle.specs.declared.run.InputRun.{InputRun}
use Rattle.ec_cycle.specs.Copies.{output_runs, input_runs}
use Rattle.ec_cycle.specs.Frames.{sent_datagrams}
use Rattle.ec_cycle.specs.Closing.{ReturnedPart}

-- what of a plan is looked up once, when the master is made
pub record AreLinked (p : PlanState) (runs : List (List BitRun)) (in_runs : List InputRun) (expected : List ExpectedCounters) : Type 0 where
  pub outputs_count : length runs ≡ length p.parts
  pub outputs : (k : ℕ) → k < length p.parts → get_or runs k [] ≡ output_runs p k
  pub inputs : in_runs ≡ input_runs p
  pub expected_count : length expected ≡ length p.parts
  pub counters : (k : ℕ) (d : ExpectedCounters) → k < length p.parts → get_or expected k d ≡ predicted p k

-- the images have room for the variables
pub record AreImages (p : PlanState) (outputs inputs : List ℕ) : Type 0 where
  pub outputs_size : length outputs ≡ bytes_of_bits p.out_bits
  pub inputs_size : length inputs ≡ bytes_of_bits p.in_bits
  pub few_outputs : p.out_bits < 2 ^ 64
  pub few_inputs : p.in_bits < 2 ^ 64

-- a part has a frame, of some cycle and some image
pub record IsMade (p : PlanState) (k : ℕ) (frame : List ℕ) : Type 0 where
  pub number : ℕ
  pub image : List ℕ
  pub spelled : IsFrame frame (bare_payload (sent_datagrams p number k image))

-- the frames of an open cycle, and what came back of it
pub record IsUnderWay (p : PlanState) (number : ℕ) (frames : List (List ℕ)) (kept : List (Option ReturnedPart)) : Type 0 where
  pub small : number < 2 ^ 64
  pub sent : (k : ℕ) → k < length p.parts → (image : List ℕ) × IsFrame (get_or frames k []) (bare_payload (sent_datagrams p number k image))
  pub sizes : (k : ℕ) (q : ReturnedPart) → get_or kept k None ≡ Some q → length q.bytes ≡ (part_at p.parts k).bytes

pub record IsMaster (p : PlanState) (runs : List (List BitRun)) (in_runs : List InputRun) (expected : List ExpectedCounters) (outputs inputs : List ℕ) (frames : List (List ℕ)) (kept : List (Option ReturnedPart)) (open_number : Option ℕ) : Type 0 where
  pub usable : IsUsable p
  pub linked : AreLinked p runs in_runs expected
  pub images : AreImages p outputs inputs
  pub frame_count : length frames ≡ length p.parts
  pub kept_count : length kept ≡ length p.parts
  pub made : (k : ℕ) → k < length p.parts → IsMade p k (get_or frames k [])
  pub under_way : (number : ℕ) → open_number ≡ Some number → IsUnderWay p number frames kept
