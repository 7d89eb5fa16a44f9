-- The images and the data of frames, made by copies of runs of bits, one for each link. The laws `ProcessByLinks` and
-- `InputsByLinks` say that this makes what `process_bytes` and `inputs_closed` say.
use Rattle.std.specs.Prelude.{ℕ, ◌+◌, ◌-◌, ◌*◌, ◌^◌, ◌<◌, ◌≤◌, ◌==◌, ◌&&◌, nat_lt, List, [], ◌∷◌, map, filter, get_or, if◌then◌else◌, Bool, Option, None}
use Rattle.ec_bits.specs.Bits.{copied}
use Rattle.ec_link.specs.declared.plan.Link.{Link}
use Rattle.ec_link.specs.Plan.{PlanState, part_at}
use Rattle.ec_link.specs.Meaning.{area_at}
use Rattle.ec_cycle.specs.declared.run.BitRun.{BitRun}
use Rattle.ec_cycle.specs.declared.run.InputRun.{InputRun}
use Rattle.ec_cycle.specs.Closing.{ReturnedPart, unit_taken, bytes_of, part_of_slave}

-- ---- outputs

-- where a link's output bits stand in the data of part k, and where in the image
abbrev pub output_run : PlanState → ℕ → Link → BitRun
output_run p k l = record { to = (area_at p l.slave).out_at + l.object_bit - 8 * (part_at p.parts k).address; from = l.image; count = l.count }

abbrev pub run_copied : List ℕ → BitRun → List ℕ → List ℕ
run_copied src r dst = copied dst r.to src r.from r.count

-- a link of outputs: its bits into the data of part k, if its slave is of the part
abbrev pub output_copied : PlanState → ℕ → List ℕ → Link → List ℕ → List ℕ
output_copied p k image l bytes = if part_of_slave p l.slave == k then run_copied image (output_run p k l) bytes else bytes

abbrev pub outputs_copied : PlanState → ℕ → List ℕ → List Link → List ℕ → List ℕ
outputs_copied p k image [] bytes = bytes
outputs_copied p k image (l ∷ ls) bytes = outputs_copied p k image ls (output_copied p k image l bytes)

-- ---- inputs

abbrev pub input_run : PlanState → Link → InputRun
input_run p l =
    let k = part_of_slave p l.slave in
    record {
      part = k;
      unit = (part_at p.parts k).unit;
      run = record { to = l.image; from = (area_at p l.slave).in_at + l.object_bit - 8 * (part_at p.parts k).address; count = l.count };
    }

-- a link of inputs: its bits out of the data that its slave's part brought back, if the unit is taken
abbrev pub input_copied : PlanState → List (Option ReturnedPart) → Link → List ℕ → List ℕ
input_copied p kept l image =
    let r = input_run p l in
    if unit_taken p kept r.unit then run_copied (bytes_of (get_or kept r.part None)) r.run image else image

abbrev pub inputs_copied : PlanState → List (Option ReturnedPart) → List Link → List ℕ → List ℕ
inputs_copied p kept [] image = image
inputs_copied p kept (l ∷ ls) image = inputs_copied p kept ls (input_copied p kept l image)

-- ---- what the code makes of them; no public clause cites the rest

-- run after run
abbrev pub runs_copied : List ℕ → List BitRun → List ℕ → List ℕ
runs_copied src [] dst = dst
runs_copied src (r ∷ rs) dst = runs_copied src rs (run_copied src r dst)

-- the links of part k
abbrev pub is_of_part : PlanState → ℕ → Link → Bool
is_of_part p k l = part_of_slave p l.slave == k

abbrev pub part_runs : PlanState → ℕ → List BitRun
part_runs p k = map (output_run p k) (filter (is_of_part p k) p.out_links)

-- a run lies inside so many bytes of its target and so many of its source, and its ends fit a `usize`
pub record FitsRun (to_bytes from_bytes : ℕ) (r : BitRun) : Type 0 where
  pub inside : r.to + r.count ≤ 8 * to_bytes
  pub there : r.from + r.count ≤ 8 * from_bytes
  pub to_fits : r.to + r.count < 2 ^ 64
  pub from_fits : r.from + r.count < 2 ^ 64

-- the next one begins where this one ends, in the target and in the source
abbrev pub adjoin : BitRun → BitRun → Bool
adjoin r n = (r.to + r.count == n.to) && ((r.from + r.count == n.from) && nat_lt (r.count + n.count) (2 ^ 64))

abbrev pub both : BitRun → BitRun → BitRun
both r n = record r { count = r.count + n.count }

-- as above, of runs out of what the parts brought back
abbrev pub inputs_adjoin : InputRun → InputRun → Bool
inputs_adjoin r n = (r.part == n.part) && ((r.unit == n.unit) && adjoin r.run n.run)

abbrev pub both_inputs : InputRun → InputRun → InputRun
both_inputs r n = record r { run = both r.run n.run }

-- a list in which those that adjoin, by a test, are joined
abbrev pub merged_from : {X : Type 0} → (X → X → Bool) → (X → X → X) → X → List X → List X
merged_from adjoins join x [] = x ∷ []
merged_from adjoins join x (y ∷ ys) = if adjoins x y then merged_from adjoins join (join x y) ys else x ∷ merged_from adjoins join y ys

abbrev pub merged : {X : Type 0} → (X → X → Bool) → (X → X → X) → List X → List X
merged adjoins join [] = []
merged adjoins join (x ∷ xs) = merged_from adjoins join x xs

-- the runs that are copied for the outputs of part k
abbrev pub output_runs : PlanState → ℕ → List BitRun
output_runs p k = merged adjoin both (part_runs p k)

-- the runs that are copied for the inputs
abbrev pub input_runs : PlanState → List InputRun
input_runs p = merged inputs_adjoin both_inputs (map (input_run p) p.in_links)
