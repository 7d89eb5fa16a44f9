-- The cyclic frame of a part, a choice of this project: a NOP that names it, a broadcast read of the AL status, and the
-- part's process data by an LRW, or by an LWR and an LRD if the part is split.
use Rattle.std.specs.Prelude.{ℕ, ◌+◌, ◌-◌, ◌*◌, ◌%◌, ◌==◌, ◌&&◌, List, [], ◌∷◌, if◌then◌else◌, Option, None, option_map}
use Rattle.ec_bits.specs.Bits.{bit, overlay, zeros, within}
use Rattle.ec_regs.specs.Memory.{al_status}
use Rattle.ec_frame.specs.declared.command.Command.{Command}
use Rattle.ec_frame.specs.declared.command.Command.TheVariants.{Brd, Lrd, Lwr, Lrw}
use Rattle.ec_frame.specs.Datagram.{Datagram}
use Rattle.ec_frame.specs.Fields.{with_counter}
use Rattle.ec_frame.specs.Building.{new_datagram}
pub use Rattle.ec_frame.specs.Names.{name_datagram}
use Rattle.ec_link.specs.Shares.{Gave, sum_of, lwr_count, lrd_count, lrw_count}
use Rattle.ec_link.specs.declared.plan.Link.{Link}
use Rattle.ec_link.specs.Plan.{PlanState, part_at}
use Rattle.ec_link.specs.declared.settings.SlavePlan.{SlavePlan}
use Rattle.ec_link.specs.declared.plan.PartPlan.{PartPlan}
use Rattle.ec_link.specs.Meaning.{area_of, out_source}

-- ---- process data

-- The image bit that stands at a logical bit: the one that is linked to the output bit there. Only the slaves of part k with
-- number s or more count.
abbrev pub image_bit : List Link → ℕ → ℕ → List SlavePlan → ℕ → Option ℕ
image_bit ls k s [] logical = None
image_bit ls k s (p ∷ ps) logical =
    if (p.share.part == k) && within (area_of p).out_at p.share.outs logical
    then out_source ls s (logical - (area_of p).out_at)
    else image_bit ls k (s + 1) ps logical

-- The data of part k for an image of the outputs: each linked bit in its place, all others 0.
abbrev pub process_bytes : PlanState → ℕ → List ℕ → List ℕ
process_bytes p k image =
    overlay (zeros (part_at p.parts k).bytes) (λ i. option_map (bit image) (image_bit p.out_links k 0 p.slaves (8 * (part_at p.parts k).address + i)))

-- ---- datagrams on their way: the counters say what the slaves gave so far

-- the AL status of all slaves, joined by OR, after so many of them; a broadcast counts them in its ADP and in its working
-- counter (ETG.1000.4, "BRD")
abbrev pub status_datagram : ℕ → ℕ → List ℕ → Datagram
status_datagram number passed al = with_counter (new_datagram Brd (number % 256) (passed % 65536 + 65536 * al_status) al) passed

abbrev pub process_datagram : Command → ℕ → ℕ → List ℕ → ℕ → Datagram
process_datagram command number address bytes counter = with_counter (new_datagram command (number % 256) address bytes) counter

-- The process datagrams of a part, none if it has no process data. `sent` holds the outputs of the slaves to come, and
-- `returned` the inputs of those that are passed; an LRW has both in one.
abbrev pub process_datagrams : PartPlan → ℕ → List ℕ → List ℕ → List Gave → List Datagram
process_datagrams part number sent returned gave =
    if part.bytes == 0 then []
    else (if part.split
    then process_datagram Lwr number part.address sent (sum_of lwr_count gave) ∷ process_datagram Lrd number part.address returned (sum_of lrd_count gave) ∷ []
    else process_datagram Lrw number part.address returned (sum_of lrw_count gave) ∷ [])

-- The whole frame after so many slaves.
abbrev pub cyclic_datagrams : PartPlan → ℕ → ℕ → ℕ → List ℕ → List ℕ → List ℕ → List Gave → List Datagram
cyclic_datagrams part number k passed al sent returned gave =
    name_datagram number k ∷ status_datagram number passed al ∷ process_datagrams part number sent returned gave

-- what an LRD or an LRW brings before any slave is passed: zeros, or the outputs
abbrev pub returned_first : PartPlan → List ℕ → List ℕ
returned_first part sent = if part.split then zeros part.bytes else sent

-- The frame of part k as a master sends it, for an image of the outputs.
abbrev pub sent_datagrams : PlanState → ℕ → ℕ → List ℕ → List Datagram
sent_datagrams p number k image =
    cyclic_datagrams (part_at p.parts k) number k 0 (zeros 2) (process_bytes p k image) (returned_first (part_at p.parts k) (process_bytes p k image)) []
