-- Which variables the bits of a process datagram are. By the plan's links bit `object_bit + i` of a slave's process data is bit
-- `image + i` of the image. It stands in the logical space as many bits behind the slave's first one.
use Rattle.std.specs.Prelude.{ℕ, ◌+◌, ◌-◌, ◌*◌, ◌==◌, ◌&&◌, nat_le, Bool, true, false, List, Option, map, filter, position}
use Rattle.ec_bits.specs.Bits.{bits_number, within}
use Rattle.ec_table.specs.declared.rows.Direction.{Direction}
use Rattle.ec_table.specs.declared.rows.Direction.TheVariants.{Out, In}
use Rattle.ec_link.specs.declared.image.Variable.{Variable}
use Rattle.ec_link.specs.declared.plan.Link.{Link}
use Rattle.ec_link.specs.Plan.{PlanState, part_at, part_of}
use Rattle.ec_link.specs.Meaning.{slave_at}
use Rattle.ec_annotate.specs.declared.carried.bits.Carried.{Carried}

abbrev pub links_of : Direction → PlanState → List Link
links_of Out p = p.out_links
links_of In p = p.in_links

-- the first bit of a link among those of the part's data
abbrev pub offset_of : PlanState → ℕ → Link → ℕ
offset_of p k l = (slave_at p l.slave).from + l.object_bit - 8 * (part_at p.parts k).address

-- the slave of the link stands in the part; no link of a table has more than 64 bits
abbrev pub is_carried : PlanState → ℕ → Link → Bool
is_carried p k l = (part_of p l.slave == k) && nat_le l.count 64

-- a link, with the number of its bits in the data
abbrev pub carried_by : PlanState → ℕ → List ℕ → Link → Carried
carried_by p k bytes l = record { link = l; number = bits_number bytes (offset_of p k l) l.count }

-- the bits of variables of a direction that the data of part k carry, in the order of the plan's links
abbrev pub carried : PlanState → ℕ → Direction → List ℕ → List Carried
carried p k d bytes = map (carried_by p k bytes) (filter (is_carried p k) (links_of d p))

-- ---- the variable of a link

abbrev pub same_direction : Direction → Direction → Bool
same_direction Out Out = true
same_direction In In = true
same_direction Out In = false
same_direction In Out = false

abbrev pub has_bit : Direction → ℕ → Variable → Bool
has_bit d b v = same_direction v.direction d && within v.from v.bits b

-- the place of the variable that has a bit of the image
abbrev pub variable_of : PlanState → Direction → ℕ → Option ℕ
variable_of p d b = position (has_bit d b) p.variables
