-- The bytes of a cyclic frame behind its header, in two parts: the datagrams that name it and ask for the AL status, and those
-- of the process data.
use Rattle.std.specs.Prelude.{ℕ, Bool, true, List, [], ◌++◌}
use Rattle.ec_bits.specs.Bits.{zeros}
use Rattle.ec_frame.specs.Datagram.{joined, spelling}
use Rattle.ec_link.specs.declared.plan.PartPlan.{PartPlan}
use Rattle.ec_cycle.specs.Frames.{name_datagram, status_datagram, process_datagrams, returned_first}

-- the first two datagrams; whether others follow them
abbrev pub front_bytes : Bool → ℕ → ℕ → List ℕ
front_bytes more number k = spelling true (name_datagram number k) ++ spelling more (status_datagram number 0 (zeros 2))

-- the process datagrams with these outputs, as they are sent
abbrev pub process_spelled : PartPlan → ℕ → List ℕ → List ℕ
process_spelled part number sent = joined (process_datagrams part number sent (returned_first part sent) [])
