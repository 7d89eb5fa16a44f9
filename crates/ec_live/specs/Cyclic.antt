-- The part whose cyclic frame a frame is (`ec_cycle` defines these frames; the master alone knows more of them).
use Rattle.std.specs.Prelude.{ℕ, ◌+◌, ◌*◌, ◌==◌, ◌&&◌, List, [], ◌∷◌, length, get_or, nat_lt, Bool, true, false, if◌then◌else◌, Option, Some, None, option_and_then}
use Rattle.ec_frame.specs.declared.command.Command.{Command}
use Rattle.ec_frame.specs.declared.command.Command.TheVariants.{Nop, Brd, Lrd, Lwr, Lrw}
use Rattle.ec_frame.specs.Commands.{number_of}
use Rattle.ec_frame.specs.Datagram.{Datagram}
use Rattle.ec_link.specs.declared.plan.PartPlan.{PartPlan}
use Rattle.ec_link.specs.Plan.{part_at}

-- the commands of a part's cyclic frame: a NOP that names it, a broadcast read of the AL status, and its process data
abbrev pub process_commands : PartPlan → List Command
process_commands part = if part.bytes == 0 then [] else (if part.split then Lwr ∷ Lrd ∷ [] else Lrw ∷ [])

abbrev pub cyclic_commands : PartPlan → List Command
cyclic_commands part = Nop ∷ Brd ∷ process_commands part

-- datagrams with these commands, one for each
abbrev pub are_commands : List Command → List Datagram → Bool
are_commands [] [] = true
are_commands [] (d ∷ ds) = false
are_commands (c ∷ cs) [] = false
are_commands (c ∷ cs) (d ∷ ds) = (number_of d.command == number_of c) && are_commands cs ds

-- the part that the first datagram names, if its data are ten bytes
abbrev pub named_part : List Datagram → Option ℕ
named_part [] = None
named_part (d ∷ ds) = if length d.data_bytes == 10 then Some (get_or d.data_bytes 8 0 + 256 * get_or d.data_bytes 9 0) else None

-- part k, if these datagrams are those of its cyclic frame
abbrev pub part_if : List PartPlan → List Datagram → ℕ → Option ℕ
part_if parts ds k = if nat_lt k (length parts) && are_commands (cyclic_commands (part_at parts k)) ds then Some k else None

-- the part of a plan whose cyclic frame has these datagrams
abbrev pub cyclic_part : List PartPlan → List Datagram → Option ℕ
cyclic_part parts ds = option_and_then (part_if parts ds) (named_part ds)
