-- The names of refusals are short: none has more than 16 letters.
use Rattle.std.proofs.Common.{◌≤◌, length, arith}
use Rattle.ec_frame.specs.declared.error.FrameError.{FrameError}
use Rattle.ec_frame.specs.declared.error.FrameError.TheVariants as frame
use Rattle.ec_decode.specs.declared.error.DecodeError.{DecodeError}
use Rattle.ec_decode.specs.declared.error.DecodeError.TheVariants as decode
use Rattle.ec_table.specs.declared.fault.Fault.{Fault}
use Rattle.ec_table.specs.declared.fault.Fault.TheVariants as fault
use Rattle.ec_table.specs.Errors.{TableError}
use Rattle.ec_table.specs.declared.or_memory.OrMemory.TheVariants as or_memory
use Rattle.ec_table.specs.Faults as table_names
use Rattle.ec_link.specs.declared.fault.LinkFault.{LinkFault}
use Rattle.ec_link.specs.declared.fault.LinkFault.TheVariants as misfit
use Rattle.ec_link.specs.Errors.{LinkError}
use Rattle.ec_link.specs.Faults as link_names
use Rattle.ec_start.specs.declared.error.StartError.{StartError}
use Rattle.ec_start.specs.declared.error.StartError.TheVariants as start
use Rattle.ec_cycle.specs.declared.error.CycleError.{CycleError}
use Rattle.ec_cycle.specs.declared.error.CycleError.TheVariants as cycle
use Rattle.ec_text.specs.RefusalText.{RefusalRow, cycle_row, decode_row, frame_row, link_row, start_row, table_row}

abbrev IsShort : RefusalRow → Type 0
IsShort told = length told.name ≤ 16

pub short_frame : (e : FrameError) → IsShort (frame_row e)
short_frame frame.Short = omega arith
short_frame frame.BadType = omega arith
short_frame frame.BadLength = omega arith
short_frame frame.BadMore = omega arith
short_frame frame.BadCommand = omega arith
short_frame frame.TooLong = omega arith

pub short_decode : (e : DecodeError) → IsShort (decode_row e)
short_decode decode.Memory = omega arith
short_decode (decode.BadScript n) = omega arith

short_fault : (f : Fault) → length (table_names.fault_name f) ≤ 16
short_fault fault.Toml = omega arith
short_fault (fault.BadKey p) = omega arith
short_fault (fault.BadValue p) = omega arith
short_fault (fault.TwiceNamed p) = omega arith
short_fault (fault.UnknownName p) = omega arith

pub short_table : (e : TableError) → IsShort (table_row e)
short_table or_memory.Memory = omega arith
short_table (or_memory.Refused f) = short_fault f

short_misfit : (f : LinkFault) → length (link_names.fault_name f) ≤ 16
short_misfit (misfit.WrongDirection k) = omega arith
short_misfit (misfit.NoEntry k) = omega arith
short_misfit (misfit.OutsideEntry k) = omega arith
short_misfit (misfit.LinkedTwice k) = omega arith
short_misfit (misfit.EntryTwice k) = omega arith
short_misfit (misfit.TooManyBits k) = omega arith
short_misfit (misfit.TooManySlaves k) = omega arith
short_misfit (misfit.TooManyParts k) = omega arith
short_misfit (misfit.AreasOverlap k) = omega arith
short_misfit (misfit.OutsideRam k) = omega arith
short_misfit (misfit.SplitVariable k) = omega arith

pub short_link : (e : LinkError) → IsShort (link_row e)
short_link or_memory.Memory = omega arith
short_link (or_memory.Refused f) = short_misfit f

pub short_start : (e : StartError) → IsShort (start_row e)
short_start (start.BadMailbox slave) = omega arith
short_start (start.Count seen) = omega arith
short_start (start.Identity slave seen) = omega arith
short_start (start.Counter step) = omega arith
short_start (start.AlError slave code) = omega arith
short_start (start.Abort slave code) = omega arith
short_start (start.TooSlow step) = omega arith
short_start start.Lost = omega arith
short_start start.NumbersSpent = omega arith
short_start (start.Mapping slave index subindex seen) = omega arith

pub short_cycle : (e : CycleError) → IsShort (cycle_row e)
short_cycle cycle.NotReady = omega arith
short_cycle cycle.Open = omega arith
short_cycle cycle.NotOpen = omega arith
short_cycle cycle.NumbersSpent = omega arith
