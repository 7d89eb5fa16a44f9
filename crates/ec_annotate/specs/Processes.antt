-- Which datagrams carry the process data of a part, and which working counter is predicted for them (ETG.1000.4, "Logical
-- addressing"). That a part goes by one LRW, or by an LWR and an LRD over the same bytes, is a choice of this project.
use Rattle.std.specs.Prelude.{ℕ, ◌==◌, ◌&&◌, ◌||◌, not, Bool, true, false, Option, Some, None, position, option_map}
use Rattle.ec_frame.specs.declared.command.Command.{Command}
use Rattle.ec_frame.specs.declared.command.Command.TheVariants.{Lrd, Lwr, Lrw}
use Rattle.ec_link.specs.declared.plan.PartPlan.{PartPlan}
use Rattle.ec_link.specs.declared.plan.ExpectedCounters.{ExpectedCounters}
use Rattle.ec_link.specs.declared.plan.ExpectedCounters.TheVariants as counters
use Rattle.ec_link.specs.Plan.{PlanState}
use Rattle.ec_annotate.specs.declared.carried.process.Process.{Process}
use Rattle.ec_annotate.specs.declared.carried.process.ProcessCommand.{ProcessCommand}
use Rattle.ec_annotate.specs.declared.carried.process.ProcessCommand.TheVariants.{Both, Write, Read}

abbrev pub process_command_of : Command → Option ProcessCommand
process_command_of Lrw = Some Both
process_command_of Lwr = Some Write
process_command_of Lrd = Some Read
process_command_of _ = None

-- the commands of split parts, an LWR and an LRD
abbrev pub is_split : ProcessCommand → Bool
is_split Both = false
is_split Write = true
is_split Read = true

-- a datagram over all bytes of the part and no others, of a command by which the part goes
abbrev pub is_of : (split : Bool) (address size : ℕ) → PartPlan → Bool
is_of split address size part = ((part.address == address) && (part.bytes == size)) && ((part.split && split) || not (part.split || split))

abbrev pub process_by : PlanState → (address size : ℕ) → ProcessCommand → Option Process
process_by p address size command = option_map (λ k. record { part = k; command = command }) (position (is_of (is_split command) address size) p.parts)

-- the part whose data a datagram carries, by its command, its address and its bytes of data, if it carries one's
abbrev pub process_of : PlanState → Option ProcessCommand → (address size : ℕ) → Option Process
process_of p None address size = None
process_of p (Some command) address size = process_by p address size command

-- the predicted counter of one datagram; a part that isn't split has an LRW alone
abbrev pub counter_of : ProcessCommand → ExpectedCounters → Option ℕ
counter_of Both (counters.Lrw n) = Some n
counter_of Both (counters.Split w r) = None
counter_of Write (counters.Lrw n) = None
counter_of Write (counters.Split w r) = Some w
counter_of Read (counters.Lrw n) = None
counter_of Read (counters.Split w r) = Some r
