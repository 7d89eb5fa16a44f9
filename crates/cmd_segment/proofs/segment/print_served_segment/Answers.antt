use Rattle.std.proofs.Common.{rules}
use Rattle.cmd_segment.proofs.segment.print_served_segment.Goals as goal

pub returns-in-Ok : goal.returns-in-Ok
returns-in-Ok c = search rules
