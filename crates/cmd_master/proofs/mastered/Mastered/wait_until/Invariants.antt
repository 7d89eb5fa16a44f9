use Rattle.std.proofs.Common.{◌-◌}
use Rattle.ec_script.specs.declared.output.LineOutput.{LineOutput}
use Rattle.cmd_master.specs.Doing.{Waits}
use Rattle.cmd_master.specs.State.{MasteredState}
use Rattle.cmd_master.proofs.mastered.Mastered.wait_until.Given as goal

-- what the cycles ahead make of it, all cycles make of the first state
abbrev pub invariant-loop : goal.invariant-loop
invariant-loop g l = (t : MasteredState) (said : LineOutput) → Waits (l.times - l.counter) l.expected l.self t said → Waits l.times l.expected l.initial.self t said
