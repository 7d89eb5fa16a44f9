use Rattle.std.proofs.Common.{◌≡◌, drop}
use Rattle.ec_cycle.proofs.Runs.{inputs_taken}
use Rattle.ec_cycle.proofs.closing.take_inputs.Given as goal

abbrev pub invariant-loop-input : goal.invariant-loop-input
invariant-loop-input l = inputs_taken l.plan l.kept (drop l.input-index l.runs) l.inputs ≡ inputs_taken l.plan l.kept l.runs l.initial.inputs
