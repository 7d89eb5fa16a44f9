use Rattle.std.proofs.Common.{arith}
use Rattle.cmd_loop.proofs.LoopLemmas.{put_next_at}
use Rattle.cmd_loop.proofs.looping.set_outputs.Goals as goal

pub loop-variable-preserved : goal.loop-variable-preserved
loop-variable-preserved c =
    let b = c.loop-variable.invariant in
    let lt = c.loop-variable-test.true in
    let end = b.end in
    record {
      outputs = put_next_at c.args.master.now c.loop-variable.master c.set_output.new.master c.args.number c.loop-variable.variable c.args.plan.now.variables c.variables.result.now _
          (omega (arith, lt, end)) c.variables.ensures b.outputs c.set_output.ensures;
      end = end;
    }
