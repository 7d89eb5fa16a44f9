use Rattle.std.proofs.Common.{◌∙◌, ap}
use Rattle.ec_cycle.specs.Master.{MasterState}
use Rattle.ec_session.proofs.Asked.{next_zero, zeros_plan}
use Rattle.ec_session.proofs.session.clear_outputs.Goals as goal

pub loop-variable-preserved : goal.loop-variable-preserved
loop-variable-preserved c =
    let b = c.loop-variable.invariant in
    record {
      cleared = next_zero c.args.master.now c.loop-variable.master c.clear_output.new.master c.loop-variable.variable b.cleared c.clear_output.ensures;
      end = b.end;
    }

pub returns-clause-plan : goal.returns-clause-plan
returns-clause-plan c = ap (λ (m : MasterState). m.plan) c.loop-variable.invariant.cleared ∙ zeros_plan c.args.master.now c.loop-variable.variable
