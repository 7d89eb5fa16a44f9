use Rattle.std.proofs.Common.{◌≡◌, length}
use Rattle.ec_session.specs.Sessions.{zeros_set}
use Rattle.ec_session.proofs.session.clear_outputs.Given as goal

abbrev pub invariant-loop-variable : goal.invariant-loop-variable
invariant-loop-variable l = record {
  cleared : l.master ≡ zeros_set l.initial.master l.variable;
  end : l.variable-end ≡ length l.initial.master.plan.variables;
}
