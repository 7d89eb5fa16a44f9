use Rattle.std.proofs.Common.{◌∙◌, ap, subst}
use Rattle.ec_script.specs.declared.expectation.Expectation.TheVariants.{State as InState}
use Rattle.ec_script.specs.declared.line.LineAction.TheVariants.{Expect}
use Rattle.ec_script.specs.Outputs.{output_if}
use Rattle.cmd_master.specs.Doing.{Does, is_in_state}
use Rattle.cmd_master.specs.State.{MasteredState}
use Rattle.cmd_master.proofs.Doing.{read_one, state_of}
use Rattle.cmd_master.proofs.mastered.Mastered.expect_state.Goals as goal

pub returns : goal.returns
returns g c =
    let i = c.self.inside in
    let r = c.read_status-told in
    let a = c.args in
    let t : MasteredState = state_of r.new.self (g.W.Wire.state r.new.wire) i.manner i.states.items in
    subst (λ (m : MasteredState). Does (Expect (InState a.slave a.state a.code)) m t c.of_expectation.result) c.self.view_is
    (read_one a.slave a.state a.code i.session r.new.self (g.W.Wire.state i.wire) (g.W.Wire.state r.new.wire) i.manner i.states.items r.result c.of_expectation.result r.ensures
    (c.of_expectation.ensures ∙ ap output_if {y = is_in_state c.args.state c.args.code c.read_status-told.result} c.is_in_state.ensures))
