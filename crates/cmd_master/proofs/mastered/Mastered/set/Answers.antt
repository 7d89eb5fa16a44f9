use Rattle.std.proofs.Common.{subst}
use Rattle.ec_script.specs.declared.line.LineAction.TheVariants.{Set}
use Rattle.ec_script.specs.declared.output.LineOutput.TheVariants.{No, Nothing}
use Rattle.cmd_master.specs.Doing.{Does}
use Rattle.cmd_master.specs.State.{MasteredState}
use Rattle.cmd_master.proofs.Doing.{state_of, was_kept, was_set}
use Rattle.cmd_master.proofs.mastered.Mastered.set.Goals as goal

pub returns : goal.returns
returns g c =
    let t : MasteredState = state_of c.set.new.self (g.W.Wire.state c.self.inside.wire) c.self.inside.manner c.self.inside.states.items in
    subst (λ (m : MasteredState). Does (Set c.args.variable c.args.value) m t Nothing) c.self.view_is
    (was_set c.args.variable c.args.value c.self.inside.session c.set.new.self (g.W.Wire.state c.self.inside.wire) c.self.inside.manner c.self.inside.states.items c.set.result c.set.ensures.answer c.set.ensures.set c.if-not-set.false)

pub returns-then-not-set : goal.returns-then-not-set
returns-then-not-set g c =
    let t : MasteredState = state_of c.set.new.self (g.W.Wire.state c.self.inside.wire) c.self.inside.manner c.self.inside.states.items in
    subst (λ (m : MasteredState). Does (Set c.args.variable c.args.value) m t No) c.self.view_is
    (was_kept c.args.variable c.args.value c.self.inside.session c.set.new.self (g.W.Wire.state c.self.inside.wire) c.self.inside.manner c.self.inside.states.items c.set.result c.set.ensures.answer c.set.ensures.unchanged c.if-not-set.true)
