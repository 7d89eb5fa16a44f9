use Rattle.std.proofs.Common.{◌≡◌, ◌++◌, ◌∙◌, List, Option, ap, arith, drop, length, subst, sym, take}
use Rattle.ec_asking.specs.declared.answer.AlStatus.{AlStatus}
use Rattle.ec_script.specs.declared.line.LineAction.TheVariants.{States}
use Rattle.cmd_master.specs.Doing.{Does}
use Rattle.cmd_master.specs.State.{MasteredState}
use Rattle.cmd_master.proofs.Doing.{front_of, read_all, state_of}
use Rattle.cmd_master.proofs.mastered.Mastered.read_states.Goals as goal

pub returns : goal.returns
returns g c =
    let i = c.self.inside in
    let r = c.read_states-read in
    let told : List (Option AlStatus) = r.new.states in
    let all : List (Option AlStatus) = take i.states.len (told ++ drop (length told) i.states.items) in
    let own = c.deref_mut.ensures.value in
    let ok = i.states.ok in
    let long = r.ensures.count in
    let front : all ≡ told = front_of told _ i.states.len (omega (arith, ap length own, ok, long)) in
    let t : MasteredState = state_of r.new.self (g.W.Wire.state r.new.wire) i.manner all in
    subst (λ (m : MasteredState). Does States m t c.output_of_read.result) c.self.view_is
    (subst (λ (xs : List (Option AlStatus)). Does States (state_of i.session (g.W.Wire.state i.wire) i.manner i.states.items) (state_of r.new.self (g.W.Wire.state r.new.wire) i.manner xs) c.output_of_read.result) (sym front)
    (read_all i.session r.new.self (g.W.Wire.state i.wire) (g.W.Wire.state r.new.wire) i.manner i.states.items told r.result c.output_of_read.result c.output_of_read.ensures (long ∙ ap length own) r.ensures.read))
